-- What memos say of a problem.
use Rattle.std.specs.Prelude.{◌≡◌, List, [], ◌∷◌, slice_get, Some}
use Rattle.sy_terms.specs.Values.{Val}
use Rattle.sy_terms.specs.Expr.{Expr}
use Rattle.sy_terms.specs.Meaning.{functions, meaning}
use Rattle.sy_grammar_base.specs.Questions.{Question}
use Rattle.sy_loop_spec.specs.Resting.{RestsOn}
use Rattle.sy_loop_goods.specs.Telling.{TellsTruth}
use Rattle.sy_loop_goods.specs.Tellings.{HasTelling, Telling}
use Rattle.sy_loop_goods.specs.declared.memo.Memo.{Memo}

-- it is so under any body that has this value at the tuple on which the constraint rests
pub record HoldsForAll (question : Question) (telling : Telling) : Type 0 where
  pub tells : (constraint : Expr) (tuple : List Val) (body : Expr) → slice_get question.constraints telling.constraint ≡ Some constraint → RestsOn question telling.values constraint tuple →
      meaning (functions question.definitions) [] tuple body ≡ telling.value → TellsTruth question (body ∷ []) telling.values constraint (Some telling.truth)

-- whatever was told to it is so
pub record IsMemo {T N : Type 0} (number : N → Val) (question : Question) (memo : Memo T N) : Type 0 where
  pub each : (telling : Telling) → HasTelling number memo telling → HoldsForAll question telling

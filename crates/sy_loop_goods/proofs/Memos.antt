-- What a constraint tells under one body it tells under all that have the same value at the tuple on which it rests.
use Rattle.std.proofs.Common.{◌≡◌, ⊎_elim, sym, subst, ◌∙◌, Bool, true, false, List, [], ◌∷◌, Some, map, slice_get}
use Rattle.std.specs.Prelude.{◌⊎◌}
use Rattle.sy_terms.specs.Values.{Val}
use Rattle.sy_terms.specs.Expr.{Expr}
use Rattle.sy_terms.specs.Meaning.{function_from, functions, meaning}
use Rattle.sy_grammar_base.specs.Questions.{Question}
use Rattle.sy_grammar_base.specs.Solving.{AreValues}
use Rattle.sy_bank_level.specs.Banks.{Entry}
use Rattle.sy_bank_level.specs.Rows.{IsRow}
use Rattle.sy_loop_spec.specs.Pointwise.{IsPointwise}
use Rattle.sy_loop_spec.specs.Resting.{RestsOn}
use Rattle.sy_loop_spec.proofs.Goodness.{posed_in}
use Rattle.sy_loop_spec.proofs.Resting.{rest_decides, rests_on_one}
use Rattle.sy_loop_spec.proofs.Variables.{many_values}
use Rattle.sy_loop_truth.proofs.Items.{has_place}
use Rattle.sy_loop_spec.specs.Histories.{Counterexample}
use Rattle.sy_loop_goods.specs.Tellings.{HasTelling, Telling}
use Rattle.sy_loop_goods.specs.declared.memo.Memo.{Memo}
use Rattle.sy_loop_spec.specs.Goods.{assignments_of}
use Rattle.sy_loop_goods.proofs.Columns.{row_means, same_item}
use Rattle.sy_loop_goods.proofs.Told.{judges_one}
use Rattle.sy_loop_goods.specs.Judged.{judged_by}
use Rattle.sy_loop_goods.specs.Judging.{JudgesRests}
use Rattle.sy_loop_goods.specs.Memos.{HoldsForAll, IsMemo}
use Rattle.sy_loop_truth.specs.Rests.{IsRest}
use Rattle.sy_loop_goods.specs.Telling.{TellsTruth}
use Rattle.sy_loop_truth.specs.declared.rest.Rest.{Rest}

tells_alike : (question : Question) (body other : Expr) (values : List Val) (constraint : Expr) (truth : Bool) →
    meaning (functions question.definitions) (map (function_from (functions question.definitions)) (body ∷ [])) values constraint ≡
    meaning (functions question.definitions) (map (function_from (functions question.definitions)) (other ∷ [])) values constraint →
    TellsTruth question (body ∷ []) values constraint (Some truth) → TellsTruth question (other ∷ []) values constraint (Some truth)
tells_alike question body other values constraint true same holds = sym same ∙ holds
tells_alike question body other values constraint false same untrue = λ holds. untrue (same ∙ holds)

module _ (question : Question) (history : List Counterexample) (points : List (List Val)) (rest : Rest) (is : IsRest question (assignments_of history) points rest) (entry : Entry)
    (row : IsRow (functions question.definitions) points entry.term entry.row) (value : Val) (has : slice_get entry.row rest.point ≡ Some value) (values : List Val) (at : slice_get (assignments_of history) rest.place ≡ Some values) (truth : Bool) where
  means : meaning (functions question.definitions) [] is.tuple entry.term ≡ value
  means = sym (row_means (functions question.definitions) points entry rest.point is.tuple value row is.at has)

  rests_there : RestsOn question values is.constraint is.tuple
  rests_there = subst (λ vs. RestsOn question vs is.constraint is.tuple) (same_item (assignments_of history) rest.place is.values values is.stored at) is.rests

  -- what a constraint tells at its stored assignment holds for all
  pub holds_for_all : IsPointwise question → AreValues question.variables values → (constraint : Expr) → slice_get question.constraints rest.constraint ≡ Some constraint → TellsTruth question (entry.term ∷ []) values constraint (Some truth) →
      HoldsForAll question (record { constraint = rest.constraint; values = values; value = value; truth = truth })
  holds_for_all pointwise are constraint of tells = record {
    tells = λ other there body is_other on same.
        let defined = functions question.definitions in
        let this : is.constraint ≡ other = same_item question.constraints rest.constraint is.constraint other is.of is_other in
        let posed = posed_in question is.constraint pointwise (has_place question.constraints rest.constraint is.constraint is.of) in
        let many = many_values question.variables values are in
        let here : RestsOn question values is.constraint there = subst (λ c. RestsOn question values c there) (sym this) on in
        let one : is.tuple ≡ there = rests_on_one question values many is.constraint posed.0 posed.1 is.tuple there rests_there here in
        let alike : meaning defined [] is.tuple entry.term ≡ meaning defined [] is.tuple body = means ∙ sym (subst (λ t. meaning defined [] t body ≡ value) (sym one) same) in
        let told : TellsTruth question (entry.term ∷ []) values is.constraint (Some truth) = subst (λ c. TellsTruth question (entry.term ∷ []) values c (Some truth)) (same_item question.constraints rest.constraint constraint is.constraint of is.of) tells in
        subst (λ c. TellsTruth question (body ∷ []) values c (Some truth)) this
        (tells_alike question entry.term body values is.constraint truth (rest_decides question values many is.constraint posed.0 posed.1 is.tuple entry.term body rests_there alike) told);
  }

  -- what a memo was told of it is so under the kept term
  pub recalled : {T N : Type 0} (number : N → Val) (memo : Memo T N) → IsMemo number question memo → HasTelling number memo (record { constraint = rest.constraint; values = values; value = value; truth = truth }) →
      JudgesRests question history (entry.term ∷ []) (rest ∷ []) (judged_by truth)
  recalled number memo all told =
      let holds = all.each (record { constraint = rest.constraint; values = values; value = value; truth = truth }) told in
      judges_one question history (entry.term ∷ []) rest is.constraint values is.of at truth (holds.tells is.constraint is.tuple entry.term is.of rests_there means)

module _ {T N : Type 0} (number : N → Val) (question : Question) (memo after : Memo T N) (all : IsMemo number question memo) where
  -- nothing more was told
  pub memo_stays : ((telling : Telling) → HasTelling number after telling → HasTelling number memo telling) → IsMemo number question after
  memo_stays same = record { each = λ telling told. all.each telling (same telling told) }

  -- one telling more
  pub memo_more : (telling : Telling) → HoldsForAll question telling → ((other : Telling) → HasTelling number after other → HasTelling number memo other ⊎ (other ≡ telling)) → IsMemo number question after
  memo_more telling holds gains = record {
    each = λ other told. ⊎_elim
        (λ (old : HasTelling number memo other). all.each other old)
        (λ (this : other ≡ telling). subst (HoldsForAll question) (sym this) holds)
        (gains other told);
  }

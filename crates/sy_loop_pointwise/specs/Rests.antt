-- Where a constraint of a pointwise problem rests.
use Rattle.std.specs.Prelude.{List, [], ◌≡◌, false}
use Rattle.sy_terms.specs.Values.{Val}
use Rattle.sy_terms.specs.Expr.{Expr}
use Rattle.sy_terms.specs.Denoted.{vals_of}
use Rattle.sy_terms.specs.Meaning.{Function, functions, computable}
use Rattle.sy_meaning.specs.Calls.{IsCallOf}
use Rattle.sy_grammar_base.specs.Fits.{wanted_of}
use Rattle.sy_grammar_base.specs.Questions.{Question}
use Rattle.sy_loop_spec.specs.Applications.{applications}
use Rattle.sy_loop_spec.specs.Resting.{RestsOn}
use Rattle.sy_loop_spec.specs.WrittenOut.{written_out}
use Rattle.sy_loop_pointwise.specs.declared.rest.Rested.{Rested}
use Rattle.sy_loop_pointwise.specs.declared.rest.Rested.TheVariants.{Nowhere, At, Leaves}

-- it rests on the tuple, which has the sorts of the arguments of the function to be found
pub record RestsAt (question : Question) (values : List Val) (constraint : Expr) (tuple : List Val) : Type 0 where
  pub rests : RestsOn question values constraint tuple
  pub first : rests.application.0 ≡ 0
  pub call : IsCallOf (wanted_of question) (0, tuple)

-- it isn't computable there, whatever the functions to be found are
abbrev pub TermLeavesAt : Question → List Val → Expr → Type 0
TermLeavesAt question values constraint = (wanted : List Function) → computable (functions question.definitions) wanted values constraint ≡ false

-- where the constraint rests at these values of the variables
abbrev pub Rests : {T N : Type 0} → (N → Val) → Question → List Val → Expr → Rested T N → Type 0
Rests number question values constraint Nowhere = applications (written_out question constraint) ≡ []
Rests number question values constraint (At tuple) = RestsAt question values constraint (vals_of number tuple)
Rests number question values constraint Leaves = TermLeavesAt question values constraint

-- What is known of a leaf at a point.
use Rattle.std.specs.Prelude.{ℕ, Bool, true, false, ◌≡◌, ◌⊎◌, List, [], ◌∷◌, slice_get, Option, Some, None}
use Rattle.sy_terms.specs.Values.{Val}
use Rattle.sy_grammar_base.specs.Questions.{Question}
use Rattle.sy_bank_level.specs.Banks.{Entry}
use Rattle.sy_loop_spec.specs.Histories.{Counterexample}
use Rattle.sy_loop_goods.specs.Judging.{JudgesRests}
use Rattle.sy_loop_goods.specs.declared.goods.Leaving.{Leaving}
use Rattle.sy_loop_goods.specs.declared.judging.Judged.{Judged}
use Rattle.sy_loop_goods.specs.declared.judging.Judged.TheVariants.{Good, Bad, Leaves}
use Rattle.sy_loop_truth.specs.declared.rest.Rest.{Rest}

-- whether it is good
abbrev pub good_of : Judged → Bool
good_of Good = true
good_of Bad = false
good_of (Leaves place) = false

-- the leaf of this number, where a constraint isn't computable
abbrev pub leaving_of : Judged → ℕ → Option Leaving
leaving_of Good leaf = None
leaving_of Bad leaf = None
leaving_of (Leaves place) leaf = Some (record { leaf = leaf; place = place })

abbrev pub judged_by : Bool → Judged
judged_by true = Good
judged_by false = Bad

-- another leaf has the same value at the point, and the column says this of it
pub record IsCopied (leaves : List Entry) (leaf point : ℕ) (goods : List Bool) (good : Bool) : Type 0 where
  pub entry : Entry
  pub at : slice_get leaves leaf ≡ Some entry
  pub value : Val
  pub has : slice_get entry.row point ≡ Some value
  pub other : ℕ
  pub other_entry : Entry
  pub other_at : slice_get leaves other ≡ Some other_entry
  pub other_has : slice_get other_entry.row point ≡ Some value
  pub stands : slice_get goods other ≡ Some good

-- what evaluation tells of the leaf of this number
pub record IsEvaluated (question : Question) (history : List Counterexample) (leaves : List Entry) (leaf : ℕ) (here : List Rest) (judged : Judged) : Type 0 where
  pub entry : Entry
  pub at : slice_get leaves leaf ≡ Some entry
  pub judges : JudgesRests question history (entry.term ∷ []) here judged

-- what is known of the leaf of this number: what is known of another, or what evaluation tells
abbrev pub JudgesLeaf : Question → List Counterexample → List Entry → ℕ → ℕ → List Rest → List Bool → Judged → Type 0
JudgesLeaf question history leaves leaf point here goods judged =
    ((good : Bool) × IsCopied leaves leaf point goods good × (judged ≡ judged_by good)) ⊎ IsEvaluated question history leaves leaf here judged

-- What a memo was told of constraints.
use Rattle.std.specs.Prelude.{ℕ, ◌≡◌, ◌⊎◌, Bool, List, map, Contains}
use Rattle.sy_terms.specs.Values.{Val}
use Rattle.sy_terms.specs.Denoted.{val_of, vals_of}
use Rattle.sy_terms.specs.declared.sort.Value.{Value}
use Rattle.sy_loop_goods.specs.declared.memo.Memo.{Memo}
use Rattle.sy_loop_goods.specs.declared.page.Page.{Page}

-- whether the constraint of this number is true at these values of the variables, where the function to be found has this value
-- at the tuple on which it rests
pub record Telling : Type 0 where
  pub constraint : ℕ
  pub values : List Val
  pub value : Val
  pub truth : Bool

-- what stands on a page
abbrev pub telling_of : {N : Type 0} → (N → Val) → ℕ → List (Value N) → Value N × Bool → Telling
telling_of number constraint assignment pair = record { constraint = constraint; values = vals_of number assignment; value = val_of number pair.0; truth = pair.1 }

abbrev pub tellings_of : {T N : Type 0} → (N → Val) → Page T N → List Telling
tellings_of number page = map (telling_of number page.constraint page.assignment) page.truths.items

-- it stands on one of the memo's pages
pub record HasTelling {T N : Type 0} (number : N → Val) (memo : Memo T N) (telling : Telling) : Type 0 where
  pub page : Page T N
  pub of : Contains memo.pages.items page
  pub stands : Contains (tellings_of number page) telling

-- all but this one were there before
abbrev pub GainsTelling : List Telling → Telling → List Telling → Type 0
GainsTelling before telling after = (other : Telling) → Contains after other → Contains before other ⊎ (other ≡ telling)

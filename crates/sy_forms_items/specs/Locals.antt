-- The names that `let` binds, and how they are found.
use Rattle.std.specs.Prelude.{◌≡◌, ℕ, List, [], ◌∷◌, ◌++◌, Option, Some, None, map}
use Rattle.sy_terms.specs.declared.sort.Sort.{Sort}
use Rattle.sy_forms_items.specs.declared.names.Named.{Named}
use Rattle.sy_forms_items.specs.declared.locals.Local.{Local}
use Rattle.sy_forms_items.specs.Environments.{entry_under, place_among}

abbrev pub named_in : List Local → List Named
named_in locals = map (λ l. l.named) locals

-- what a name in force stands for; a name that is in force no more may stand in the table for nothing
abbrev pub in_force : {A : Type 0} → Option (Option A) → Option A
in_force None = None
in_force (Some found) = found

-- behind names that are in force each hides what its name stood for
abbrev pub HideEarlier : List Named → List Local → Type 0
HideEarlier before [] = Unit {0}
HideEarlier before (l ∷ rest) = (l.hidden ≡ place_among l.named.name before) × HideEarlier (before ++ l.named ∷ []) rest

-- the table has the last place of each name
pub record AreFound (locals : List Local) (places : List (List ℕ × Option (ℕ × Sort))) : Type 0 where
  pub last : (name : List ℕ) → in_force (entry_under name places) ≡ place_among name (named_in locals)
  pub hidden : HideEarlier [] locals

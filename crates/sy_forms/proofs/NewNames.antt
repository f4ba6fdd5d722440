-- Names that bindings may not have.
use Rattle.std.proofs.Common.{◌≡◌, refl, ap, ◌∙◌, ℕ, List, Bool, true, false}
use Rattle.std.specs.Prelude.{Ok, Some, ◌||◌, is_some, if◌then◌else◌}
use Rattle.sy_text_items.specs.Items.{Item, leaf, group}
use Rattle.sy_text_items.specs.declared.atom.Place.{Place}
use Rattle.sy_terms.specs.declared.sort.Logic.{Logic}
use Rattle.sy_scope_causes.specs.declared.cause.Cause.TheVariants as cause
use Rattle.sy_forms_items.specs.declared.names.Named.{Named}
use Rattle.sy_forms_items.specs.Environments.{place_among}
use Rattle.sy_forms_items.specs.Operators.{is_reserved}
use Rattle.sy_forms_items.specs.Parts.{place_of, symbol}
use Rattle.sy_forms_items.specs.Readings.{refuse}
use Rattle.sy_forms.specs.Terms.{new_symbol, new_binding_name}

refused : (b c : Bool) (at : Place) (name : List ℕ) → b ≡ true → (if b || c then refuse at cause.NameTaken else Ok name) ≡ refuse at cause.NameTaken
refused true c at name e = refl
refused false c at name e = absurd cc

-- a reserved one
pub new_reserved : (logic : Logic) (taken : List Named) (place : Place) (item : Item) (name : List ℕ) → symbol item ≡ Some name → is_reserved logic name ≡ true → new_binding_name logic taken place item ≡ refuse (place_of item) cause.NameTaken
new_reserved logic taken place (leaf atom at) name e reserved =
    ap (new_symbol logic taken place at) e ∙ refused (is_reserved logic name) (is_some (place_among name taken)) at name reserved
new_reserved logic taken place (group parts at) name e reserved = absurd cc

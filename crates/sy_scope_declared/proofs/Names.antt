-- A new name of a function to be found is a new name, where there is room for one more function.
use Rattle.std.proofs.Common.{◌≡◌, ◌≤◌, ◌∙◌, refl, ap, ℕ, List, length, Bool, true, false}
use Rattle.std.specs.Prelude.{Ok, cond, ◌||◌, is_some, nat_lt, if◌then◌else◌}
use Rattle.std.proofs.lemmas.Bool.{le-ltb}
use Rattle.sy_text_items.specs.declared.atom.Place.{Place}
use Rattle.sy_terms.specs.declared.sort.Logic.{Logic}
use Rattle.sy_scope_causes.specs.declared.cause.Cause.TheVariants as cause
use Rattle.sy_forms_items.specs.Environments.{entry_under}
use Rattle.sy_forms_items.specs.Operators.{is_reserved}
use Rattle.sy_forms_items.specs.Readings.{Reading, ReadingFails, refuse, ◌>>=◌}
use Rattle.sy_forms_items.specs.declared.fault.ReadEnd.{ReadEnd}
use Rattle.sy_forms_items.proofs.Readings as readings
use Rattle.sy_scope_names.specs.Contexts.{Context, has_room, new_name, new_sought}

-- the name, where there are fewer than four functions
abbrev pub with_room : Context → Place → List ℕ → Reading (List ℕ)
with_room context at new = if nat_lt (length context.sought) 4 then Ok new else refuse at cause.TooMany

by_tests : (context : Context) (at : Place) (name : List ℕ) (taken room : Bool) →
    cond taken (refuse at cause.NameTaken) (cond room (with_room context at name) (refuse at cause.TooMany))
    ≡ (cond taken (refuse at cause.NameTaken) (cond room (Ok name) (refuse at cause.TooMany)) >>= with_room context at)
by_tests context at name true room = refl
by_tests context at name false true = refl
by_tests context at name false false = refl

pub sought_by : (context : Context) (logic : Logic) (at : Place) (name : List ℕ) → new_sought context logic at name ≡ (new_name context logic at name >>= with_room context at)
sought_by context logic at name = by_tests context at name (is_reserved logic name || is_some (entry_under name context.entities)) (has_room context 1)

pub sought_fails : (context : Context) (logic : Logic) (at : Place) (name : List ℕ) (e : ReadEnd) → ReadingFails e (new_name context logic at name) → ReadingFails e (new_sought context logic at name)
sought_fails context logic at name e f = readings.fails_same e _ _ (sought_by context logic at name) (readings.fails_bind e _ (with_room context at) f)

pub sought_full : (context : Context) (logic : Logic) (at : Place) (name new : List ℕ) → new_name context logic at name ≡ Ok new → 4 ≤ length context.sought →
    new_sought context logic at name ≡ refuse at cause.TooMany
sought_full context logic at name new is full =
    sought_by context logic at name ∙ readings.bound _ new (with_room context at) is
    ∙ ap (λ (b : Bool). cond {A = Reading (List ℕ)} b (Ok new) (refuse at cause.TooMany)) (le-ltb (length context.sought) 4 full)

-- What names stand for in a body over arguments.
use Rattle.std.specs.Prelude.{ℕ, Bool, List, [], slice_get, Option, Some, None, ◌≡◌, refl}
use Rattle.std.proofs.Common.{subst}
use Rattle.sy_terms.specs.Fitting.{Signature}
use Rattle.sy_terms.specs.declared.op.Op.{Op}
use Rattle.sy_terms.specs.declared.sort.Sort.{Sort}
use Rattle.sy_terms.specs.declared.term.Fun.TheVariants.{Defined, Wanted}
use Rattle.sy_forms_items.specs.declared.names.Entity.{Entity}
use Rattle.sy_forms_items.specs.declared.names.Entity.TheVariants as entity
use Rattle.sy_forms_items.specs.declared.names.Named.{Named}
use Rattle.sy_forms_items.specs.declared.names.Role.TheVariants as role
use Rattle.sy_forms_items.specs.Environments as env
use Rattle.sy_forms_items.specs.Environments.{Sense, or_else, sense_as, declared_in}
use Rattle.sy_forms.specs.Standing.{setting_with, IsDeclared}
use Rattle.sy_forms.specs.Right.{SenseIsThere}
use Rattle.sy_forms.proofs.NamesLaws.{sorts_of}

-- in a body, over arguments alone
pub in_body : (owned : Op → Bool) (defined wanted : List Signature) (variables arguments : List Sort) (found : Option Entity) (sense : Sense) → ((it : Entity) → found ≡ Some it → IsDeclared defined wanted variables it)
    → declared_in role.Body found ≡ Some sense → SenseIsThere (setting_with owned defined [] arguments) [] sense
in_body owned defined wanted variables arguments None sense declared e = absurd cc
in_body owned defined wanted variables arguments (Some (entity.Variable position sort)) sense declared e = absurd cc
in_body owned defined wanted variables arguments (Some (entity.Function (Defined f) takes gives)) sense declared e = let same : env.Function (Defined f) takes gives ≡ sense = cc in subst (SenseIsThere (setting_with owned defined [] arguments) []) same (declared (entity.Function (Defined f) takes gives) refl)
in_body owned defined wanted variables arguments (Some (entity.Function (Wanted f) takes gives)) sense declared e = let same : env.Withheld ≡ sense = cc in subst (SenseIsThere (setting_with owned defined [] arguments) []) same tt

-- an argument, or else what is declared
pub argument_or : (owned : Op → Bool) (defined : List Signature) (arguments : List Named) (place : Option (ℕ × Sort)) (outer : Option Sense) (sense : Sense) → ((x : ℕ × Sort) → place ≡ Some x → slice_get (sorts_of arguments) x.0 ≡ Some x.1)
    → (outer ≡ Some sense → SenseIsThere (setting_with owned defined [] (sorts_of arguments)) [] sense) → or_else (sense_as env.Argument place) outer ≡ Some sense → SenseIsThere (setting_with owned defined [] (sorts_of arguments)) [] sense
argument_or owned defined arguments None outer sense inside outside e = outside e
argument_or owned defined arguments (Some x) outer sense inside outside e = let same : env.Argument x.0 x.1 ≡ sense = cc in subst (SenseIsThere (setting_with owned defined [] (sorts_of arguments)) []) same (inside x refl)

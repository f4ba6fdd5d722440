-- In a sound context terms are read rightly.
use Rattle.std.specs.Prelude.{ℕ, Bool, List, [], Option, Some, None, ◌≡◌, refl}
use Rattle.std.proofs.Common.{subst}
use Rattle.sy_terms.specs.Fitting.{Signature}
use Rattle.sy_terms.specs.declared.op.Op.{Op}
use Rattle.sy_terms.specs.declared.sort.Logic.{Logic}
use Rattle.sy_terms.specs.declared.sort.Sort.{Sort}
use Rattle.sy_terms.specs.declared.term.Fun.TheVariants.{Defined, Wanted}
use Rattle.sy_terms.specs.Logics.{number_sorts, operators_of}
use Rattle.sy_forms_items.specs.declared.names.Entity.{Entity}
use Rattle.sy_forms_items.specs.declared.names.Entity.TheVariants as entity
use Rattle.sy_forms_items.specs.declared.names.Named.{Named}
use Rattle.sy_forms_items.specs.declared.names.Role.TheVariants as role
use Rattle.sy_forms_items.specs.Environments as env
use Rattle.sy_forms_items.specs.Environments.{Sense, entry_under, place_among, declared_in}
use Rattle.sy_forms.specs.Right.{SenseIsThere, EnvironmentIsRight}
use Rattle.sy_forms.proofs.NamesLaws.{place_among_at}
use Rattle.sy_forms.proofs.Sorts.{entry_has}
use Rattle.sy_forms.proofs.Bodies.{in_body, argument_or}
use Rattle.sy_scope_names.specs.Lists.{sorts_of_names}
use Rattle.sy_scope_names.specs.Contexts.{Context}
use Rattle.sy_scope_steps.specs.Steps.{environment}
use Rattle.sy_scope.specs.Sound.{defined_in, signatures_wanted, setting_with, IsDeclared, ContextIsSound}

-- what a declared name stands for in a constraint
in_constraint : (owned : Op → Bool) (defined wanted : List Signature) (variables : List Sort) (found : Option Entity) (sense : Sense) → ((it : Entity) → found ≡ Some it → IsDeclared defined wanted variables it)
    → declared_in role.Constraint found ≡ Some sense → SenseIsThere (setting_with owned defined wanted variables) [] sense
in_constraint owned defined wanted variables None sense declared e = absurd cc
in_constraint owned defined wanted variables (Some (entity.Variable position sort)) sense declared e = let same : env.Variable position sort ≡ sense = cc in subst (SenseIsThere (setting_with owned defined wanted variables) []) same (declared (entity.Variable position sort) refl)
in_constraint owned defined wanted variables (Some (entity.Function (Defined f) takes gives)) sense declared e = let same : env.Function (Defined f) takes gives ≡ sense = cc in subst (SenseIsThere (setting_with owned defined wanted variables) []) same (declared (entity.Function (Defined f) takes gives) refl)
in_constraint owned defined wanted variables (Some (entity.Function (Wanted f) takes gives)) sense declared e = let same : env.Function (Wanted f) takes gives ≡ sense = cc in subst (SenseIsThere (setting_with owned defined wanted variables) []) same (declared (entity.Function (Wanted f) takes gives) refl)

-- in an assumption, where no function to be found may be called
in_assumption : (owned : Op → Bool) (defined wanted : List Signature) (variables : List Sort) (found : Option Entity) (sense : Sense) → ((it : Entity) → found ≡ Some it → IsDeclared defined wanted variables it)
    → declared_in role.Assumption found ≡ Some sense → SenseIsThere (setting_with owned defined [] variables) [] sense
in_assumption owned defined wanted variables None sense declared e = absurd cc
in_assumption owned defined wanted variables (Some (entity.Variable position sort)) sense declared e = let same : env.Variable position sort ≡ sense = cc in subst (SenseIsThere (setting_with owned defined [] variables) []) same (declared (entity.Variable position sort) refl)
in_assumption owned defined wanted variables (Some (entity.Function (Defined f) takes gives)) sense declared e = let same : env.Function (Defined f) takes gives ≡ sense = cc in subst (SenseIsThere (setting_with owned defined [] variables) []) same (declared (entity.Function (Defined f) takes gives) refl)
in_assumption owned defined wanted variables (Some (entity.Function (Wanted f) takes gives)) sense declared e = let same : env.Withheld ≡ sense = cc in subst (SenseIsThere (setting_with owned defined [] variables) []) same tt

declared_of : (logic : Logic) (context : Context) → ContextIsSound logic context → (name : List ℕ) (it : Entity) → entry_under name context.entities ≡ Some it → IsDeclared (defined_in context.definitions) (signatures_wanted context.sought) context.variables it
declared_of logic context sound name it e = entry_has (IsDeclared (defined_in context.definitions) (signatures_wanted context.sought) context.variables) name context.entities it sound.entities e

pub constraint_right : (logic : Logic) (context : Context) → ContextIsSound logic context → EnvironmentIsRight (number_sorts logic) (setting_with (operators_of logic) (defined_in context.definitions) (signatures_wanted context.sought) context.variables) (environment context logic role.Constraint [])
constraint_right logic context sound = record {
  theory = record { operators = λ operator. refl; sorts = λ sort. refl };
  sorts = sound.abbreviations;
  names = λ name sense e. in_constraint (operators_of logic) (defined_in context.definitions) (signatures_wanted context.sought) context.variables (entry_under name context.entities) sense (declared_of logic context sound name) e;
  constants = refl;
  lets = refl;
}

pub assumption_right : (logic : Logic) (context : Context) → ContextIsSound logic context → EnvironmentIsRight (number_sorts logic) (setting_with (operators_of logic) (defined_in context.definitions) [] context.variables) (environment context logic role.Assumption [])
assumption_right logic context sound = record {
  theory = record { operators = λ operator. refl; sorts = λ sort. refl };
  sorts = sound.abbreviations;
  names = λ name sense e. in_assumption (operators_of logic) (defined_in context.definitions) (signatures_wanted context.sought) context.variables (entry_under name context.entities) sense (declared_of logic context sound name) e;
  constants = refl;
  lets = refl;
}

pub body_right : (logic : Logic) (context : Context) → ContextIsSound logic context → (arguments : List Named) → EnvironmentIsRight (number_sorts logic) (setting_with (operators_of logic) (defined_in context.definitions) [] (sorts_of_names arguments)) (environment context logic role.Body arguments)
body_right logic context sound arguments = record {
  theory = record { operators = λ operator. refl; sorts = λ sort. refl };
  sorts = sound.abbreviations;
  names = λ name sense e. argument_or (operators_of logic) (defined_in context.definitions) arguments (place_among name arguments) (declared_in role.Body (entry_under name context.entities)) sense (place_among_at name arguments)
      (λ f. in_body (operators_of logic) (defined_in context.definitions) (signatures_wanted context.sought) context.variables (sorts_of_names arguments) (entry_under name context.entities) sense (declared_of logic context sound name) f) e;
  constants = refl;
  lets = refl;
}

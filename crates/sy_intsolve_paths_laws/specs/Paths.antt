-- Paths on the variables of a query.
use Rattle.std.specs.Prelude.{◌≡◌, true, List, [], ◌∷◌, ◌++◌, length, All, Some}
use Rattle.sy_terms.specs.declared.sort.Sort.{Sort}
use Rattle.sy_terms.specs.declared.sort.Sort.TheVariants as sorts
use Rattle.sy_linear_known.specs.declared.path.Fact.{Fact}
use Rattle.sy_linear_known.specs.declared.path.Fact.TheVariants.{AtLeast, Is}
use Rattle.sy_linear_known.specs.declared.path.Test.{Test}
use Rattle.sy_linear_known.specs.Paths.{given}
use Rattle.sy_linear_known.specs.Trees.{added_fact, opposite_fact, IsOf, OverIntegers}
use Rattle.sy_linear.specs.Judging.{suits, opposite_fits}
use Rattle.sy_simplex.specs.Problems.{IsForm}

-- the fact is on variables of the query, each of the sort that it asks for, in ascending order
abbrev pub Suit : List Sort → Fact → Type 0
Suit vars (AtLeast f) = IsForm (length vars) f × OverIntegers vars f.coefs
Suit vars (Is u b) = IsOf sorts.Bool vars u

-- the fact is what the path's first fact on its variable says
abbrev pub AgreesWithPath : List Fact → Fact → Type 0
AgreesWithPath path (AtLeast f) = Unit {0}
AgreesWithPath path (Is u b) = given u path ≡ Some b

-- each fact suits the variables, and no two facts give a variable different truth values
pub record IsPath (vars : List Sort) (path : List Fact) : Type 0 where
  pub each : All (Suit vars) path
  pub told : All (AgreesWithPath path) path

-- a test that can be split on: on variables of the query, with a negation that fits, and with either the path stays one
pub record TestIsOpen (vars : List Sort) (path : List Fact) (test : Test) : Type 0 where
  pub suits : suits vars test ≡ true
  pub fits : opposite_fits test ≡ true
  pub left : IsPath vars (path ++ added_fact test ∷ [])
  pub right : IsPath vars (path ++ opposite_fact test ∷ [])

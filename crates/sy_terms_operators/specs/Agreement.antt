-- When functions to be found agree: they give the same at given calls.
use Rattle.std.specs.Prelude.{ℕ, List, ◌≡◌, slice_get, Contains}
use Rattle.sy_terms.specs.Values.{Val}
use Rattle.sy_terms.specs.Expr.{Expr, Exprs}
use Rattle.sy_terms.specs.Meaning.{Function, called, meaning, meanings, asked, all_asked}

-- the same value at each of these calls
abbrev pub Agree : List Function → List Function → List (ℕ × List Val) → Type 0
Agree wanted others calls = (call : ℕ × List Val) → Contains calls call → called (slice_get wanted call.0) call.1 ≡ called (slice_get others call.0) call.1

-- under the others the term has the same value, and asks for the same
pub record SameUnder (defined wanted others : List Function) (values : List Val) (term : Expr) : Type 0 where
  pub value : meaning defined wanted values term ≡ meaning defined others values term
  pub asks : asked defined wanted values term ≡ asked defined others values term

pub record AllSameUnder (defined wanted others : List Function) (values : List Val) (terms : Exprs) : Type 0 where
  pub values_are : meanings defined wanted values terms ≡ meanings defined others values terms
  pub asks : all_asked defined wanted values terms ≡ all_asked defined others values terms

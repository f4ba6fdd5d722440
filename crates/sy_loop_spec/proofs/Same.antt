-- The functions of bodies with the same values.
use Rattle.std.specs.Prelude.{ℕ, zero, suc, List, [], ◌∷◌, ◌≡◌, refl, slice_get, Some, map, length}
use Rattle.std.proofs.Common.{arith}
use Rattle.sy_terms.specs.Values.{Val}
use Rattle.sy_terms.specs.Expr.{Expr}
use Rattle.sy_terms.specs.Meaning.{Function, function_from, called, meaning}

-- the functions of two lists of bodies have the same value where the two of one number do
pub same_called : (defined : List Function) (bodies others : List Expr) (function : ℕ) (tuple : List Val) → length bodies ≡ length others →
    ((body other : Expr) → slice_get bodies function ≡ Some body → slice_get others function ≡ Some other → meaning defined [] tuple body ≡ meaning defined [] tuple other) →
    called (slice_get (map (function_from defined) bodies) function) tuple ≡ called (slice_get (map (function_from defined) others) function) tuple
same_called defined [] [] function tuple many each = refl
same_called defined [] (other ∷ others) function tuple many each = absurd (omega (arith, many))
same_called defined (body ∷ bodies) [] function tuple many each = absurd (omega (arith, many))
same_called defined (body ∷ bodies) (other ∷ others) zero tuple many each = each body other refl refl
same_called defined (body ∷ bodies) (other ∷ others) (suc function) tuple many each = same_called defined bodies others function tuple (omega (arith, many)) each

-- Which combinations of kept terms a scan may name.
use Rattle.std.specs.Prelude.{◌≡◌, ◌≤◌, ◌+◌, ℕ, List, [], ◌∷◌, Option, Some, None, slice_get}
use Rattle.std.specs.Option.{option_map}
use Rattle.sy_loop_scan.specs.declared.guess.Guess.{Guess}
use Rattle.sy_loop_scan.specs.declared.guess.Pool.{Pool}
use Rattle.sy_loop_scan.specs.declared.guess.Shape.{Shape}

-- what is at the place, where the list is known
unfoldable pub size_in : Option Pool → ℕ → Option ℕ
size_in None part = None
size_in (Some pool) part = slice_get pool.sizes.items part

unfoldable pub added : Option ℕ → Option ℕ → Option ℕ
added None rest = None
added (Some size) rest = option_map (λ n. size + n) rest

-- the sum of the sizes of the kept terms at these places, each in its operand's pool
unfoldable pub total_size : List Pool → List ℕ → List ℕ → Option ℕ
total_size pools [] [] = Some 0
total_size pools [] (part ∷ parts) = None
total_size pools (operand ∷ operands) [] = None
total_size pools (operand ∷ operands) (part ∷ parts) =
    added (size_in (slice_get pools operand) part) (total_size pools operands parts)

-- a kept term for each operand of one of the shapes, and their sizes with the shape's within the bound
pub record IsGuess (shapes : List Shape) (pools : List Pool) (bound : ℕ) (guess : Guess) : Type 0 where
  pub shape : Shape
  pub size : ℕ
  pub is : slice_get shapes guess.shape ≡ Some shape
  pub sized : total_size pools shape.operands.items guess.parts.items ≡ Some size
  pub within : shape.size + size ≤ bound

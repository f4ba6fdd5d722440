-- When a table is whole.
use Rattle.std.specs.Prelude.{ℕ, ◌≡◌, List, slice_get, Some, Contains}
use Rattle.sy_loop_pointwise.specs.Shapes.{Shape, AreSubterms}
use Rattle.sy_loop_pointwise.specs.Keys.{key_of}

-- the shapes are subterms, and each is found by its key
pub record TableIsWhole (shapes : List Shape) (places : ℕ → List ℕ) : Type 0 where
  pub are : AreSubterms shapes
  pub found : (place : ℕ) (shape : Shape) → slice_get shapes place ≡ Some shape → Contains (places (key_of shape)) place

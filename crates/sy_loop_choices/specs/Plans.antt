-- Which plans there are.
use Rattle.std.specs.Prelude.{◌≡◌, ◌<◌, ℕ, List, All, length, Some, slice_get}
use Rattle.sy_loop_choices.specs.declared.columns.Pool.{Pool}
use Rattle.sy_loop_choices.specs.declared.columns.Shape.{Shape}
use Rattle.sy_loop_choices.specs.declared.plan.Node.{Node}
use Rattle.sy_loop_choices.specs.declared.plan.Node.TheVariants.{Kept, Rule}
use Rattle.sy_loop_choices.specs.declared.plan.Plan.{Plan}

-- a kept term that there is, or a shape over a step for each of its parts, all of them before the step of this number
abbrev pub IsStep : List Pool → List Shape → ℕ → Node → Type 0
IsStep pools shapes number (Kept pool place) =
    (found : Pool) × (slice_get pools pool ≡ Some found) × (place < length found.columns.items)
IsStep pools shapes number (Rule shape parts) =
    (found : Shape) × (slice_get shapes shape ≡ Some found)
    × (length parts.items ≡ length found.operands.items) × All (λ part. part < number) parts.items

-- steps over earlier ones, and one at least
pub record IsPlan (pools : List Pool) (shapes : List Shape) (plan : Plan) : Type 0 where
  pub some : 0 < length plan.nodes.items
  pub each : (number : ℕ) (step : Node) → slice_get plan.nodes.items number ≡ Some step
      → IsStep pools shapes number step

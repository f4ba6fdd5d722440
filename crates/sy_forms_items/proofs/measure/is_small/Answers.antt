use Rattle.std.proofs.Common.{◌≡◌, ◌+◌, ℕ, refl, arith}
use Rattle.std.specs.Prelude.{min, nat_le}
use Rattle.sy_forms_items.proofs.measure.is_small.Goals as goal

capped : (n most : ℕ) → nat_le (min (most + 1) n) most ≡ nat_le n most
capped n most = grind arith

pub returns : goal.returns
returns g c =
    rw (c.is_within.ensures, c.is_within-2.ensures, c.unfolded_size-size.ensures, c.unfolded_depth-depth.ensures, c.as_slice.ensures, c.as_slice-2.ensures, capped _ 1000000, capped _ 1200) refl

use Rattle.std.proofs.Common.{◌≡◌, not, length}
use Rattle.sy_terms.specs.Values.{same, all_pairs}
use Rattle.sy_terms.specs.Denoted.{vals_of}
use Rattle.sy_meaning_core.proofs.equality.all_distinct.Given as goal

abbrev pub invariant-loop-first : goal.invariant-loop-first
invariant-loop-first g l =
    all_pairs (λ x y. not (same x y)) (vals_of g.N.Number.denotes l.values) ≡ all_pairs (λ x y. not (same x y)) (vals_of g.N.Number.denotes l.left)

abbrev pub decreases-loop-first : goal.decreases-loop-first
decreases-loop-first g l = length l.left

use Rattle.std.proofs.Common.{◌≡◌, ◌<◌, ◌≤◌, ℕ, map, true}
use Rattle.sy_terms.specs.Denoted.{val_of}
use Rattle.sy_grammar_sizes.specs.Constants.{are_one}
use Rattle.sy_grammar_sizes.proofs.chains_constants.largest_up_to.Given as goal

abbrev pub invariant-loop-magnitude : goal.invariant-loop-magnitude
invariant-loop-magnitude g l = (l.magnitude ≤ l.top) × ((m : ℕ) → l.magnitude < m → m ≤ l.top → are_one (map (val_of g.T.Theory.denotes) l.pool) l.sort m ≡ true)

abbrev pub decreases-loop-magnitude : goal.decreases-loop-magnitude
decreases-loop-magnitude g l = l.magnitude

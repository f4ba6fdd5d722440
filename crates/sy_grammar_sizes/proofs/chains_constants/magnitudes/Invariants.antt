use Rattle.std.proofs.Common.{◌≡◌, ℕ, map, take, nat_eq}
use Rattle.std.specs.List.{list_any}
use Rattle.std.specs.HashSet.{contains}
use Rattle.sy_terms.specs.Denoted.{val_of}
use Rattle.sy_grammar_sizes.specs.Constants.{is_at}
use Rattle.sy_grammar_sizes.proofs.chains_constants.magnitudes.Given as goal

abbrev pub invariant-loop-value : goal.invariant-loop-value
invariant-loop-value g l = (magnitude : ℕ) → contains nat_eq l.found magnitude ≡ list_any (is_at l.sort magnitude l.negative) (map (val_of g.T.Theory.denotes) (take l.value-index l.pool))

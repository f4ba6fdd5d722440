use Rattle.std.proofs.Common.{◌≡◌, map, take, false}
use Rattle.std.specs.List.{list_any}
use Rattle.sy_terms.specs.Values.{same}
use Rattle.sy_terms.specs.Denoted.{val_of}
use Rattle.sy_grammar_sizes.proofs.constants.is_in_pool.Given as goal

abbrev pub invariant-loop-other : goal.invariant-loop-other
invariant-loop-other g l = list_any (same (val_of g.T.Theory.denotes l.value)) (map (val_of g.T.Theory.denotes) (take l.other-index l.pool)) ≡ false

use Rattle.std.proofs.Common.{◌≡◌, map, take}
use Rattle.sy_terms.specs.Denoted.{vals_of}
use Rattle.sy_loop_banks.proofs.banks.are_same.Given as goal

abbrev pub invariant-loop-place : goal.invariant-loop-place
invariant-loop-place g l = map (vals_of g.T.Theory.denotes) (take l.place l.points) ≡ map (vals_of g.T.Theory.denotes) (take l.place l.others)

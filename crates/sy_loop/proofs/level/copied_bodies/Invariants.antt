use Rattle.std.proofs.Common.{◌≡◌, map, take}
use Rattle.sy_terms.specs.Denoted.{expr_of}
use Rattle.sy_bank_level.specs.Stored.{chosen_of}
use Rattle.sy_bank_level.specs.Covering.{terms}
use Rattle.sy_loop.proofs.level.copied_bodies.Given as goal

abbrev pub invariant-loop-kept : goal.invariant-loop-kept
invariant-loop-kept g l = map (expr_of g.T.Theory.denotes) l.bodies ≡ terms (chosen_of g.T.Theory.denotes (take l.kept-index l.chosen))

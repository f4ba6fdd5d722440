use Rattle.sy_verify.proofs.Outside.{AreMembersBefore}
use Rattle.sy_verify.proofs.members.first_outside.Given as goal

abbrev pub invariant-loop-place : goal.invariant-loop-place
invariant-loop-place g l = AreMembersBefore g.T.Theory.denotes l.wanted l.bodies l.place

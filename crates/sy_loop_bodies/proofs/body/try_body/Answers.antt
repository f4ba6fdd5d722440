use Rattle.sy_loop_bodies.proofs.body.try_body.Goals as goal

pub proof_of-requires-clause-within : goal.proof_of-requires-clause-within
proof_of-requires-clause-within g c = rw (c.in_ok-push.ensures.ok, c.new-bodies.ensures) c.requires.term

pub returns-clause-found : goal.returns-clause-found
returns-clause-found g c = rw c.in-Some.is at c.in_ok-found.ensures.found

use Rattle.sy_loop_bodies.proofs.guess.guessed_term.Goals as goal

pub returns-then-small : goal.returns-then-small
returns-then-small g c = c.in_ok-small.ensures c.if-small.true

use Rattle.sy_intsolve.proofs.Points.{place-point}
use Rattle.sy_intsolve.proofs.open.point_at.Goals as goal

pub returns : goal.returns
returns c = place-point c.args.query.now.vars c.args.way.now.facts.items c.args.pivots c.in_ok-end.end.answer c.in_ok-end.ensures

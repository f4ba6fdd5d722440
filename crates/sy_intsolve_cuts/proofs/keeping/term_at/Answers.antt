use Rattle.sy_intsolve_cuts.proofs.Evaluating.{term-value}
use Rattle.sy_intsolve_cuts.proofs.keeping.term_at.Goals as goal

pub returns : goal.returns
returns c = term-value c.mul.result c.in_ok-factor.factor c.in_ok-number.number c.args.coefficient.now.1 c.args.point.now c.args.coefficient.now.0 _ c.in_ok-factor.ensures.1 c.in_ok-number.ensures.1 c.in_ok-factor.ensures.0 c.in_ok-number.ensures.0 c.mul.ensures

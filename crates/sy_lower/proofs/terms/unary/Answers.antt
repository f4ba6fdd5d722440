use Rattle.std.proofs.Common.{ap}
use Rattle.sy_terms.specs.Expr.{Apply}
use Rattle.sy_terms.specs.Denoted.{expr_of-App}
use Rattle.sy_lower.proofs.Lists.{one_pushed}
use Rattle.sy_lower.proofs.terms.unary.Goals as goal

pub returns : goal.returns
returns c = rw (expr_of-App) (ap (Apply c.args.operator) (one_pushed _ _ c.args.argument c.in_ok-arguments.ensures c.in_ok-push.ensures.ok))

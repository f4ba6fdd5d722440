use Rattle.std.proofs.Common.{ap}
use Rattle.sy_terms.specs.Expr.{Apply}
use Rattle.sy_terms.specs.Denoted.{expr_of-App}
use Rattle.sy_lower.proofs.Lists.{three_pushed}
use Rattle.sy_lower.proofs.terms.ternary.Goals as goal

pub returns : goal.returns
returns c = rw (expr_of-App) (ap (Apply c.args.operator) (three_pushed _ _ _ _ c.args.first c.args.second c.args.third c.in_ok-arguments.ensures c.in_ok-push.ensures.ok c.in_ok-push-2.ensures.ok c.in_ok-push-3.ensures.ok))

use Rattle.std.proofs.Common.{ap}
use Rattle.sy_terms.specs.Expr.{Apply}
use Rattle.sy_terms.specs.declared.op.Op.TheVariants as ops
use Rattle.sy_rewrite_orders.proofs.compared.chosen_of.Goals as goal

pub returns : goal.returns
returns g c = rw (c.in-Ite.is) (ap (Apply ops.Ite) c.in_ok-parts.ensures)

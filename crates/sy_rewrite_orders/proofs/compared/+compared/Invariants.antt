use Rattle.sy_terms.specs.Expr.{nodes}
use Rattle.sy_terms.specs.Denoted.{expr_of}
use Rattle.sy_rewrite_orders.proofs.compared.+compared.Given as goal

abbrev pub decreases-compared : goal.decreases-compared
decreases-compared g l = nodes (expr_of g.T.Theory.denotes l.term.now)

use Rattle.sy_terms.specs.Expr.{more, none}
use Rattle.sy_terms.specs.Denoted.{expr_of, exprs_of}
use Rattle.sy_rewrite_orders.specs.Alike.{SayTheSame}
use Rattle.sy_rewrite_orders.proofs.facts.with_facts.Given as goal

abbrev pub invariant-loop-triple : goal.invariant-loop-triple
invariant-loop-triple g l = SayTheSame (exprs_of g.T.Theory.denotes l.parts.items.items) (more (expr_of g.T.Theory.denotes l.fn.term) none)

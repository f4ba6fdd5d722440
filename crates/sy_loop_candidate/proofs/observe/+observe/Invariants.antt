use Rattle.std.proofs.Common.{◌+◌, ◌*◌}
use Rattle.sy_terms.specs.Expr.{nodes, nodes_of}
use Rattle.sy_terms.specs.Denoted.{vals_of, expr_of, exprs_of}
use Rattle.sy_terms_operators.proofs.Lists.{weight}
use Rattle.sy_loop_candidate.specs.Bodies.{bodies_of}
use Rattle.sy_loop_candidate.proofs.Told.{AreToldTo}
use Rattle.sy_loop_candidate.proofs.observe.+observe.Given as goal

abbrev pub decreases-observe : goal.decreases-observe
decreases-observe g l = 2 * (nodes (expr_of g.T.Theory.denotes l.term.now) + weight g.T.Theory.denotes l.defs.now)

abbrev pub decreases-observe_all : goal.decreases-observe_all
decreases-observe_all g l = 2 * (nodes_of (exprs_of g.T.Theory.denotes l.terms.now.items.items) + weight g.T.Theory.denotes l.defs.now) + 1

abbrev pub invariant-observe_all-loop-term : goal.invariant-observe_all-loop-term
invariant-observe_all-loop-term g l =
    AreToldTo g.T.Theory.owned g.T.Theory.denotes l.defs (bodies_of g.T.Theory.denotes l.chosen) l.points (vals_of g.T.Theory.denotes l.values) l.term-items l.term-index (vals_of g.T.Theory.denotes l.found.items)

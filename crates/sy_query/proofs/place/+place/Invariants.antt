use Rattle.std.proofs.Common.{◌≡◌, ◌+◌, ◌*◌, take, length}
use Rattle.sy_terms.specs.Expr.{nodes, nodes_of}
use Rattle.sy_terms.specs.Denoted.{expr_of, exprs_of}
use Rattle.sy_terms_operators.proofs.Lists.{weight}
use Rattle.sy_terms_operators.proofs.Reached.{weight_of}
use Rattle.sy_query_base.specs.Weights.{query_scope}
use Rattle.sy_query.specs.Placing.{all_placed_with, AreBuilt}
use Rattle.sy_query.proofs.place.+place.Given as goal

abbrev pub decreases-place : goal.decreases-place
decreases-place g l = 3 * (nodes (expr_of g.T.Theory.denotes l.term.now) + (weight g.T.Theory.denotes l.defs.now + weight_of g.T.Theory.denotes l.bodies.now))

abbrev pub decreases-place_all : goal.decreases-place_all
decreases-place_all g l = 3 * (nodes_of (exprs_of g.T.Theory.denotes l.terms.now) + (weight g.T.Theory.denotes l.defs.now + weight_of g.T.Theory.denotes l.bodies.now)) + 1

abbrev pub decreases-call : goal.decreases-call
decreases-call g l = 3 * (weight g.T.Theory.denotes l.defs.now + weight_of g.T.Theory.denotes l.bodies.now)

abbrev pub decreases-bind : goal.decreases-bind
decreases-bind g l = 3 * (nodes (expr_of g.T.Theory.denotes l.inner.now) + (weight g.T.Theory.denotes l.defs.now + weight_of g.T.Theory.denotes l.bodies.now)) + 1

abbrev pub invariant-place_all-loop-term : goal.invariant-place_all-loop-term
invariant-place_all-loop-term g l =
    AreBuilt (query_scope g.T.Theory.owned) l.fn.room.sorts.items (all_placed_with g.T.Theory.denotes l.defs l.bodies l.first (length l.fn.room.sorts.items) (exprs_of g.T.Theory.denotes (take l.term-index l.terms))) l.fn.room.left l.room.left (exprs_of g.T.Theory.denotes l.placed.items.items) l.sorts.items ×
    (l.room.sorts.items ≡ l.fn.room.sorts.items)

use Rattle.std.proofs.Common.{◌≡◌, ◌+◌, ◌*◌, take}
use Rattle.sy_terms.specs.Expr.{nodes, nodes_of}
use Rattle.sy_terms.specs.Denoted.{expr_of, exprs_of}
use Rattle.sy_rewrite_orders.specs.Replaced.{AreReplaced}
use Rattle.sy_rewrite_orders.proofs.written.+written.Given as goal

abbrev pub decreases-written : goal.decreases-written
decreases-written g l = 2 * (nodes (expr_of g.T.Theory.denotes l.term.now) + 0)

abbrev pub decreases-all_written : goal.decreases-all_written
decreases-all_written g l = 2 * (nodes_of (exprs_of g.T.Theory.denotes l.terms.now) + 0) + 1

abbrev pub invariant-all_written-loop-term : goal.invariant-all_written-loop-term
invariant-all_written-loop-term g l = record {
  kept : l.names.items ≡ l.fn.names.items;
  replaced : AreReplaced l.count (exprs_of g.T.Theory.denotes l.fn.names.items) (exprs_of g.T.Theory.denotes l.all.items.items) (exprs_of g.T.Theory.denotes (take l.term-index l.terms));
}

use Rattle.std.proofs.Common.{◌≡◌, ◌+◌, ◌*◌, true, drop}
use Rattle.sy_terms.specs.Values.{Whole}
use Rattle.sy_terms.specs.Expr.{nodes, nodes_of}
use Rattle.sy_terms.specs.Denoted.{expr_of, exprs_of}
use Rattle.sy_linear_known.specs.Seen.{all_seen, nothing_found}
use Rattle.sy_linear_known.specs.Fitting.{all_fit}
use Rattle.sy_linear_known.proofs.walk.+walk.Given as goal

abbrev pub decreases-walk : goal.decreases-walk
decreases-walk l = 3 * nodes (expr_of Whole l.term.now)

abbrev pub decreases-walk_if : goal.decreases-walk_if
decreases-walk_if l = 3 * nodes (expr_of Whole l.term.now) + 1

abbrev pub decreases-walk_all : goal.decreases-walk_all
decreases-walk_all l = 3 * nodes_of (exprs_of Whole l.terms.now.items.items) + 2

abbrev pub invariant-walk_all-loop-term : goal.invariant-walk_all-loop-term
invariant-walk_all-loop-term l = record {
  kept : all_seen l.vars l.path l.names.items l.choice l.next l.found (exprs_of Whole (drop l.term-index l.term-items)) ≡ all_seen l.vars l.path l.names.items l.choice l.fn.next nothing_found (exprs_of Whole l.term-items);
  names : l.names.items ≡ l.fn.names.items;
  next : l.next + nodes_of (exprs_of Whole (drop l.term-index l.term-items)) ≡ l.fn.next + nodes_of (exprs_of Whole l.term-items);
  fits : all_fit l.found.sights ≡ true;
}

use Rattle.std.proofs.Common.{◌≡◌, ◌+◌, ◌*◌, take, Some}
use Rattle.sy_terms.specs.Expr.{nodes, nodes_of}
use Rattle.sy_terms.specs.Denoted.{expr_of, exprs_of}
use Rattle.sy_terms.specs.Fitting.{sorts_in}
use Rattle.sy_meaning.specs.Signatures.{scope_and_wanted}
use Rattle.sy_meaning.proofs.fitting.+term_sort.Given as goal

abbrev pub decreases-term_sort : goal.decreases-term_sort
decreases-term_sort g l = 2 * nodes (expr_of g.T.Theory.denotes l.term.now)

abbrev pub decreases-term_sorts : goal.decreases-term_sorts
decreases-term_sorts g l = 2 * nodes_of (exprs_of g.T.Theory.denotes l.terms.now.items.items) + 1

abbrev pub invariant-term_sorts-loop-term : goal.invariant-term_sorts-loop-term
invariant-term_sorts-loop-term g l = sorts_in (scope_and_wanted g.T.Theory.owned l.defs l.wanted) l.sorts (exprs_of g.T.Theory.denotes (take l.term-index l.term-items)) ≡ Some l.found.items

use Rattle.std.proofs.Common.{◌≡◌, ◌+◌, ◌*◌, take}
use Rattle.sy_terms.specs.Values.{Whole}
use Rattle.sy_terms.specs.Expr.{nodes, nodes_of}
use Rattle.sy_terms.specs.Denoted.{expr_of, exprs_of}
use Rattle.sy_lower_laws.specs.Lowering.{all_lowered, bound_lowered}
use Rattle.sy_lower.specs.Stored.{progress_in, GivesAll}
use Rattle.sy_lower.proofs.walk.+walk.Given as goal

abbrev pub decreases-walk : goal.decreases-walk
decreases-walk l = 2 * (nodes (expr_of Whole l.term.now) + 0)

abbrev pub decreases-walk_all : goal.decreases-walk_all
decreases-walk_all l = 2 * (nodes_of (exprs_of Whole l.terms.now) + 0) + 1

abbrev pub decreases-walk_bound : goal.decreases-walk_bound
decreases-walk_bound l = 2 * (nodes_of (exprs_of Whole l.bound.now) + 0) + 1

abbrev pub invariant-walk_all-loop-term : goal.invariant-walk_all-loop-term
invariant-walk_all-loop-term l = record {
  names : l.names.items ≡ l.fn.names.items;
  lowered : GivesAll (exprs_of Whole l.all.items.items) (progress_in l.progress) (all_lowered (exprs_of Whole l.fn.names.items) (progress_in l.fn.progress) (exprs_of Whole (take l.term-index l.terms)));
}

abbrev pub invariant-walk_bound-loop-term : goal.invariant-walk_bound-loop-term
invariant-walk_bound-loop-term l = record {
  names : l.names.items ≡ l.fn.names.items;
  lowered : GivesAll (exprs_of Whole l.all.items) (progress_in l.progress) (bound_lowered (exprs_of Whole l.fn.names.items) (progress_in l.fn.progress) (exprs_of Whole (take l.term-index l.bound)));
}

use Rattle.std.specs.Prelude.{All}
use Rattle.std.proofs.Common.{◌+◌, ◌*◌, take}
use Rattle.sy_terms.specs.Expr.{nodes, nodes_of}
use Rattle.sy_terms.specs.Denoted.{vals_of, expr_of, exprs_of}
use Rattle.sy_terms.specs.Meaning.{functions}
use Rattle.sy_terms.specs.Definitions.{bodies}
use Rattle.sy_terms_operators.specs.Evaluation.{BodiesFit, TermsFit, HaveValues, scope_with, wanted_functions}
use Rattle.sy_terms_operators.specs.Asking.{all_asks}
use Rattle.sy_terms_operators.specs.Tracing.{GainsCalls}
use Rattle.sy_meaning.specs.Calls.{IsCallOf}
use Rattle.sy_terms_operators.proofs.Lists.{weight}
use Rattle.sy_terms_operators.proofs.Reached.{weight_of}
use Rattle.sy_meaning.proofs.evaluation.+evaluate.Given as goal

abbrev pub decreases-evaluate_under : goal.decreases-evaluate_under
decreases-evaluate_under g l = 2 * (nodes (expr_of g.T.Theory.denotes l.term.now) + (weight g.T.Theory.denotes l.defs.now + weight_of g.T.Theory.denotes l.bodies.now))

abbrev pub decreases-evaluate_all : goal.decreases-evaluate_all
decreases-evaluate_all g l = 2 * (nodes_of (exprs_of g.T.Theory.denotes l.terms.now.items.items) + (weight g.T.Theory.denotes l.defs.now + weight_of g.T.Theory.denotes l.bodies.now)) + 1

abbrev pub invariant-evaluate_all-loop-term : goal.invariant-evaluate_all-loop-term
invariant-evaluate_all-loop-term g l =
    ((wanted : _) → BodiesFit g.T.Theory.owned g.T.Theory.denotes l.defs l.bodies wanted → TermsFit (scope_with g.T.Theory.owned l.defs wanted) (vals_of g.T.Theory.denotes l.values) (exprs_of g.T.Theory.denotes l.term-items) → HaveValues (scope_with g.T.Theory.owned l.defs wanted) (functions (bodies g.T.Theory.denotes l.defs)) (wanted_functions g.T.Theory.denotes l.defs l.bodies) (vals_of g.T.Theory.denotes l.values) (exprs_of g.T.Theory.denotes (take l.term-index l.term-items)) (vals_of g.T.Theory.denotes l.found.items)) ×
    GainsCalls l.fn.trace (all_asks g.T.Theory.denotes l.defs l.bodies (vals_of g.T.Theory.denotes l.values) (exprs_of g.T.Theory.denotes (take l.term-index l.term-items))) l.trace ×
    ((wanted : _) → BodiesFit g.T.Theory.owned g.T.Theory.denotes l.defs l.bodies wanted → TermsFit (scope_with g.T.Theory.owned l.defs wanted) (vals_of g.T.Theory.denotes l.values) (exprs_of g.T.Theory.denotes l.term-items) → All (IsCallOf wanted) (all_asks g.T.Theory.denotes l.defs l.bodies (vals_of g.T.Theory.denotes l.values) (exprs_of g.T.Theory.denotes (take l.term-index l.term-items))))

use Rattle.std.proofs.Common.{◌≡◌, length}
use Rattle.sy_terms.specs.Definitions.{bodies, scope_of}
use Rattle.sy_terms.specs.Denoted.{vals_of}
use Rattle.sy_terms.specs.Meaning.{functions}
use Rattle.sy_loop_pointwise.specs.Denoted.{shapes_of}
use Rattle.sy_loop_pointwise.specs.Shapes.{subterms}
use Rattle.sy_loop_pointwise.specs.Valued.{EachIsValued}
use Rattle.sy_loop_pointwise.proofs.valued.first_valued.Given as goal

abbrev pub invariant-loop-shape : goal.invariant-loop-shape
invariant-loop-shape g l =
    let number = g.T.Theory.denotes in
    record {
      many : length l.found.items ≡ l.shape-index;
      each : EachIsValued number (scope_of g.T.Theory.owned l.fn.defs) (functions (bodies number l.fn.defs)) (vals_of number l.fn.values) (subterms (shapes_of number l.fn.shapes)) l.found.items;
    }

use Rattle.std.proofs.Common.{◌≡◌, length}
use Rattle.sy_loop_pointwise.specs.Denoted.{shapes_of}
use Rattle.sy_loop_pointwise.specs.Shapes.{subterms}
use Rattle.sy_loop_pointwise.specs.Asked.{AreKnown}
use Rattle.sy_loop_pointwise.proofs.asks.all_asks.Given as goal

abbrev pub invariant-loop-shape : goal.invariant-loop-shape
invariant-loop-shape g l = record {
  many : length l.asks.items ≡ l.shape-index;
  known : AreKnown (subterms (shapes_of g.T.Theory.denotes l.fn.shapes)) l.asks.items;
}

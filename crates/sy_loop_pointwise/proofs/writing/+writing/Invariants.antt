use Rattle.std.proofs.Common.{take, length}
use Rattle.sy_terms.specs.Denoted.{exprs_of}
use Rattle.sy_loop_pointwise.specs.Shapes.{AreBelow, AreNumbered}
use Rattle.sy_loop_pointwise.proofs.writing.+writing.Given as goal

abbrev pub invariant-numbers_of-loop-term : goal.invariant-numbers_of-loop-term
invariant-numbers_of-loop-term g l = record {
  below : AreBelow (length l.table) l.names;
  numbered : AreNumbered l.fn.table l.table l.fn.names (exprs_of g.T.Theory.denotes (take l.term-index l.term-items)) l.numbers;
}

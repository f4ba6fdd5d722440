use Rattle.std.proofs.Common.{take}
use Rattle.sy_terms.specs.Denoted.{exprs_of, vals_of}
use Rattle.sy_loop_pointwise.specs.Valued.{AreConstants}
use Rattle.sy_loop_pointwise.proofs.valued.constants.Given as goal

abbrev pub invariant-loop-value : goal.invariant-loop-value
invariant-loop-value g l = AreConstants (exprs_of g.T.Theory.denotes l.terms.items.items) (vals_of g.T.Theory.denotes (take l.value-index l.values))

use Rattle.std.proofs.Common.{take}
use Rattle.sy_terms.specs.Definitions.{DefinitionsFit}
use Rattle.sy_loop_chosen.proofs.values.are_defined.Given as goal

abbrev pub invariant-loop-number : goal.invariant-loop-number
invariant-loop-number g l = DefinitionsFit g.T.Theory.owned g.T.Theory.denotes (take l.number l.all)

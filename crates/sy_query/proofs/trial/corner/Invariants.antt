use Rattle.std.proofs.Common.{take}
use Rattle.sy_terms.specs.Denoted.{vals_of}
use Rattle.sy_grammar_base.specs.Solving.{AreValues}
use Rattle.sy_query.proofs.trial.corner.Given as goal

abbrev pub invariant-loop-sort : goal.invariant-loop-sort
invariant-loop-sort g l = AreValues (take l.sort-index l.vars) (vals_of g.T.Theory.denotes l.values)

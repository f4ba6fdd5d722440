use Rattle.std.proofs.Common.{map, take}
use Rattle.sy_terms.specs.Denoted.{val_of}
use Rattle.sy_grammar_base.specs.Grown.{production_of}
use Rattle.sy_grammar_sizes.specs.Tables.{IsBest, GivesLeaves}
use Rattle.sy_grammar_sizes.proofs.leaves.leaves.Given as goal

abbrev pub invariant-loop-rule : goal.invariant-loop-rule
invariant-loop-rule g l = IsBest l.limit (GivesLeaves l.arguments (map (val_of g.T.Theory.denotes) l.pool) (map (production_of g.T.Theory.denotes) (take l.rule-index l.rules))) l.best

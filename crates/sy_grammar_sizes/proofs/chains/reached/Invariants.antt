use Rattle.sy_grammar_base.specs.Grown.{syntax_from}
use Rattle.sy_grammar_sizes.specs.Marking.{IsMarking, unset}
use Rattle.sy_grammar_sizes.proofs.chains.reached.Given as goal

abbrev pub invariant-loop-to : goal.invariant-loop-to
invariant-loop-to g l = IsMarking (syntax_from g.T.Theory.denotes l.g) l.from l.marks.items

abbrev pub decreases-loop-to : goal.decreases-loop-to
decreases-loop-to g l = unset l.marks.items

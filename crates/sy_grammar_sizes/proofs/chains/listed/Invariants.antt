use Rattle.sy_grammar_sizes.proofs.Marks.{IsList}
use Rattle.sy_grammar_sizes.proofs.chains.listed.Given as goal

abbrev pub invariant-loop-i : goal.invariant-loop-i
invariant-loop-i l = IsList l.marks l.i l.list

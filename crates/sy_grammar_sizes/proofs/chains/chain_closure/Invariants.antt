use Rattle.sy_grammar_base.specs.Grown.{syntax_from}
use Rattle.sy_grammar_sizes.proofs.Marks.{AreFirst}
use Rattle.sy_grammar_sizes.proofs.chains.chain_closure.Given as goal

abbrev pub invariant-loop-from : goal.invariant-loop-from
invariant-loop-from g l = AreFirst (syntax_from g.T.Theory.denotes l.g) l.from l.lists

use Rattle.std.proofs.Common.{map}
use Rattle.sy_grammar_base.specs.Trees.{is_choice}
use Rattle.sy_grammar_base.specs.Grown.{production_of}
use Rattle.sy_grammar.proofs.Choices.{NoneBefore}
use Rattle.sy_grammar.proofs.choice.first_choice.Given as goal

abbrev pub invariant-loop-place : goal.invariant-loop-place
invariant-loop-place g l = NoneBefore is_choice (map (production_of g.T.Theory.denotes) l.rules) l.place

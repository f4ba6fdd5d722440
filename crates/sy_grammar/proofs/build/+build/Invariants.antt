use Rattle.std.proofs.Common.{◌≡◌, take}
use Rattle.sy_grammar_base.specs.Grown.{trees_of}
use Rattle.sy_grammar.specs.Steps.{picked, step_trees}
use Rattle.sy_grammar.proofs.build.+build.Given as goal

abbrev pub decreases-build : goal.decreases-build
decreases-build g l = l.number

abbrev pub invariant-loop-filler : goal.invariant-loop-filler
invariant-loop-filler g l = trees_of g.T.Theory.denotes l.children.items.items ≡ picked (step_trees g.T.Theory.denotes l.steps) (take l.filler-index l.filler-items)

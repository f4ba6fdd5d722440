use Rattle.std.proofs.Common.{◌≡◌, take}
use Rattle.sy_grammar_base.specs.Grown.{trees_of}
use Rattle.sy_bank_level.specs.Shared.{shared_trees}
use Rattle.sy_bank_level.proofs.grown.+derivation.Given as goal

abbrev pub invariant-Growns::derivations-loop-grown : goal.invariant-Growns::derivations-loop-grown
invariant-Growns::derivations-loop-grown g l = trees_of g.T.Theory.denotes l.derivations.items.items ≡ shared_trees g.T.Theory.denotes (take l.grown-index l.all)

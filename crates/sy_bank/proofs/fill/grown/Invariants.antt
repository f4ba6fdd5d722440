use Rattle.std.proofs.Common.{◌≡◌, take}
use Rattle.sy_bank_level.specs.Covering.{terms}
use Rattle.sy_bank_level.specs.Shared.{terms_from, shared_trees}
use Rattle.sy_bank_level.specs.Stored.{chosen_of}
use Rattle.sy_bank_level.specs.Chosen.{children}
use Rattle.sy_bank.proofs.fill.grown.Given as goal

abbrev pub invariant-loop-kept : goal.invariant-loop-kept
invariant-loop-kept g l = record {
  terms_are : terms_from g.T.Theory.denotes l.growns.items.items ≡ terms (chosen_of g.T.Theory.denotes (take l.kept-index l.chosen));
  trees_are : shared_trees g.T.Theory.denotes l.growns.items.items ≡ children (chosen_of g.T.Theory.denotes (take l.kept-index l.chosen));
}

use Rattle.std.proofs.Common.{◌≡◌, take}
use Rattle.sy_grammar_base.specs.Grown.{trees_of}
use Rattle.sy_bank_level.proofs.build.+copied.Given as goal

abbrev pub invariant-copied_derivations-loop-derivation : goal.invariant-copied_derivations-loop-derivation
invariant-copied_derivations-loop-derivation g l = trees_of g.T.Theory.denotes l.copies.items.items ≡ trees_of g.T.Theory.denotes (take l.derivation-index l.derivation-items)

use Rattle.std.proofs.Common.{◌≡◌, take}
use Rattle.sy_grammar.proofs.grammar.copied.Given as goal

abbrev pub invariant-loop-sort : goal.invariant-loop-sort
invariant-loop-sort l = l.all ≡ take l.sort-index l.sorts

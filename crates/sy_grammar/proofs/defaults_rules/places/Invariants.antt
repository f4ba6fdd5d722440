use Rattle.std.proofs.Common.{◌≡◌, map, take}
use Rattle.sy_grammar.specs.Occurrences.{occurrence}
use Rattle.sy_grammar.proofs.defaults_rules.places.Given as goal

abbrev pub invariant-loop-nonterminal : goal.invariant-loop-nonterminal
invariant-loop-nonterminal g l = l.parts.items.items ≡ map occurrence (take l.nonterminal-index l.nonterminals)

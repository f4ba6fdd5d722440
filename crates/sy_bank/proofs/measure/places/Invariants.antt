use Rattle.std.proofs.Common.{◌≡◌, ◌-◌, length, take}
use Rattle.sy_grammar_base.specs.Patterns.{occurring}
use Rattle.sy_grammar_base.specs.Written.{pattern_of}
use Rattle.sy_bank.proofs.measure.places.Given as goal

abbrev pub decreases-loop-nonterminal : goal.decreases-loop-nonterminal
decreases-loop-nonterminal g l = length (occurring (pattern_of g.T.Theory.denotes l.part)) - length l.places.items

abbrev pub invariant-loop-nonterminal : goal.invariant-loop-nonterminal
invariant-loop-nonterminal g l = l.places.items ≡ take (length l.places.items) (occurring (pattern_of g.T.Theory.denotes l.part))

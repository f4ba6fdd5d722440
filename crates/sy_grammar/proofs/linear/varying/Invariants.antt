use Rattle.std.proofs.Common.{◌≡◌, ◌≤◌, map, take}
use Rattle.sy_grammar_base.specs.Formed.{varying}
use Rattle.sy_grammar_base.specs.Written.{patterns_of}
use Rattle.sy_grammar_base.specs.Grown.{nonterminal_of}
use Rattle.sy_grammar.proofs.linear.varying.Given as goal

abbrev pub invariant-loop-part : goal.invariant-loop-part
invariant-loop-part g l = (l.count ≡ varying (map (nonterminal_of g.T.Theory.denotes) l.nons) (patterns_of g.T.Theory.denotes (take l.part-index l.parts))) × (l.count ≤ l.part-index)

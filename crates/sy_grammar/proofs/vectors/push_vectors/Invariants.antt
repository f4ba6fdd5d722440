use Rattle.std.proofs.Common.{◌≡◌, ◌+◌, ◌++◌, map, drop}
use Rattle.sy_grammar_base.specs.Grown.{nonterminal_of}
use Rattle.sy_grammar.specs.Defaults.{vectors_from}
use Rattle.sy_grammar.proofs.vectors.push_vectors.Given as goal

abbrev pub invariant-loop-width : goal.invariant-loop-width
invariant-loop-width g l =
    let number = g.T.Theory.denotes in
    (map (nonterminal_of number) l.nons ++ vectors_from l.v l.b (drop l.width-index l.widths) ≡ map (nonterminal_of number) l.initial.nons ++ vectors_from l.first l.b l.widths) × (l.v ≡ l.first + l.width-index)

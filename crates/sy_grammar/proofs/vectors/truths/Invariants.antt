use Rattle.std.proofs.Common.{◌≡◌, ◌+◌, ◌-◌, ◌++◌, map}
use Rattle.std.specs.List.{range_with_len}
use Rattle.sy_grammar_base.specs.Grown.{production_of}
use Rattle.sy_grammar.specs.Defaults.{comparisons}
use Rattle.sy_grammar.proofs.vectors.truths.Given as goal

abbrev pub invariant-loop-v : goal.invariant-loop-v
invariant-loop-v g l =
    let number = g.T.Theory.denotes in
    map (production_of number) l.rules ++ comparisons (range_with_len l.v (l.first + l.count - l.v)) ≡ map (production_of number) l.initial.rules ++ comparisons (range_with_len l.first l.count)

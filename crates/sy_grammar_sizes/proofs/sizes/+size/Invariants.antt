use Rattle.std.proofs.Common.{◌≡◌, min, map, take}
use Rattle.sy_terms.specs.Denoted.{val_of}
use Rattle.sy_grammar_base.specs.Patterns.{occurring}
use Rattle.sy_grammar_base.specs.Written.{pattern_of}
use Rattle.sy_grammar_base.specs.Trees.{tree_sizes}
use Rattle.sy_grammar_base.specs.Grown.{syntax_from, trees_of}
use Rattle.sy_grammar_sizes.proofs.sizes.+size.Given as goal

abbrev pub invariant-children_size-loop-place : goal.invariant-children_size-loop-place
invariant-children_size-loop-place g l =
    let number = g.T.Theory.denotes in
    l.total ≡ min l.cap (tree_sizes (syntax_from number l.g) (map (val_of number) l.pool) (occurring (pattern_of number l.part)) (trees_of number (take l.place l.child-items)))

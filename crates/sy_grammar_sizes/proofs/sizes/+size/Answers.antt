use Rattle.std.proofs.Common.{ap, ◌∙◌, take, arith, slice_get}
use Rattle.std.proofs.lemmas.List.{take_more, length-take-le}
use Rattle.std.specs.Prelude.{map}
use Rattle.sy_terms.specs.Denoted.{val_of}
use Rattle.sy_grammar_base.specs.Patterns.{occurring, own_size}
use Rattle.sy_grammar_base.specs.Written.{pattern_of}
use Rattle.sy_grammar_base.specs.Trees.{tree_size, tree_sizes}
use Rattle.sy_grammar_base.specs.Grown.{syntax_from, tree_of, trees_of, tree_of-Node, tree_of-Constant, tree_of-Variable}
use Rattle.sy_grammar_sizes.proofs.NodeSizes.{size_of_node, size_of_stray, size_of_constant, size_of_variable, sizes_none, sizes_last, sizes_beyond, capped}
use Rattle.sy_grammar_sizes.proofs.sizes.+size.Goals as goal

pub children_size-loop-place-init : goal.children_size-loop-place-init
children_size-loop-place-init g t c = rw (sizes_none) (omega arith)

pub children_size-returns-in_default : goal.children_size-returns-in_default
children_size-returns-in_default g t c =
    let number = g.T.Theory.denotes in
    let said = rw c.in_default.is at c.occurrence.ensures in
    let same = sizes_beyond number (syntax_from number c.args.g.now) (map (val_of number) c.args.pool.now) (occurring (pattern_of number c.args.part.now)) c.as_slice-child-items.result.now c.loop-place.place (omega (arith, said)) in
    rw (← c.as_slice-child-items.ensures, ← same) c.loop-place.invariant

pub children_size-loop-place-preserved : goal.children_size-loop-place-preserved
children_size-loop-place-preserved g t c =
    let number = g.T.Theory.denotes in
    let syntax = syntax_from number c.args.g.now in
    let pool = map (val_of number) c.args.pool.now in
    let occurrences = occurring (pattern_of number c.args.part.now) in
    let items = c.as_slice-child-items.result.now in
    let earlier = take c.loop-place.place items in
    let more = take_more items c.loop-place.place c.child-item.result c.loop-place-test.true in
    let count = length-take-le c.loop-place.place items c.loop-place.auto.place-end in
    let said = rw c.in-Ok.is at c.occurrence.ensures in
    let one_more = sizes_last number syntax pool occurrences earlier c.child-item.result c.in-Ok.non (ap (slice_get occurrences) count ∙ said) in
    rw (more, ← c.child-item.is, one_more)
    (capped c.args.cap (tree_sizes syntax pool occurrences (trees_of number earlier)) (tree_size syntax pool c.in-Ok.non (tree_of number c.child-item.result)) c.loop-place.total c.derivation_size.result c.saturating_add.result c.min-total.result c.ranges.cap.fits c.loop-place.invariant c.derivation_size.ensures c.saturating_add.ensures c.min-total.ensures)

pub derivation_size-returns-in-Some : goal.derivation_size-returns-in-Some
derivation_size-returns-in-Some g t c =
    let number = g.T.Theory.denotes in
    rw (c.in-Node.is, tree_of-Node number, size_of_node (syntax_from number c.args.g.now) _ c.args.non c.in-Node.rule _ _ (rw c.in-Some.is at c.part.ensures))
    (capped c.args.cap (own_size (pattern_of number c.in-Some.part.now)) _ c.own_size.result c.children_size-below.result c.saturating_add.result c.min.result c.ranges.cap.fits c.own_size.ensures c.children_size-below.ensures (omega (arith, c.saturating_add.ensures)) c.min.ensures)

pub derivation_size-returns-in-None : goal.derivation_size-returns-in-None
derivation_size-returns-in-None g t c =
    let number = g.T.Theory.denotes in
    rw (c.in-Node.is, tree_of-Node number, size_of_stray (syntax_from number c.args.g.now) _ c.args.non c.in-Node.rule _ (rw c.in-None.is at c.part.ensures)) (omega arith)

pub derivation_size-returns-in-Constant : goal.derivation_size-returns-in-Constant
derivation_size-returns-in-Constant g t c = rw (c.in-Constant.is, tree_of-Constant, size_of_constant) (omega (arith, c.min-in-Constant.ensures, c.constant_size.ensures))

pub derivation_size-returns-in-Variable : goal.derivation_size-returns-in-Variable
derivation_size-returns-in-Variable g t c = rw (c.in-Variable.is, tree_of-Variable, size_of_variable) (omega (arith, c.min-in-Variable.ensures))

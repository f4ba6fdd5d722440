use Rattle.std.proofs.Common.{◌≡◌, ◌<◌, length, get_or, take, arith, refl, sym, ap, ◌∙◌}
use Rattle.std.proofs.lemmas.List.{take_more, take_all}
use Rattle.std.proofs.lemmas.Option.{slice_get_read, slice_get-get_or}
use Rattle.sy_grammar_base.specs.Grown.{trees_of, tree_of-Node, tree_of-Constant, tree_of-Variable}
use Rattle.sy_grammar_base.specs.Trees as trees
use Rattle.sy_grammar.specs.Steps.{picked, step_trees, tree_by}
use Rattle.sy_grammar.proofs.Built.{filler_before, tree_at-node, tree_at-step, picked-last}
use Rattle.sy_grammar.proofs.build.+build.Goals as goal

pub build-requires : goal.build-requires
build-requires g t c κs within =
    let items = c.deref-filler-items.result.now in
    let at = slice_get_read c.args.steps.now _ c.args.number c.index-steps-number.result refl c.requires.within c.index-steps-number.is in
    let filler = ap (λ xs. get_or xs c.loop-filler.filler-index 0) c.deref-filler-items.ensures.value in
    let inside : c.loop-filler.filler-index < length c.in-Node.fillers.items = omega (arith, c.loop-filler-test.true, c.deref-filler-items.ensures.len) in
    let before = filler_before c.args.steps.now c.args.number c.in-Node.rule c.in-Node.fillers c.index-steps-number.result c.loop-filler.filler-index _ c.requires.ordered at c.in-Node.is (slice_get-get_or c.in-Node.fillers.items c.loop-filler.filler-index 0 inside) in
    (omega (arith, before, filler, c.decreases), (within.0, (within.1, (omega (arith, before, filler, c.requires.within), c.requires.ordered))))

pub loop-filler-preserved : goal.loop-filler-preserved
loop-filler-preserved g t c =
    let items = c.deref-filler-items.result.now in
    let more = take_more items c.loop-filler.filler-index 0 c.loop-filler-test.true in
    rw (more, c.in_ok-push-in-Node.ensures.ok)
    (picked-last g.T.Theory.denotes (step_trees g.T.Theory.denotes c.args.steps.now) c.loop-filler.children.items.items (take c.loop-filler.filler-index items) c.in_ok-child-in-Node.child (get_or items c.loop-filler.filler-index 0) c.loop-filler.invariant c.in_ok-child-in-Node.ensures)

pub returns-after-loop-filler : goal.returns-after-loop-filler
returns-after-loop-filler g t c =
    let items = c.deref-filler-items.result.now in
    let at = slice_get_read c.args.steps.now _ c.args.number c.index-steps-number.result refl c.requires.within c.index-steps-number.is in
    let node = tree_at-node g.T.Theory.denotes c.args.steps.now c.args.number c.in-Node.rule c.in-Node.fillers c.index-steps-number.result c.requires.ordered at c.in-Node.is in
    let whole = take_all c.loop-filler.filler-index items c.loop-filler-test.false in
    let children : trees_of g.T.Theory.denotes c.loop-filler.children.items.items ≡ picked (step_trees g.T.Theory.denotes c.args.steps.now) c.in-Node.fillers.items =
    c.loop-filler.invariant ∙ ap (picked (step_trees g.T.Theory.denotes c.args.steps.now)) (whole ∙ c.deref-filler-items.ensures.value) in
    tree_of-Node g.T.Theory.denotes c.in-Node.rule c.loop-filler.children ∙ ap (trees.Node c.in-Node.rule) children ∙ sym node

pub returns-in-Constant : goal.returns-in-Constant
returns-in-Constant g t c =
    let at = slice_get_read c.args.steps.now _ c.args.number c.index-steps-number.result refl c.requires.within c.index-steps-number.is in
    let made = tree_at-step g.T.Theory.denotes c.args.steps.now c.args.number c.index-steps-number.result at (c.requires.ordered c.args.number c.index-steps-number.result at) in
    tree_of-Constant _ g.T.Theory.denotes c.in-Constant.rule c.in-Constant.value ∙ sym (made ∙ ap (tree_by g.T.Theory.denotes (step_trees g.T.Theory.denotes c.args.steps.now)) c.in-Constant.is)

pub returns-in-Variable : goal.returns-in-Variable
returns-in-Variable g t c =
    let at = slice_get_read c.args.steps.now _ c.args.number c.index-steps-number.result refl c.requires.within c.index-steps-number.is in
    let made = tree_at-step g.T.Theory.denotes c.args.steps.now c.args.number c.index-steps-number.result at (c.requires.ordered c.args.number c.index-steps-number.result at) in
    tree_of-Variable _ _ g.T.Theory.denotes c.in-Variable.rule c.in-Variable.position ∙ sym (made ∙ ap (tree_by g.T.Theory.denotes (step_trees g.T.Theory.denotes c.args.steps.now)) c.in-Variable.is)

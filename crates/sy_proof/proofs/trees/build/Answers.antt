use Rattle.std.proofs.Common.{◌≡◌, length, sym, arith, rules, [], ap, ◌∙◌, Some}
use Rattle.sy_proof.specs.Growing.{stacked}
use Rattle.sy_proof.proofs.Parsing.{parsed}
use Rattle.sy_proof.proofs.TreesFound.{built, emptied, grown_none, grown_step}
use Rattle.sy_proof.proofs.trees.build.Goals as goal

pub returns-then-not-branch : goal.returns-then-not-branch
returns-then-not-branch c =
    grown_none c.loop-node.left.items c.pop.new.self.items c.args.nodes.items c.in-Some.node (stacked c.loop-node.trees.items) c.in-Some.ensures.items (rw c.if-not-branch.true at c.in_ok-grow.ensures) c.loop-node.invariant

pub loop-node-preserved : goal.loop-node-preserved
loop-node-preserved c =
    grown_step c.loop-node.left.items c.pop.new.self.items c.in-Some.node (stacked c.loop-node.trees.items) (stacked c.grow.new.trees.items) (parsed c.args.nodes.items (Some [])) c.in-Some.ensures.items (rw c.if-not-branch.false at c.in_ok-grow.ensures)
    c.loop-node.invariant

pub returns : goal.returns
returns c =
    let none : length c.loop-node.left.items ≡ 0 = first_of (omega (arith, c.in_default.ensures.cases.0), omega (arith, c.in_default.ensures.cases.0, c.loop-node.left.ok.0), grind (arith, c.in_default.ensures.cases), search rules) in
    built c.args.nodes.items (stacked c.loop-node.trees.items) c.only.result
    (ap (λ (nodes : _). parsed nodes (Some (stacked c.loop-node.trees.items))) (sym (emptied c.loop-node.left.items none)) ∙ c.loop-node.invariant) c.only.ensures

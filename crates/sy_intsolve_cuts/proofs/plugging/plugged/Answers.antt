use Rattle.std.proofs.Common.{sym, ◌∙◌, arith}
use Rattle.sy_intsolve_cuts.specs.Stored.{grown_tree_of}
use Rattle.sy_intsolve_cuts.proofs.Stored.{plugged-popped, plugged-none, no_steps}
use Rattle.sy_intsolve_cuts.proofs.plugging.plugged.Goals as goal

pub loop-step-preserved : goal.loop-step-preserved
loop-step-preserved c = plugged-popped c.loop-step.left.items c.pop.new.self.items c.in-Some.step (grown_tree_of c.loop-step.tree) (grown_tree_of c.in_ok-tree.tree) c.in-Some.ensures.items c.in_ok-tree.ensures ∙ c.loop-step.invariant

pub returns : goal.returns
returns c = sym (plugged-none c.loop-step.left.items (grown_tree_of c.loop-step.tree) (no_steps c.loop-step.left.items (omega (arith, c.in_default.ensures.cases.0)))) ∙ c.loop-step.invariant

use Rattle.std.proofs.Common.{subst}
use mir.Syntax.{w128}
use mir.Val.{to_z, of_z}
use Rattle.sy_linear_known.specs.declared.path.Fact.{Fact}
use Rattle.sy_linear_known.specs.Trees.{added_fact, opposite_fact}
use Rattle.sy_linear.specs.Judging.{AnswersAt}
use Rattle.sy_intsolve.specs.Ways.{HasSides}
use Rattle.sy_intsolve.proofs.Points.{split-adds, branch-adds}
use Rattle.sy_intsolve.proofs.fork.both_facts.Goals as goal

pub given_facts-requires : goal.given_facts-requires
given_facts-requires c =
    let sides = subst (HasSides c.args.vars.now) c.in-Split.is c.requires in (
      (added_fact c.in-Split.test, opposite_fact c.in-Split.test),
      subst (AnswersAt {A = Fact × Fact} 0 c.split.result) (split-adds c.args.vars.now c.in-Split.test sides.0 sides.1) c.split.ensures,
    )

pub given_facts-requires-in-Branch : goal.given_facts-requires-in-Branch
given_facts-requires-in-Branch c =
    let int = subst (HasSides c.args.vars.now) c.in-Branch.is c.requires in
    (_, subst (AnswersAt {A = Fact × Fact} 0 c.branch-alloc.result) (branch-adds c.args.vars.now c.in-Branch.variable (to_z w128 (of_z w128 c.in-Branch.bound)) int) c.branch-alloc.ensures)

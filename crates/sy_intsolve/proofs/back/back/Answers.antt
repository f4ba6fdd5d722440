use Rattle.std.proofs.Common.{◌<◌, refl, sym, ◌∙◌, ap₂, subst, arith}
use Rattle.sy_linear_known.specs.Stored.{linear_query_of}
use Rattle.sy_intsolve_cuts.specs.Steps.{wrapped}
use Rattle.sy_intsolve_cuts.specs.Stored.{grown_tree_of}
use Rattle.sy_intsolve_cuts.proofs.Stored.{no_steps}
use Rattle.sy_intsolve.specs.declared.way.Way.{Way}
use Rattle.sy_intsolve.specs.Ways.{GoesOn, room_after}
use Rattle.sy_intsolve.specs.States.{room_closed}
use Rattle.sy_intsolve.proofs.Ends.{never}
use Rattle.sy_intsolve.proofs.Ways.{other_side, other_side-room, whole_below, whole_below-room}
use Rattle.sy_intsolve.proofs.back.back.Goals as goal

pub returns-in_default : goal.returns-in_default
returns-in_default c order limits closed within = never order (linear_query_of c.args.query.now) c.args.way c.args.tree closed (no_steps c.args.way.steps.items (omega (arith, c.in_default.ensures.cases.0)))

pub enter-requires : goal.enter-requires
enter-requires c = (other_side c.requires.0 (linear_query_of c.args.query.now) c.args.way (record { facts = c.without_last.result; steps = c.pop.new.self; inner = c.args.way.inner }) c.in-Some.step c.in-Side.fork c.in-Side.point c.in-Side.left (grown_tree_of c.args.tree) c.requires.1 c.in-Some.ensures.items c.without_last.ensures refl c.in-Side.ensures.0).turns

pub returns-in_ok-state-in-Side : goal.returns-in_ok-state-in-Side
returns-in_ok-state-in-Side c order limits closed within = (
  c.in_ok-state-in-Side.ensures.state order limits.nodes
      (subst (GoesOn order (linear_query_of c.args.query.now) _ c.in-Side.fork c.in-Side.point c.in-Side.left) (sym c.in-Side.ensures.1)
      (other_side order (linear_query_of c.args.query.now) c.args.way _ c.in-Some.step c.in-Side.fork c.in-Side.point c.in-Side.left (grown_tree_of c.args.tree) closed c.in-Some.ensures.items c.without_last.ensures refl c.in-Side.ensures.0)) within,
  omega (
    arith,
    c.in_ok-state-in-Side.ensures.room limits.nodes,
    subst (λ t. room_after limits.nodes (record { facts = c.without_last.result; steps = c.pop.new.self; inner = c.args.way.inner }) t < room_closed limits.nodes c.args.way) (sym c.in-Side.ensures.1)
        (other_side-room limits.nodes c.args.way (record { facts = c.without_last.result; steps = c.pop.new.self; inner = c.args.way.inner }) c.in-Some.step c.in-Side.fork c.in-Side.point c.in-Side.left (grown_tree_of c.args.tree) closed.closed c.in-Some.ensures.items refl c.in-Side.ensures.0),
  ),
)

pub returns-in_ok-tree-in-Whole : goal.returns-in_ok-tree-in-Whole
returns-in_ok-tree-in-Whole c order limits closed within =
    let above : Way = record { facts = c.without_last.result; steps = c.pop.new.self; inner = c.args.way.inner } in (
      (whole_below order (linear_query_of c.args.query.now) c.args.way above c.in-Some.step (grown_tree_of c.args.tree) (grown_tree_of c.in_ok-tree-in-Whole.tree) closed c.in-Some.ensures.items c.without_last.ensures refl c.in-Whole.ensures.2 (c.in_ok-tree-in-Whole.ensures ∙ ap₂ wrapped c.in-Whole.ensures.0 c.in-Whole.ensures.1), within),
      whole_below-room limits.nodes c.args.way above c.in-Some.step c.in-Some.ensures.items refl c.in-Whole.ensures.2,
    )

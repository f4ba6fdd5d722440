use Rattle.std.specs.Prelude.{IfSome}
use Rattle.std.proofs.Common.{sym, subst}
use Rattle.sy_linear_known.specs.Stored.{linear_query_of}
use Rattle.sy_intsolve_cuts.specs.Points.{IsPointOf}
use Rattle.sy_intsolve_cuts.specs.Stored.{side_of}
use Rattle.sy_intsolve.proofs.Points.{fork-at, has_sides}
use Rattle.sy_intsolve.proofs.Ways.{entered, entered-room}
use Rattle.sy_intsolve.proofs.fork.enter.Goals as goal

pub ahead-requires : goal.ahead-requires
ahead-requires c = has_sides c.args.query.now.vars c.args.way.facts.items c.args.fork c.requires

pub returns-in_ok-next-in-Ok-clause-state : goal.returns-in_ok-next-in-Ok-clause-state
returns-in_ok-next-in-Ok-clause-state c order nodes goes within = (
  entered order (linear_query_of c.args.query.now) nodes c.args.way c.in_ok-next-in-Ok.next c.args.fork c.args.point c.args.left (side_of c.args.other) c.to_side-step.result c.in-Ok.fact goes c.to_side-step.ensures.layer c.in-Ok.ensures.fact c.in_ok-next-in-Ok.ensures within,
  subst (λ facts. IfSome c.in-Ok.near (IsPointOf c.args.query.now.vars facts)) (sym c.in_ok-next-in-Ok.ensures.facts)
      (c.in-Ok.ensures.near c.args.way.facts.items
      (subst (IsPointOf c.args.query.now.vars c.args.way.facts.items) (sym c.as_slice-here.ensures) (fork-at order (linear_query_of c.args.query.now) c.args.way.facts.items c.args.fork c.args.point goes.fork))),
)

pub returns-in_ok-next-in-Ok-clause-room : goal.returns-in_ok-next-in-Ok-clause-room
returns-in_ok-next-in-Ok-clause-room c nodes = entered-room nodes c.args.way c.in_ok-next-in-Ok.next c.args.fork c.args.point c.args.left (side_of c.args.other) c.to_side-step.result c.in-Ok.fact c.to_side-step.ensures.layer c.in_ok-next-in-Ok.ensures

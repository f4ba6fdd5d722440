use Rattle.std.specs.Prelude.{[], ◌∷◌, ◌++◌, pos}
use Rattle.std.proofs.Common.{arith, refl, ◌∙◌, ap}
use Rattle.sy_linear_known.specs.declared.path.Fact.TheVariants.{AtLeast}
use Rattle.sy_linear_known.specs.Stored.{linear_query_of}
use Rattle.sy_intsolve_cuts.specs.declared.step.Step.TheVariants as made
use Rattle.sy_intsolve.proofs.Ways.{cut-layer, cut-grown, cut-room}
use Rattle.sy_intsolve.proofs.cut.under.Goals as goal

pub returns-then-way-plan : goal.returns-then-way-plan
returns-then-way-plan c = c.spent_nodes.ensures c.args.plan.now.order (linear_query_of c.args.query.now) c.args.plan.now.limits _ c.requires.leaf.way (omega (arith, c.if-way-plan.true, c.requires.leaf.within))

pub returns : goal.returns
returns c =
    let step = made.Under c.args.rounding.multipliers (pos 1) c.args.point in
    let facts = c.in_ok-next.ensures.facts ∙ ap (λ fs. fs ++ AtLeast c.args.rounding.form ∷ []) c.counted.ensures.facts in
    let steps = c.in_ok-next.ensures.steps ∙ ap (λ ss. ss ++ step ∷ []) c.counted.ensures.steps in
    let inner = c.in_ok-next.ensures.inner ∙ c.counted.ensures.inner in (
      (
        cut-grown c.args.plan.now.order (linear_query_of c.args.query.now) c.args.plan.now.limits.nodes c.args.way c.in_ok-next.next c.args.point c.args.rounding step c.requires.leaf
            (cut-layer c.args.plan.now.order (linear_query_of c.args.query.now) c.args.way.facts.items c.args.point c.args.rounding c.requires.known c.requires.stands c.requires.found)
            c.requires.found.suits refl facts steps inner c.if-way-plan.false,
        tt,
      ),
      cut-room c.args.plan.now.limits.nodes c.args.way c.in_ok-next.next c.args.point c.args.rounding step refl steps inner c.if-way-plan.false,
    )

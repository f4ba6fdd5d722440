use Rattle.std.proofs.Common.{◌∙◌, sym, ap, ◌∷◌, []}
use Rattle.std.specs.Prelude.{pos, negsuc}
use mir.Syntax.{w128}
use Rattle.std.proofs.lemmas.Int.{to_z-of_z}
use Rattle.sy_linear_known.specs.declared.path.Fact.TheVariants.{AtLeast}
use Rattle.sy_linear.proofs.Bounds.{branch_adds, past_is}
use Rattle.sy_linear.proofs.nodes.branch.Goals as goal

pub returns : goal.returns
returns c =
    branch_adds c.args.vars.now c.args.variable c.args.bound c.in_ok-below.below c.in_ok-above.above (sym c.is_int.ensures ∙ c.if-not-is_int.false)
    (c.in_ok-below.ensures ∙ ap (λ k. AtLeast (record { coefs = (c.args.variable, negsuc 0) ∷ []; constant = k })) (to_z-of_z w128 c.args.bound c.ranges.bound))
    (c.in_ok-above.ensures ∙ ap (λ k. AtLeast (record { coefs = (c.args.variable, pos 1) ∷ []; constant = k })) (past_is c.args.bound c.ranges.bound))

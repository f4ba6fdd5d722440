use Rattle.sy_terms.specs.Values.{Whole}
use Rattle.sy_terms.specs.Denoted.{expr_of, expr_of-App}
use Rattle.sy_terms.specs.declared.op.Op.TheVariants as ops
use Rattle.sy_lower.specs.Stored.{progress_in}
use Rattle.sy_lower.proofs.Lists.{pushed}
use Rattle.sy_lower.proofs.Making.{all_sides}
use Rattle.sy_lower.proofs.lowering.with_all_sides.Goals as goal

pub returns : goal.returns
returns c =
    all_sides (progress_in c.args.progress) (expr_of Whole c.args.body) _ _ _ c.from-vars.ensures (expr_of-App Whole ops.And _) (pushed _ _ c.args.body c.in_ok-push.ensures.ok)

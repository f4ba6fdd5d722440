use Rattle.std.proofs.Common.{rules}
use Rattle.std.specs.Prelude.{pos}
use Rattle.sy_simplex.specs.Operations.{fraction_of_whole}
use Rattle.sy_simplex.specs.Rows.{IsSolvedAt}
use Rattle.sy_simplex.proofs.Pushed.{each_pushed}
use Rattle.sy_simplex.proofs.row.solved_coefficients.Goals as goal

pub loop-at-preserved : goal.loop-at-preserved
loop-at-preserved c = record {
  len = search rules;
  each = each_pushed (λ j q. IsSolvedAt c.args.coefs.now c.args.column j q) (fraction_of_whole (pos 0)) c.loop-at.solved.items _ _ c.loop-at.at c.in_ok-push.ensures.items c.loop-at.invariant.len c.loop-at.invariant.each (search rules);
}

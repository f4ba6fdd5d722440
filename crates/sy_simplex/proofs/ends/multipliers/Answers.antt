use Rattle.std.proofs.Common.{◌+◌}
use Rattle.std.specs.Prelude.{pos}
use Rattle.sy_simplex.specs.Operations.{fraction_of_whole}
use Rattle.sy_simplex.specs.Stated.{tableau_state_of}
use Rattle.sy_simplex.proofs.Pushed.{each_pushed}
use Rattle.sy_simplex.proofs.Begun.{length_pushed}
use Rattle.sy_simplex.specs.Runs.{IsMultiplier}
use Rattle.sy_simplex.proofs.ends.multipliers.Goals as goal

pub loop-form-preserved : goal.loop-form-preserved
loop-form-preserved c = record {
  len = length_pushed c.loop-form.all _ _ c.loop-form.form c.in_ok-push.ensures.ok c.loop-form.invariant.len;
  each = each_pushed (λ i f. IsMultiplier (tableau_state_of c.args.tableau.now) c.args.row (c.args.tableau.now.vars + i) f) (fraction_of_whole (pos 0)) c.loop-form.all _ _ c.loop-form.form c.in_ok-push.ensures.ok c.loop-form.invariant.len c.loop-form.invariant.each c.multiplier.ensures;
}

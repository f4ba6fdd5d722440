use Rattle.std.specs.Prelude.{pos}
use Rattle.sy_simplex.specs.Operations.{fraction_of_whole}
use Rattle.sy_simplex.specs.Stated.{tableau_state_of}
use Rattle.sy_simplex.proofs.Pushed.{each_pushed}
use Rattle.sy_simplex.proofs.Begun.{length_pushed}
use Rattle.sy_simplex.specs.Runs.{IsValue}
use Rattle.sy_simplex.proofs.ends.point.Goals as goal

pub loop-variable-preserved : goal.loop-variable-preserved
loop-variable-preserved c = record {
  len = length_pushed c.loop-variable.point _ _ c.loop-variable.variable c.in_ok-push.ensures.ok c.loop-variable.invariant.len;
  each = each_pushed (λ v f. IsValue (tableau_state_of c.args.tableau.now) v f) (fraction_of_whole (pos 0)) c.loop-variable.point _ _ c.loop-variable.variable c.in_ok-push.ensures.ok c.loop-variable.invariant.len c.loop-variable.invariant.each c.value_of.ensures;
}

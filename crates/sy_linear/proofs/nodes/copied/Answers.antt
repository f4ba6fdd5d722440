use Rattle.std.proofs.Common.{rules}
use mir.Syntax.{w128}
use mir.Val.{SFits}
use Rattle.sy_linear.proofs.Bounds.{copied_kept, copied_fits}
use Rattle.sy_linear.proofs.nodes.copied.Goals as goal

pub loop-coefficient-preserved : goal.loop-coefficient-preserved
loop-coefficient-preserved c =
    let fits : SFits w128 c.number_of.result = search rules in
    record {
      kept = copied_kept c.as_slice-coefficient-items.result.now c.loop-coefficient.coefs c.push.new.self c.loop-coefficient.coefficient-index c.number_of.result fits c.loop-coefficient-test.true c.number_of.ensures c.in_ok-push.ensures.ok c.loop-coefficient.invariant.kept;
      fits = copied_fits c.loop-coefficient.coefs c.push.new.self _ c.number_of.result fits c.in_ok-push.ensures.ok c.loop-coefficient.invariant.fits;
    }

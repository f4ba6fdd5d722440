use Rattle.std.proofs.Common.{◌≡◌, length, arith, ap}
use Rattle.sy_simplex.proofs.FullRows.{filled_item, filled_end}
use Rattle.sy_simplex.proofs.initial.full_row.Goals as goal

pub loop-variable-preserved : goal.loop-variable-preserved
loop-variable-preserved c = filled_item c.args.vars c.args.form.now c.loop-variable.variable-index c.loop-variable.row.items c.as_slice-variable-items.result.now c.in-Some.fraction c.requires c.as_slice-variable-items.ensures c.loop-variable-test.true c.loop-variable.invariant c.in-Some.ensures

pub returns-clause-ok : goal.returns-clause-ok
returns-clause-ok c =
    let all : c.loop-variable.variable-index ≡ length c.args.form.now.coefs = omega (arith, c.loop-variable-test.false, c.loop-variable.auto.variable-index-end, ap length c.as_slice-variable-items.ensures) in
    filled_end c.args.vars c.args.form.now.coefs c.loop-variable.variable-index c.loop-variable.row.items all c.loop-variable.invariant

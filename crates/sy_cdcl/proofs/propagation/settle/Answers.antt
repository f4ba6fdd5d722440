use Rattle.std.proofs.Common.{Some}
use Rattle.std.proofs.lemmas.Result.{IfOk-from_err}
use Rattle.sy_clauses.specs.Clauses.{literals}
use Rattle.sy_cdcl.specs.Trails.{kept_values}
use Rattle.sy_cdcl.proofs.Inspect.{only_unit}
use Rattle.sy_cdcl.proofs.Push.{extends_refl}
use Rattle.sy_cdcl.proofs.Visiting.{true_last}
use Rattle.sy_cdcl.proofs.propagation.settle.Goals as goal

pub force-requires-clause-unit : goal.force-requires-clause-unit
force-requires-clause-unit c = record {
  clause = literals c.args.clause.now;
  at = c.requires.at;
  unit = only_unit (kept_values c.args.trail.now.values.items) (literals c.args.clause.now) c.args.literal c.requires.has c.requires.only c.in-Open.ensures;
}

pub returns-in_ok-force-in-Open-clause-ends : goal.returns-in_ok-force-in-Open-clause-ends
returns-in_ok-force-in-Open-clause-ends c = record {
  var = c.args.literal.var;
  positive = c.args.literal.positive;
  has = c.requires.has;
  is_true = true_last _ c.args.trail.now c.force.new.trail record { literal = c.args.literal; reason = Some c.args.number }
      c.in_ok-force-in-Open.ensures.ready c.in_ok-force-in-Open.ensures.entries;
}

pub returns-in-False-clause-extends : goal.returns-in-False-clause-extends
returns-in-False-clause-extends c = extends_refl c.args.trail.now

pub returns-in-True-clause-extends : goal.returns-in-True-clause-extends
returns-in-True-clause-extends c = extends_refl c.args.trail.now

pub returns-in_err-force-in-Open-clause-ready : goal.returns-in_err-force-in-Open-clause-ready
returns-in_err-force-in-Open-clause-ready c = IfOk-from_err c.from_residual.result _ c.from_residual.ensures.0

pub returns-in_err-force-in-Open-clause-extends : goal.returns-in_err-force-in-Open-clause-extends
returns-in_err-force-in-Open-clause-extends c = IfOk-from_err c.from_residual.result _ c.from_residual.ensures.0

pub returns-in_err-force-in-Open-clause-ends : goal.returns-in_err-force-in-Open-clause-ends
returns-in_err-force-in-Open-clause-ends c = IfOk-from_err c.from_residual.result _ c.from_residual.ensures.0

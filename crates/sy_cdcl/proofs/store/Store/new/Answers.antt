use Rattle.std.proofs.Common.{◌∙◌, ap, map}
use Rattle.std.proofs.lemmas.List.{take_all}
use Rattle.std.proofs.lemmas.Result.{IfOk-from_err}
use Rattle.sy_clauses.specs.Clauses.{literals}
use Rattle.sy_cdcl.proofs.Storing.{clauses_more}
use Rattle.sy_cdcl.proofs.store.Store.new.Goals as goal

pub push-requires : goal.push-requires
push-requires c = c.loop-clause.invariant.fit

pub loop-clause-preserved : goal.loop-clause-preserved
loop-clause-preserved c =
    let l = c.loop-clause in
    record {
      clauses = clauses_more _ _ c.args.clauses.now l.clause-index _ _ c.loop-clause-test.true c.clause-item.is c.as_slice.ensures c.in_ok-push.ensures.clauses l.invariant.clauses;
      fit = c.in_ok-push.ensures.fit;
    }

pub returns-in_err-push-clause-clauses : goal.returns-in_err-push-clause-clauses
returns-in_err-push-clause-clauses c = IfOk-from_err c.from_residual.result _ c.from_residual.ensures.0

pub returns-in_err-push-clause-fit : goal.returns-in_err-push-clause-fit
returns-in_err-push-clause-fit c = IfOk-from_err c.from_residual.result _ c.from_residual.ensures.0

pub returns-clause-clauses : goal.returns-clause-clauses
returns-clause-clauses c = c.loop-clause.invariant.clauses ∙ ap (map literals) (take_all c.loop-clause.clause-index c.args.clauses.now c.loop-clause-test.false)

pub returns-clause-fit : goal.returns-clause-fit
returns-clause-fit c = c.loop-clause.invariant.fit

use Rattle.std.proofs.Common.{subst}
use Rattle.std.proofs.lemmas.Result.{IfOk-from_err}
use Rattle.sy_cdcl.specs.declared.solver.End.{End}
use Rattle.sy_cdcl.specs.Answer.{IsRunEnd}
use Rattle.sy_cdcl.proofs.solver.solve_by.Goals as goal

pub returns-in-Empty-clause-answer : goal.returns-in-Empty-clause-answer
returns-in-Empty-clause-answer c = rw c.log_of-log.ensures
    (subst (λ (e : End). IsRunEnd c.args.cnf.now c.args.fuel record { lines = c.learn.new.state.lines } e) c.in-Empty.is c.in_ok-end.ensures)

pub returns-in-Model-clause-answer : goal.returns-in-Model-clause-answer
returns-in-Model-clause-answer c =
    let i = subst (λ (e : End). IsRunEnd c.args.cnf.now c.args.fuel record { lines = c.learn.new.state.lines } e) c.in-Model.is c.in_ok-end.ensures in
    (i.0.long, i.0.model)

pub returns-in-Spent-clause-answer : goal.returns-in-Spent-clause-answer
returns-in-Spent-clause-answer c =
    let i = subst (λ (e : End). IsRunEnd c.args.cnf.now c.args.fuel record { lines = c.learn.new.state.lines } e) c.in-Spent.is c.in_ok-end.ensures in
    rw c.log_of-log.ensures (i.0, i.1, i.2)

pub returns-in_err-state-clause-answer : goal.returns-in_err-state-clause-answer
returns-in_err-state-clause-answer c = IfOk-from_err c.from_residual.result _ c.from_residual.ensures.0

pub returns-in_err-state-clause-enough : goal.returns-in_err-state-clause-enough
returns-in_err-state-clause-enough c = IfOk-from_err c.from_residual.result _ c.from_residual.ensures.0

pub returns-in_err-end-clause-answer : goal.returns-in_err-end-clause-answer
returns-in_err-end-clause-answer c = IfOk-from_err c.from_residual-in_err-end.result _ c.from_residual-in_err-end.ensures.0

pub returns-in_err-end-clause-enough : goal.returns-in_err-end-clause-enough
returns-in_err-end-clause-enough c = IfOk-from_err c.from_residual-in_err-end.result _ c.from_residual-in_err-end.ensures.0

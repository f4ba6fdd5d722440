use Rattle.std.proofs.Common.{Option, subst}
use Rattle.std.proofs.lemmas.Result.{IfOk-from_err}
use Rattle.sy_clauses.specs.declared.Lit.{Lit}
use Rattle.sy_clauses.specs.Marking.{clause_of}
use Rattle.sy_cdcl.specs.Conflicts.{IsLearned}
use Rattle.sy_cdcl.proofs.shortening.conclude.Goals as goal

pub returns-clause-learned : goal.returns-clause-learned
returns-clause-learned c = (
  (subst (λ (o : Option Lit). IsLearned c.args.trail.now (clause_of c.analyze.new.marks) o) c.in-Some.is c.in_ok-learned.ensures.learned).0,
  c.in_ok-line.ensures.unit,
)

pub returns-clause-vars : goal.returns-clause-vars
returns-clause-vars c v s h = c.in_ok-learned.ensures.vars v s (c.in_ok-line.ensures.within v s h)

pub returns-in_err-learned-clause-line : goal.returns-in_err-learned-clause-line
returns-in_err-learned-clause-line c = IfOk-from_err c.from_residual.result _ c.from_residual.ensures.0

pub returns-in_err-learned-clause-learned : goal.returns-in_err-learned-clause-learned
returns-in_err-learned-clause-learned c = IfOk-from_err c.from_residual.result _ c.from_residual.ensures.0

pub returns-in_err-learned-clause-short : goal.returns-in_err-learned-clause-short
returns-in_err-learned-clause-short c = IfOk-from_err c.from_residual.result _ c.from_residual.ensures.0

pub returns-in_err-learned-clause-vars : goal.returns-in_err-learned-clause-vars
returns-in_err-learned-clause-vars c = IfOk-from_err c.from_residual.result _ c.from_residual.ensures.0

pub returns-in_err-learned-clause-listed : goal.returns-in_err-learned-clause-listed
returns-in_err-learned-clause-listed c = IfOk-from_err c.from_residual.result _ c.from_residual.ensures.0

pub returns-in_err-line-clause-line : goal.returns-in_err-line-clause-line
returns-in_err-line-clause-line c = IfOk-from_err c.from_residual-in_err-line.result _ c.from_residual-in_err-line.ensures.0

pub returns-in_err-line-clause-learned : goal.returns-in_err-line-clause-learned
returns-in_err-line-clause-learned c = IfOk-from_err c.from_residual-in_err-line.result _ c.from_residual-in_err-line.ensures.0

pub returns-in_err-line-clause-short : goal.returns-in_err-line-clause-short
returns-in_err-line-clause-short c = IfOk-from_err c.from_residual-in_err-line.result _ c.from_residual-in_err-line.ensures.0

pub returns-in_err-line-clause-vars : goal.returns-in_err-line-clause-vars
returns-in_err-line-clause-vars c = IfOk-from_err c.from_residual-in_err-line.result _ c.from_residual-in_err-line.ensures.0

pub returns-in_err-line-clause-listed : goal.returns-in_err-line-clause-listed
returns-in_err-line-clause-listed c = IfOk-from_err c.from_residual-in_err-line.result _ c.from_residual-in_err-line.ensures.0

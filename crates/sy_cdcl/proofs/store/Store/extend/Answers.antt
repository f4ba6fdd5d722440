use Rattle.std.proofs.Common.{◌∙◌, ◌++◌, ap}
use Rattle.std.proofs.lemmas.List.{take_all}
use Rattle.std.proofs.lemmas.Result.{IfOk-from_err}
use Rattle.sy_cdcl.proofs.Storing.{copied_more}
use Rattle.sy_cdcl.proofs.store.Store.extend.Goals as goal

pub loop-literal-preserved : goal.loop-literal-preserved
loop-literal-preserved c =
    let l = c.loop-literal in
    record {
      codes = copied_more _ _ c.args.self.now.codes.items c.args.clause.now l.literal-index _ _ c.loop-literal-test.true c.in_ok-code.ensures c.in_ok-push.ensures.items l.invariant.codes;
      spans = l.invariant.spans;
    }

pub returns-in_err-code-clause-codes : goal.returns-in_err-code-clause-codes
returns-in_err-code-clause-codes c = IfOk-from_err c.from_residual.result _ c.from_residual.ensures.0

pub returns-in_err-code-clause-spans : goal.returns-in_err-code-clause-spans
returns-in_err-code-clause-spans c = c.loop-literal.invariant.spans

pub returns-in_err-push-clause-codes : goal.returns-in_err-push-clause-codes
returns-in_err-push-clause-codes c = IfOk-from_err c.from_residual-in_err-push.result _ c.from_residual-in_err-push.ensures.0

pub returns-in_err-push-clause-spans : goal.returns-in_err-push-clause-spans
returns-in_err-push-clause-spans c = c.loop-literal.invariant.spans

pub returns-clause-codes : goal.returns-clause-codes
returns-clause-codes c = c.loop-literal.invariant.codes ∙ ap (λ xs. c.args.self.now.codes.items ++ xs) (take_all c.loop-literal.literal-index c.args.clause.now c.loop-literal-test.false)

pub returns-clause-spans : goal.returns-clause-spans
returns-clause-spans c = c.loop-literal.invariant.spans

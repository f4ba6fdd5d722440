use Rattle.std.proofs.Common.{subst}
use Rattle.std.proofs.lemmas.Result.{IfOk-from_err}
use Rattle.sy_linear_known.specs.Right.{KnownIsRight, IsMisfit}
use Rattle.sy_linear_known.specs.Stored.{linear_query_of}
use Rattle.sy_linear_known.proofs.queries.known.Goals as goal

pub returns-clause-right : goal.returns-clause-right
returns-clause-right c = subst (λ facts. KnownIsRight (linear_query_of c.args.q.now) facts c.in_ok-answer.answer) c.as_slice.ensures c.in_ok-answer.ensures.right

pub returns-clause-range : goal.returns-clause-range
returns-clause-range c fits = subst (λ facts. IsMisfit (linear_query_of c.args.q.now) facts c.in_ok-answer.answer) c.as_slice.ensures (c.in_ok-answer.ensures.range fits)

pub returns-in_err-answer-clause-known : goal.returns-in_err-answer-clause-known
returns-in_err-answer-clause-known c = IfOk-from_err c.from_residual.result _ c.from_residual.ensures.0

pub returns-in_err-answer-clause-right : goal.returns-in_err-answer-clause-right
returns-in_err-answer-clause-right c = IfOk-from_err c.from_residual.result _ c.from_residual.ensures.0

pub returns-in_err-answer-clause-range : goal.returns-in_err-answer-clause-range
returns-in_err-answer-clause-range c = λ _. IfOk-from_err c.from_residual.result _ c.from_residual.ensures.0

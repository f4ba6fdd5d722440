use Rattle.std.proofs.Common.{◌≡◌, get_or, arith}
use Rattle.std.proofs.lemmas.List.{drop_all}
use Rattle.std.proofs.lemmas.List.Elements.{All-nil}
use Rattle.sygus_replies.specs.Replies.{IsSettled, reply_for}
use Rattle.sygus_answers.proofs.Statuses.{some_fails, all_settled_from}
use Rattle.sygus_answers.proofs.search.status_of.Goals as goal
use Rattle.sygus_answers.proofs.search.status_of.Goals.{in-Found, in-Infeasible}

pub returns-in-Fail-clause-some_fail : goal.returns-in-Fail-clause-some_fail
returns-in-Fail-clause-some_fail g c is =
    let item : c.answer-item.result ≡ get_or c.args.answers.now c.loop-answer.answer-index c.answer-item.result = cc in
    some_fails (reply_for g.T.Theory g.D.Decide) c.args.answers.now c.loop-answer.answer-index c.answer-item.result (omega arith) item (rw c.in-Fail.is tt)

pub loop-answer-preserved : goal.loop-answer-preserved
loop-answer-preserved g c rest =
    let item : c.answer-item.result ≡ get_or c.args.answers.now c.loop-answer.answer-index c.answer-item.result = cc in
    c.loop-answer.invariant
    (all_settled_from (reply_for g.T.Theory g.D.Decide) c.args.answers.now c.loop-answer.answer-index c.answer-item.result (omega arith) item
    (elim c.match-answer.branch [ in-Found w ↦ rw w.in-Found.is tt | in-Infeasible w ↦ rw w.in-Infeasible.is tt ]) rest)

pub returns-clause-all_settled : goal.returns-clause-all_settled
returns-clause-all_settled g c is = c.loop-answer.invariant (rw (drop_all c.loop-answer.answer-index c.args.answers.now (omega arith)) (All-nil IsSettled))

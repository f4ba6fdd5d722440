use Rattle.std.proofs.Common.{◌≡◌, ap, map, length, Ok, arith}
use Rattle.std.proofs.lemmas.Result.{err_from_is_err_and}
use Rattle.sy_grammar_base.specs.Questions.{question_of}
use Rattle.sy_reply.specs.Statements.{statement_of}
use Rattle.sy_reply_reader.specs.Replies.{statements_from}
use Rattle.sy_reply_reader.proofs.Fitting.{statements_fit, all_stated}
use Rattle.sy_reply_reader.proofs.Leading.{leads_all, leads_step, ends_step, ends_all, leads_to_all}
use Rattle.sy_reply_reader.proofs.replies.read_reply.Goals as goal

pub loop-problem-init : goal.loop-problem-init
loop-problem-init g c =
    let n = g.T.Theory.denotes in
    record {
      leads = leads_all (question_of n) (statement_of n) c.args.proofs c.args.logic c.args.titles.now c.args.bytes.now c.args.problems.now c.as_slice-problem-items.result.now c.new-stated.result c.args.at
          c.new-stated.ensures c.as_slice-problem-items.ensures c.requires.at;
      counted = omega arith;
    }

pub statement_read-requires-clause-at : goal.statement_read-requires-clause-at
statement_read-requires-clause-at g c = c.loop-problem.invariant.leads.within

pub returns-in_err-statement-clause-read : goal.returns-in_err-statement-clause-read
returns-in_err-statement-clause-read g c =
    let n = g.T.Theory.denotes in
    let p = err_from_is_err_and c.from_residual.result c.from_residual.ensures.1 in
    rw (p.1, p.2)
    (ends_step (question_of n) (statement_of n) c.args.proofs c.args.logic c.args.titles.now c.args.bytes.now _ c.loop-problem.stated c.loop-problem.check c.as_slice-problem-items.result.now c.loop-problem.problem-index c.problem-item.result
    c.loop-problem.next c.in_err-statement.field-0.0 c.loop-problem-test.true c.problem-item.is c.loop-problem.invariant.leads c.in_err-statement.ensures.read)

pub overflow_add-check : goal.overflow_add-check
overflow_add-check g c = omega (arith, c.loop-problem.invariant.counted, c.requires.few, c.loop-problem-test.true, ap length c.as_slice-problem-items.ensures)

pub loop-problem-preserved : goal.loop-problem-preserved
loop-problem-preserved g c =
    let n = g.T.Theory.denotes in
    record {
      leads = leads_step (question_of n) (statement_of n) c.args.proofs c.args.logic c.args.titles.now c.args.bytes.now _ c.loop-problem.stated c.push.new.self c.loop-problem.check c.as_slice-problem-items.result.now c.loop-problem.problem-index
          c.problem-item.result c.loop-problem.next (c.in_ok-statement.statement, c.in_ok-statement.behind) c.loop-problem-test.true c.problem-item.is c.loop-problem.invariant.leads c.in_ok-statement.ensures.read
          c.in_ok-statement.ensures.within c.in_ok-push.ensures.ok;
      counted = omega (arith, c.loop-problem.invariant.counted);
    }

pub nothing_left-requires : goal.nothing_left-requires
nothing_left-requires g c = c.loop-problem.invariant.leads.within

pub returns-in_err-nothing_left-clause-read : goal.returns-in_err-nothing_left-clause-read
returns-in_err-nothing_left-clause-read g c =
    let n = g.T.Theory.denotes in
    let p = err_from_is_err_and c.from_residual-in_err-nothing_left.result c.from_residual-in_err-nothing_left.ensures.1 in
    rw (p.1, p.2)
    (ends_all (question_of n) (statement_of n) c.args.proofs c.args.logic c.args.titles.now c.args.bytes.now _ c.loop-problem.stated c.loop-problem.check c.as_slice-problem-items.result.now c.loop-problem.problem-index c.loop-problem.next
    c.in_err-nothing_left.field-0.0 c.loop-problem-test.false c.loop-problem.invariant.leads c.in_err-nothing_left.ensures)

pub returns-clause-read : goal.returns-clause-read
returns-clause-read g c =
    let n = g.T.Theory.denotes in
    leads_to_all (question_of n) (statement_of n) c.args.proofs c.args.logic c.args.titles.now c.args.bytes.now _ c.loop-problem.stated c.loop-problem.check c.as_slice-problem-items.result.now c.loop-problem.problem-index c.loop-problem.next
    c.loop-problem-test.false c.loop-problem.invariant.leads c.in_ok-nothing_left.ensures

pub returns-clause-fit : goal.returns-clause-fit
returns-clause-fit g c =
    let n = g.T.Theory.denotes in
    let read : statements_from c.args.proofs c.args.logic c.args.titles.now c.args.bytes.now 1 (map (question_of n) c.args.problems.now) c.args.at ≡ Ok (map (statement_of n) c.loop-problem.stated) =
    leads_to_all (question_of n) (statement_of n) c.args.proofs c.args.logic c.args.titles.now c.args.bytes.now _ c.loop-problem.stated c.loop-problem.check c.as_slice-problem-items.result.now c.loop-problem.problem-index c.loop-problem.next
    c.loop-problem-test.false c.loop-problem.invariant.leads c.in_ok-nothing_left.ensures in
    all_stated g.T.Theory c.args.problems.now c.loop-problem.stated
    (statements_fit c.args.logic g.T.Theory.owned g.T.Theory.numeric c.requires.theory c.args.titles.now c.args.proofs c.args.bytes.now 1 (map (question_of n) c.args.problems.now) c.args.at (map (statement_of n) c.loop-problem.stated) read)

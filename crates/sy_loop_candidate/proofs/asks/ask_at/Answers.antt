use Rattle.std.proofs.Common.{arith, List, map}
use Rattle.std.proofs.lemmas.Result.{IfOk-from_err}
use Rattle.sy_terms.specs.Denoted.{expr_of}
use Rattle.sy_terms.specs.declared.sort.Value.{Value}
use Rattle.sy_terms.specs.declared.term.Term.{Term}
use Rattle.sy_grammar_base.specs.Questions.{question_of}
use Rattle.sy_loop_spec.specs.Stored.{counterexample_of, history_of}
use Rattle.sy_loop_truth.proofs.Places.{place_of}
use Rattle.sy_loop_candidate.proofs.Asking.{within_held, held_with, widened, widens_not, asks_at, asks_leaves}
use Rattle.sy_loop_candidate.proofs.asks.ask_at.Goals as goal

pub calls_at-requires-clause-values : goal.calls_at-requires-clause-values
calls_at-requires-clause-values g c =
    let pair : List (Value g.row.T-Num.Denot) × List (Term g.row.T.Denot g.row.T-Num.Denot) = (c.in-Some.assignment.now, c.in-Some.field-0-1.now) in
    let at = place_of g.T.Theory.denotes c.args.stored.now c.args.place pair c.in-Some.ensures in
    rw c.as_slice.ensures (c.requires.held.assigned c.args.place (counterexample_of g.T.Theory.denotes pair) at)

pub returns-in_ok-adding-in-Some-2-clause-held : goal.returns-in_ok-adding-in-Some-2-clause-held
returns-in_ok-adding-in-Some-2-clause-held g c =
    let pair : List (Value g.row.T-Num.Denot) × List (Term g.row.T.Denot g.row.T-Num.Denot) = (c.in-Some.assignment.now, c.in-Some.field-0-1.now) in
    let are = rw (c.in-Some-2.is, c.as_slice.ensures) at c.in_ok-calls.ensures in
    held_with (question_of g.T.Theory.denotes c.args.problem.now) c.args.limits.now (history_of g.T.Theory.denotes c.args.stored.now) (map (expr_of g.T.Theory.denotes) c.args.bodies.now) (counterexample_of g.T.Theory.denotes pair) c.in-Some-2.calls are.taken are.only
    c.args.points.now c.add_calls.new.points c.requires.held c.in_ok-adding-in-Some-2.ensures.gains

pub returns-in_ok-adding-in-Some-2-clause-widens : goal.returns-in_ok-adding-in-Some-2-clause-widens
returns-in_ok-adding-in-Some-2-clause-widens g c =
    let pair : List (Value g.row.T-Num.Denot) × List (Term g.row.T.Denot g.row.T-Num.Denot) = (c.in-Some.assignment.now, c.in-Some.field-0-1.now) in
    let at = place_of g.T.Theory.denotes c.args.stored.now c.args.place pair c.in-Some.ensures in
    let are = rw (c.in-Some-2.is, c.as_slice.ensures) at c.in_ok-calls.ensures in
    widened (question_of g.T.Theory.denotes c.args.problem.now) c.args.limits.now (history_of g.T.Theory.denotes c.args.stored.now) (map (expr_of g.T.Theory.denotes) c.args.bodies.now) (counterexample_of g.T.Theory.denotes pair) c.in-Some-2.calls are.taken are.only
    c.args.points.now c.add_calls.new.points c.args.place at c.in_ok-adding-in-Some-2.ensures.gains

pub returns-in_ok-adding-in-Some-2-clause-answer : goal.returns-in_ok-adding-in-Some-2-clause-answer
returns-in_ok-adding-in-Some-2-clause-answer g c =
    let pair : List (Value g.row.T-Num.Denot) × List (Term g.row.T.Denot g.row.T-Num.Denot) = (c.in-Some.assignment.now, c.in-Some.field-0-1.now) in
    let at = place_of g.T.Theory.denotes c.args.stored.now c.args.place pair c.in-Some.ensures in
    asks_at (question_of g.T.Theory.denotes c.args.problem.now) (history_of g.T.Theory.denotes c.args.stored.now) (map (expr_of g.T.Theory.denotes) c.args.bodies.now) (counterexample_of g.T.Theory.denotes pair) c.in-Some-2.calls
    c.args.points.now c.add_calls.new.points c.args.place c.in_ok-adding-in-Some-2.adding at (rw (c.in-Some-2.is, c.as_slice.ensures) at c.in_ok-calls.ensures) c.in_ok-adding-in-Some-2.ensures.answer

pub returns-in-None-clause-answer : goal.returns-in-None-clause-answer
returns-in-None-clause-answer g c =
    let pair : List (Value g.row.T-Num.Denot) × List (Term g.row.T.Denot g.row.T-Num.Denot) = (c.in-Some.assignment.now, c.in-Some.field-0-1.now) in
    let at = place_of g.T.Theory.denotes c.args.stored.now c.args.place pair c.in-Some.ensures in
    asks_leaves (question_of g.T.Theory.denotes c.args.problem.now) (history_of g.T.Theory.denotes c.args.stored.now) (map (expr_of g.T.Theory.denotes) c.args.bodies.now) (counterexample_of g.T.Theory.denotes pair) c.args.place at
    (rw (c.in-None.is, c.as_slice.ensures) at c.in_ok-calls.ensures)

pub returns-in-None-clause-widens : goal.returns-in-None-clause-widens
returns-in-None-clause-widens g c =
    widens_not (question_of g.T.Theory.denotes c.args.problem.now) (history_of g.T.Theory.denotes c.args.stored.now) (map (expr_of g.T.Theory.denotes) c.args.bodies.now) c.args.points.now

pub unreachable-requires : goal.unreachable-requires
unreachable-requires g c = omega (arith, c.requires.place, c.in_default.ensures)

pub returns-in_err-calls-clause-held : goal.returns-in_err-calls-clause-held
returns-in_err-calls-clause-held g c = IfOk-from_err c.from_residual.result _ c.from_residual.ensures.0

pub returns-in_err-calls-clause-widens : goal.returns-in_err-calls-clause-widens
returns-in_err-calls-clause-widens g c = IfOk-from_err c.from_residual.result _ c.from_residual.ensures.0

pub returns-in_err-calls-clause-answer : goal.returns-in_err-calls-clause-answer
returns-in_err-calls-clause-answer g c = IfOk-from_err c.from_residual.result _ c.from_residual.ensures.0

pub returns-in_err-adding-in-Some-2-clause-held : goal.returns-in_err-adding-in-Some-2-clause-held
returns-in_err-adding-in-Some-2-clause-held g c = IfOk-from_err c.from_residual-in_err-adding-in-Some-2.result _ c.from_residual-in_err-adding-in-Some-2.ensures.0

pub returns-in_err-adding-in-Some-2-clause-widens : goal.returns-in_err-adding-in-Some-2-clause-widens
returns-in_err-adding-in-Some-2-clause-widens g c = IfOk-from_err c.from_residual-in_err-adding-in-Some-2.result _ c.from_residual-in_err-adding-in-Some-2.ensures.0

pub returns-in_err-adding-in-Some-2-clause-answer : goal.returns-in_err-adding-in-Some-2-clause-answer
returns-in_err-adding-in-Some-2-clause-answer g c = IfOk-from_err c.from_residual-in_err-adding-in-Some-2.result _ c.from_residual-in_err-adding-in-Some-2.ensures.0

pub returns-in-None-clause-held : goal.returns-in-None-clause-held
returns-in-None-clause-held g c = c.requires.held

pub add_calls-requires : goal.add_calls-requires
add_calls-requires g c =
    let pair : List (Value g.row.T-Num.Denot) × List (Term g.row.T.Denot g.row.T-Num.Denot) = (c.in-Some.assignment.now, c.in-Some.field-0-1.now) in
    let are = rw (c.in-Some-2.is, c.as_slice.ensures) at c.in_ok-calls.ensures in
    record {
      within = within_held (question_of g.T.Theory.denotes c.args.problem.now) c.args.limits.now (history_of g.T.Theory.denotes c.args.stored.now) (map (expr_of g.T.Theory.denotes) c.args.bodies.now) (counterexample_of g.T.Theory.denotes pair) c.in-Some-2.calls are.taken are.only
          c.args.points.now c.requires.held;
    }

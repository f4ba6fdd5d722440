use Rattle.std.proofs.Common.{List, map, arith, refl, sym, subst}
use Rattle.std.proofs.lemmas.List.Elements.{All-nil}
use Rattle.std.proofs.lemmas.Result.{IfOk-from_err}
use Rattle.sy_terms.specs.Denoted.{expr_of}
use Rattle.sy_terms.specs.declared.sort.Value.{Value}
use Rattle.sy_terms.specs.declared.term.Term.{Term}
use Rattle.sy_grammar_base.specs.Questions.{question_of}
use Rattle.sy_grammar_base.specs.Solving.{Meets}
use Rattle.sy_loop_spec.specs.Histories.{Counterexample}
use Rattle.sy_loop_spec.specs.Stored.{counterexample_of, history_of}
use Rattle.sy_loop_truth.proofs.Items.{all_next, all_done}
use Rattle.sy_loop_truth.proofs.Places.{place_of}
use Rattle.sy_loop_candidate.proofs.Assignments.{calls_within, holds, widens, tried, leaves_at}
use Rattle.sy_loop_truth.specs.Traces.{Widens}
use Rattle.sy_loop_candidate.proofs.Asking.{widens_not}
use Rattle.sy_loop_candidate.proofs.trial.try_bodies.Goals as goal

pub loop-place-init : goal.loop-place-init
loop-place-init g c = record {
  same = refl;
  meets = All-nil (λ (k : Counterexample). Meets (question_of g.T.Theory.denotes c.args.problem.now) (map (expr_of g.T.Theory.denotes) c.args.bodies.now) k.assignment);
}

pub judge-requires-clause-values : goal.judge-requires-clause-values
judge-requires-clause-values g c =
    let pair : List (Value g.row.T-Num.Denot) × List (Term g.row.T.Denot g.row.T-Num.Denot) = (c.in-Some.assignment.now, c.in-Some.field-0-1.now) in
    let at = place_of g.T.Theory.denotes c.args.stored.now c.loop-place.place pair c.in-Some.ensures in
    rw c.as_slice.ensures (c.requires.held.assigned c.loop-place.place (counterexample_of g.T.Theory.denotes pair) at)

pub add_calls-requires : goal.add_calls-requires
add_calls-requires g c =
    let pair : List (Value g.row.T-Num.Denot) × List (Term g.row.T.Denot g.row.T-Num.Denot) = (c.in-Some.assignment.now, c.in-Some.field-0-1.now) in
    let held = rw (sym c.loop-place.invariant.same) at c.requires.held in
    record {
      within = calls_within (question_of g.T.Theory.denotes c.args.problem.now) c.args.limits.now (history_of g.T.Theory.denotes c.args.stored.now) (map (expr_of g.T.Theory.denotes) c.args.bodies.now) (counterexample_of g.T.Theory.denotes pair) c.in-False.calls
          (rw (c.in-False.is, c.as_slice.ensures) at c.in_ok-judge.ensures) c.loop-place.points held;
    }

pub returns-in-False-clause-held : goal.returns-in-False-clause-held
returns-in-False-clause-held g c =
    let pair : List (Value g.row.T-Num.Denot) × List (Term g.row.T.Denot g.row.T-Num.Denot) = (c.in-Some.assignment.now, c.in-Some.field-0-1.now) in
    let held = rw (sym c.loop-place.invariant.same) at c.requires.held in
    holds (question_of g.T.Theory.denotes c.args.problem.now) c.args.limits.now (history_of g.T.Theory.denotes c.args.stored.now) (map (expr_of g.T.Theory.denotes) c.args.bodies.now) (counterexample_of g.T.Theory.denotes pair) c.in-False.calls
    (rw (c.in-False.is, c.as_slice.ensures) at c.in_ok-judge.ensures) c.loop-place.points c.add_calls.new.points held c.in_ok-adding-in-False.ensures.gains

pub returns-in-False-clause-answer : goal.returns-in-False-clause-answer
returns-in-False-clause-answer g c =
    let pair : List (Value g.row.T-Num.Denot) × List (Term g.row.T.Denot g.row.T-Num.Denot) = (c.in-Some.assignment.now, c.in-Some.field-0-1.now) in
    let at = place_of g.T.Theory.denotes c.args.stored.now c.loop-place.place pair c.in-Some.ensures in
    rw c.refuted.ensures
    (tried (question_of g.T.Theory.denotes c.args.problem.now) c.args.limits.now (history_of g.T.Theory.denotes c.args.stored.now) (map (expr_of g.T.Theory.denotes) c.args.bodies.now) (counterexample_of g.T.Theory.denotes pair) c.in-False.calls
    (rw (c.in-False.is, c.as_slice.ensures) at c.in_ok-judge.ensures) c.args.points.now c.add_calls.new.points c.loop-place.place c.in_ok-adding-in-False.adding at (rw c.loop-place.invariant.same at c.in_ok-adding-in-False.ensures.answer))

pub returns-in-Leaves-clause-held : goal.returns-in-Leaves-clause-held
returns-in-Leaves-clause-held g c = rw c.loop-place.invariant.same c.requires.held

pub returns-in-Leaves-clause-answer : goal.returns-in-Leaves-clause-answer
returns-in-Leaves-clause-answer g c =
    let pair : List (Value g.row.T-Num.Denot) × List (Term g.row.T.Denot g.row.T-Num.Denot) = (c.in-Some.assignment.now, c.in-Some.field-0-1.now) in
    let at = place_of g.T.Theory.denotes c.args.stored.now c.loop-place.place pair c.in-Some.ensures in
    leaves_at (question_of g.T.Theory.denotes c.args.problem.now) (history_of g.T.Theory.denotes c.args.stored.now) (map (expr_of g.T.Theory.denotes) c.args.bodies.now) c.loop-place.place (counterexample_of g.T.Theory.denotes pair) at
    (rw (c.in-Leaves.is, c.as_slice.ensures) at c.in_ok-judge.ensures)

pub loop-place-preserved : goal.loop-place-preserved
loop-place-preserved g c =
    let pair : List (Value g.row.T-Num.Denot) × List (Term g.row.T.Denot g.row.T-Num.Denot) = (c.in-Some.assignment.now, c.in-Some.field-0-1.now) in
    record {
      same = c.loop-place.invariant.same;
      meets = all_next (λ (k : Counterexample). Meets (question_of g.T.Theory.denotes c.args.problem.now) (map (expr_of g.T.Theory.denotes) c.args.bodies.now) k.assignment) (counterexample_of g.T.Theory.denotes) c.args.stored.now.items c.loop-place.place pair c.in-Some.ensures c.loop-place.invariant.meets
          (rw (c.in-True.is, c.as_slice.ensures) at c.in_ok-judge.ensures);
    }

pub ask_all-requires-clause-meets : goal.ask_all-requires-clause-meets
ask_all-requires-clause-meets g c =
    all_done (λ (k : Counterexample). Meets (question_of g.T.Theory.denotes c.args.problem.now) (map (expr_of g.T.Theory.denotes) c.args.bodies.now) k.assignment) (counterexample_of g.T.Theory.denotes) c.args.stored.now.items c.loop-place.place (omega (arith, c.loop-place-test.false, c.len-place-end.ensures)) c.loop-place.invariant.meets

pub ask_all-requires-clause-held : goal.ask_all-requires-clause-held
ask_all-requires-clause-held g c = rw c.loop-place.invariant.same c.requires.held

pub returns-clause-answer : goal.returns-clause-answer
returns-clause-answer g c = rw c.loop-place.invariant.same at c.in_ok-trial.ensures.answer

pub returns-in-False-clause-widens : goal.returns-in-False-clause-widens
returns-in-False-clause-widens g c =
    let pair : List (Value g.row.T-Num.Denot) × List (Term g.row.T.Denot g.row.T-Num.Denot) = (c.in-Some.assignment.now, c.in-Some.field-0-1.now) in
    let at = place_of g.T.Theory.denotes c.args.stored.now c.loop-place.place pair c.in-Some.ensures in
    subst (λ points. Widens (question_of g.T.Theory.denotes c.args.problem.now) (history_of g.T.Theory.denotes c.args.stored.now) (map (expr_of g.T.Theory.denotes) c.args.bodies.now) points c.add_calls.new.points) c.loop-place.invariant.same
    (widens (question_of g.T.Theory.denotes c.args.problem.now) c.args.limits.now (history_of g.T.Theory.denotes c.args.stored.now) (map (expr_of g.T.Theory.denotes) c.args.bodies.now) (counterexample_of g.T.Theory.denotes pair) c.in-False.calls
    (rw (c.in-False.is, c.as_slice.ensures) at c.in_ok-judge.ensures) c.loop-place.points c.add_calls.new.points c.loop-place.place at c.in_ok-adding-in-False.ensures.gains)

pub returns-in-Leaves-clause-widens : goal.returns-in-Leaves-clause-widens
returns-in-Leaves-clause-widens g c =
    subst (Widens (question_of g.T.Theory.denotes c.args.problem.now) (history_of g.T.Theory.denotes c.args.stored.now) (map (expr_of g.T.Theory.denotes) c.args.bodies.now) c.args.points.now) (sym c.loop-place.invariant.same)
    (widens_not (question_of g.T.Theory.denotes c.args.problem.now) (history_of g.T.Theory.denotes c.args.stored.now) (map (expr_of g.T.Theory.denotes) c.args.bodies.now) c.args.points.now)

pub returns-clause-widens : goal.returns-clause-widens
returns-clause-widens g c = rw c.loop-place.invariant.same at c.in_ok-trial.ensures.widens

pub returns-in_err-judge-clause-held : goal.returns-in_err-judge-clause-held
returns-in_err-judge-clause-held g c = IfOk-from_err c.from_residual.result _ c.from_residual.ensures.0

pub returns-in_err-judge-clause-widens : goal.returns-in_err-judge-clause-widens
returns-in_err-judge-clause-widens g c = IfOk-from_err c.from_residual.result _ c.from_residual.ensures.0

pub returns-in_err-judge-clause-answer : goal.returns-in_err-judge-clause-answer
returns-in_err-judge-clause-answer g c = IfOk-from_err c.from_residual.result _ c.from_residual.ensures.0

pub returns-in_err-adding-in-False-clause-held : goal.returns-in_err-adding-in-False-clause-held
returns-in_err-adding-in-False-clause-held g c = IfOk-from_err c.from_residual-in_err-adding-in-False.result _ c.from_residual-in_err-adding-in-False.ensures.0

pub returns-in_err-adding-in-False-clause-widens : goal.returns-in_err-adding-in-False-clause-widens
returns-in_err-adding-in-False-clause-widens g c = IfOk-from_err c.from_residual-in_err-adding-in-False.result _ c.from_residual-in_err-adding-in-False.ensures.0

pub returns-in_err-adding-in-False-clause-answer : goal.returns-in_err-adding-in-False-clause-answer
returns-in_err-adding-in-False-clause-answer g c = IfOk-from_err c.from_residual-in_err-adding-in-False.result _ c.from_residual-in_err-adding-in-False.ensures.0

pub returns-in_err-trial-clause-held : goal.returns-in_err-trial-clause-held
returns-in_err-trial-clause-held g c = IfOk-from_err c.from_residual-in_err-trial.result _ c.from_residual-in_err-trial.ensures.0

pub returns-in_err-trial-clause-widens : goal.returns-in_err-trial-clause-widens
returns-in_err-trial-clause-widens g c = IfOk-from_err c.from_residual-in_err-trial.result _ c.from_residual-in_err-trial.ensures.0

pub returns-in_err-trial-clause-answer : goal.returns-in_err-trial-clause-answer
returns-in_err-trial-clause-answer g c = IfOk-from_err c.from_residual-in_err-trial.result _ c.from_residual-in_err-trial.ensures.0

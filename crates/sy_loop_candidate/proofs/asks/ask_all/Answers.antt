use Rattle.std.proofs.Common.{map, arith, refl}
use Rattle.std.proofs.lemmas.List.Elements.{All-nil}
use Rattle.std.proofs.lemmas.List.{length-map}
use Rattle.std.proofs.lemmas.Result.{IfOk-from_err}
use Rattle.sy_terms.specs.Denoted.{expr_of}
use Rattle.sy_grammar_base.specs.Questions.{question_of}
use Rattle.sy_loop_spec.specs.Histories.{Counterexample}
use Rattle.sy_loop_spec.specs.Stored.{counterexample_of, history_of}
use Rattle.sy_loop_truth.specs.Traces.{IsTraced}
use Rattle.sy_loop_candidate.proofs.Asking.{widens_not, widens_then, so_far_there, so_far_new, traced_next, tries_all}
use Rattle.sy_loop_candidate.proofs.asks.ask_all.Goals.{in-There, in-New}
use Rattle.sy_loop_candidate.proofs.asks.ask_all.Goals as goal

pub loop-place-preserved : goal.loop-place-preserved
loop-place-preserved g c =
    let question = question_of g.T.Theory.denotes c.args.problem.now in
    let history = history_of g.T.Theory.denotes c.args.stored.now in
    let bodies = map (expr_of g.T.Theory.denotes) c.args.bodies.now in
    elim c.match-adding.branch [
      | in-There w ↦
          let answer = rw (c.in-Some.is, w.in-There.is) at c.in_ok-adding.ensures.answer in
          record {
            held = c.in_ok-adding.ensures.held;
            traced = traced_next question history bodies c.loop-place.points c.ask_at.new.points c.loop-place.place c.loop-place.invariant.traced c.in_ok-adding.ensures.widens answer.0;
            widens = widens_then question history bodies c.args.points.now c.loop-place.points c.ask_at.new.points c.loop-place.invariant.widens c.in_ok-adding.ensures.widens;
            so_far = rw w.trial-is (so_far_there c.args.points.now c.loop-place.points c.ask_at.new.points c.loop-place.trial c.loop-place.invariant.so_far answer.1);
          }
      | in-New w ↦
          let answer = rw (c.in-Some.is, w.in-New.is) at c.in_ok-adding.ensures.answer in
          record {
            held = c.in_ok-adding.ensures.held;
            traced = traced_next question history bodies c.loop-place.points c.ask_at.new.points c.loop-place.place c.loop-place.invariant.traced c.in_ok-adding.ensures.widens answer.0;
            widens = widens_then question history bodies c.args.points.now c.loop-place.points c.ask_at.new.points c.loop-place.invariant.widens c.in_ok-adding.ensures.widens;
            so_far = rw w.trial-is (so_far_new c.args.points.now c.loop-place.points c.ask_at.new.points c.loop-place.trial c.loop-place.invariant.so_far answer.1);
          }
    ]

pub returns-clause-answer : goal.returns-clause-answer
returns-clause-answer g c =
    tries_all (question_of g.T.Theory.denotes c.args.problem.now) (history_of g.T.Theory.denotes c.args.stored.now) (map (expr_of g.T.Theory.denotes) c.args.bodies.now) c.args.points.now c.loop-place.points c.loop-place.place c.loop-place.trial
    (omega (arith, c.loop-place-test.false, c.len-place-end.ensures, length-map c.args.stored.now.items (counterexample_of g.T.Theory.denotes))) c.requires.meets c.loop-place.invariant.traced c.loop-place.invariant.so_far

pub returns-in-Full-clause-widens : goal.returns-in-Full-clause-widens
returns-in-Full-clause-widens g c =
    widens_then (question_of g.T.Theory.denotes c.args.problem.now) (history_of g.T.Theory.denotes c.args.stored.now) (map (expr_of g.T.Theory.denotes) c.args.bodies.now)
    c.args.points.now c.loop-place.points c.ask_at.new.points c.loop-place.invariant.widens c.in_ok-adding.ensures.widens

pub returns-in_default-clause-widens : goal.returns-in_default-clause-widens
returns-in_default-clause-widens g c =
    widens_then (question_of g.T.Theory.denotes c.args.problem.now) (history_of g.T.Theory.denotes c.args.stored.now) (map (expr_of g.T.Theory.denotes) c.args.bodies.now)
    c.args.points.now c.loop-place.points c.ask_at.new.points c.loop-place.invariant.widens c.in_ok-adding.ensures.widens

pub returns-clause-widens : goal.returns-clause-widens
returns-clause-widens g c = c.loop-place.invariant.widens

pub loop-place-init : goal.loop-place-init
loop-place-init g c = record {
  held = c.requires.held;
  traced = All-nil (λ (k : Counterexample). IsTraced (question_of g.T.Theory.denotes c.args.problem.now) c.args.points.now (map (expr_of g.T.Theory.denotes) c.args.bodies.now) k.assignment);
  widens = widens_not (question_of g.T.Theory.denotes c.args.problem.now) (history_of g.T.Theory.denotes c.args.stored.now) (map (expr_of g.T.Theory.denotes) c.args.bodies.now) c.args.points.now;
  so_far = refl;
}

pub returns-in_err-adding-clause-held : goal.returns-in_err-adding-clause-held
returns-in_err-adding-clause-held g c = IfOk-from_err c.from_residual.result _ c.from_residual.ensures.0

pub returns-in_err-adding-clause-widens : goal.returns-in_err-adding-clause-widens
returns-in_err-adding-clause-widens g c = IfOk-from_err c.from_residual.result _ c.from_residual.ensures.0

pub returns-in_err-adding-clause-answer : goal.returns-in_err-adding-clause-answer
returns-in_err-adding-clause-answer g c = IfOk-from_err c.from_residual.result _ c.from_residual.ensures.0

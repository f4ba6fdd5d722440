use Rattle.std.proofs.Common.{◌<◌, length, arith, refl, sym, ◌∙◌}
use Rattle.std.proofs.lemmas.Result.{IfOk-from_err}
use Rattle.sy_terms.specs.Denoted.{vals_of}
use Rattle.sy_loop_truth.proofs.Traced.{no_element}
use Rattle.sy_loop_truth.proofs.Items.{has_place}
use Rattle.sy_loop_truth.proofs.Tuples.{gains_start, gains_more, there_more, changed_not, changed_new, adds_all, full_at}
use Rattle.sy_loop_truth.proofs.calls.add_calls.Goals.{in-There, in-New}
use Rattle.sy_loop_truth.proofs.calls.add_calls.Goals as goal

pub loop-place-init : goal.loop-place-init
loop-place-init g c = record {
  gains = gains_start c.args.calls.now c.args.points.now;
  there = λ function tuple at. absurd (no_element (function, tuple) at);
  changed = refl;
}

pub add-requires : goal.add-requires
add-requires g c =
    let within = c.requires.within c.in-Some.function (vals_of g.T.Theory.denotes c.in-Some.tuple.now) (has_place c.args.calls.now c.loop-place.place (c.in-Some.function, vals_of g.T.Theory.denotes c.in-Some.tuple.now) c.in-Some.ensures) in
    omega (arith, within, c.loop-place.invariant.gains.functions)

pub returns-in-Full-clause-gains : goal.returns-in-Full-clause-gains
returns-in-Full-clause-gains g c =
    let tuple = vals_of g.T.Theory.denotes c.in-Some.tuple.now in
    let within = c.requires.within c.in-Some.function tuple (has_place c.args.calls.now c.loop-place.place (c.in-Some.function, tuple) c.in-Some.ensures) in
    gains_more c.args.calls.now c.args.points.now c.loop-place.points c.add.new.self c.loop-place.place c.in-Some.function tuple c.in_ok-add.field-0 c.loop-place.invariant.gains (omega (arith, within, c.loop-place.invariant.gains.functions)) c.in-Some.ensures (rw c.as_slice.ensures at c.in_ok-add.ensures.ok)

pub returns-in-Full-clause-answer : goal.returns-in-Full-clause-answer
returns-in-Full-clause-answer g c =
    let tuple = vals_of g.T.Theory.denotes c.in-Some.tuple.now in
    let within = c.requires.within c.in-Some.function tuple (has_place c.args.calls.now c.loop-place.place (c.in-Some.function, tuple) c.in-Some.ensures) in
    full_at c.args.calls.now c.loop-place.points c.add.new.self c.loop-place.place c.in-Some.function tuple (omega (arith, within, c.loop-place.invariant.gains.functions)) c.in-Some.ensures (rw (c.in-Full.is, c.as_slice.ensures) at c.in_ok-add.ensures.ok)

pub loop-place-preserved : goal.loop-place-preserved
loop-place-preserved g c =
    let tuple = vals_of g.T.Theory.denotes c.in-Some.tuple.now in
    let within = c.requires.within c.in-Some.function tuple (has_place c.args.calls.now c.loop-place.place (c.in-Some.function, tuple) c.in-Some.ensures) in
    let inside : c.in-Some.function < length c.loop-place.points.tuples = omega (arith, within, c.loop-place.invariant.gains.functions) in
    let adds = rw c.as_slice.ensures at c.in_ok-add.ensures.ok in
    let gains = gains_more c.args.calls.now c.args.points.now c.loop-place.points c.add.new.self c.loop-place.place c.in-Some.function tuple c.in_ok-add.field-0 c.loop-place.invariant.gains inside c.in-Some.ensures adds in
    elim c.match-branch-2.branch [
      | in-There w ↦ record {
        gains = gains;
        there = there_more c.args.calls.now c.loop-place.points c.add.new.self c.loop-place.place c.in-Some.function tuple c.in_ok-add.field-0 inside c.in-Some.ensures (λ full. let clash = sym w.in-There.is ∙ full in cc) adds c.loop-place.invariant.there;
        changed = rw w.adding-is (changed_not c.args.points.now c.loop-place.points c.add.new.self c.in-Some.function tuple c.loop-place.adding (rw w.in-There.is at adds) c.loop-place.invariant.changed);
      }
      | in-New w ↦ record {
        gains = gains;
        there = there_more c.args.calls.now c.loop-place.points c.add.new.self c.loop-place.place c.in-Some.function tuple c.in_ok-add.field-0 inside c.in-Some.ensures (λ full. let clash = sym w.in-New.is ∙ full in cc) adds c.loop-place.invariant.there;
        changed = rw w.adding-is (changed_new c.args.calls.now c.args.points.now c.loop-place.points c.add.new.self c.in-Some.function tuple c.loop-place.invariant.gains inside (rw w.in-New.is at adds));
      }
    ]

pub returns-clause-gains : goal.returns-clause-gains
returns-clause-gains g c = c.loop-place.invariant.gains

pub returns-clause-answer : goal.returns-clause-answer
returns-clause-answer g c =
    adds_all c.args.calls.now c.args.points.now c.loop-place.points c.loop-place.place c.loop-place.adding (omega (arith, c.loop-place-test.false, c.len-place-end.ensures)) c.loop-place.invariant.there c.loop-place.invariant.changed

pub returns-in_err-add-clause-gains : goal.returns-in_err-add-clause-gains
returns-in_err-add-clause-gains g c = IfOk-from_err c.from_residual.result _ c.from_residual.ensures.0

pub returns-in_err-add-clause-answer : goal.returns-in_err-add-clause-answer
returns-in_err-add-clause-answer g c = IfOk-from_err c.from_residual.result _ c.from_residual.ensures.0

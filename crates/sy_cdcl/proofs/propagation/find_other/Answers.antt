use Rattle.std.proofs.Common.{◌≡◌, ◌∙◌, ◌+◌, ◌<◌, Some, true, ap, get_or, length, sym, subst, arith, rules}
use Rattle.std.specs.Prelude.{slice_get}
use Rattle.std.proofs.lemmas.Option.{slice_get-get_or}
use Rattle.sy_clauses.specs.declared.Lit.{Lit}
use Rattle.sy_clauses.specs.Clauses.{literals}
use Rattle.sy_cdcl.specs.Trails.{kept_values}
use Rattle.sy_cdcl.proofs.Inspect.{AreFalseRound, IsReached, found_at, reached_first, reached_next, reached_again, round_first, round_more, round_all}
use Rattle.sy_cdcl.proofs.propagation.find_other.Goals.{then-from-clause, else-from-clause, then-place-clause, else-place-clause, else-not-is_false-via-then-not-is_false+else-not-is_same, else-not-is_false-via-else-not-is_false}
use Rattle.sy_cdcl.proofs.propagation.find_other.Goals as goal

pub loop-init : goal.loop-init
loop-init c =
    let all = length c.args.clause.now in
    let began : 0 < all → c.if-from-clause.start < all =
    λ some. elim c.if-from-clause.branch [
      | then-from-clause w ↦ subst (λ n. n < all) (sym w.start-is) w.if-from-clause.true
      | else-from-clause w ↦ subst (λ n. n < all) (sym w.start-is) some
    ] in
    record {
      reached = reached_first all c.if-from-clause.start began;
      passed = round_first (kept_values c.args.trail.now.values.items) c.args.clause.now c.if-from-clause.start c.args.other began;
    }

pub offset_bounds-clause-place : goal.offset_bounds-clause-place
offset_bounds-clause-place c =
    let inside : c.loop.place < length c.args.clause.now = c.loop.invariant.reached.within (omega (arith, c.loop-test.true)) in search rules

pub bounds-clause-place : goal.bounds-clause-place
bounds-clause-place c = c.loop.invariant.reached.within (omega (arith, c.loop-test.true))

pub returns-then-not-is_same : goal.returns-then-not-is_same
returns-then-not-is_same c =
    let d : Lit = c.index-clause-place.result in
    record {
      has = subst (λ (l : Lit). literals c.args.clause.now l.var l.positive ≡ true)
          (sym (c.literal-literal.ensures ∙ c.index-clause-place.is))
          (found_at c.args.clause.now c.loop.place d (c.loop.invariant.reached.within (omega (arith, c.loop-test.true))));
      different = sym c.is_same.ensures ∙ c.if-not-is_same.true;
      not_false = c.if-not-is_false.ensures;
    }

pub overflow_add-place : goal.overflow_add-place
overflow_add-place c =
    let inside : c.loop.place < length c.args.clause.now = c.loop.invariant.reached.within (omega (arith, c.loop-test.true)) in search rules

pub loop-preserved : goal.loop-preserved
loop-preserved c =
    let all = length c.args.clause.now in
    let start = c.if-from-clause.start in
    let reached = c.loop.invariant.reached in
    let d : Lit = c.index-clause-place.result in
    let at : slice_get c.args.clause.now c.loop.place ≡ Some (get_or c.args.clause.now c.loop.place d) =
    slice_get-get_or c.args.clause.now c.loop.place d (reached.within (omega (arith, c.loop-test.true))) in
    record {
      reached = elim c.if-place-clause.branch [
        | then-place-clause w ↦ subst (λ place. IsReached all start (c.loop.counter + 1) place) (sym w.place-is)
            (reached_again all start c.loop.counter c.loop.place c.loop-test.true reached w.if-place-clause.true)
        | else-place-clause w ↦ subst (λ place. IsReached all start (c.loop.counter + 1) place) (sym w.place-is)
            (reached_next all start c.loop.counter c.loop.place reached w.if-place-clause.false)
      ];
      passed =
          round_more (kept_values c.args.trail.now.values.items) c.args.clause.now start c.loop.counter c.loop.place c.literal-literal.result c.args.other
          c.loop.invariant.passed reached
          (at ∙ ap Some (sym (c.literal-literal.ensures ∙ c.index-clause-place.is)))
          (λ n. elim c.else-not-is_false.branch [
            | else-not-is_false-via-then-not-is_false+else-not-is_same w ↦ absurd (let z = sym n ∙ sym w.is_same.ensures ∙ w.if-not-is_same.false in cc)
            | else-not-is_false-via-else-not-is_false w ↦ w.if-not-is_false.ensures
          ]);
    }

pub returns : goal.returns
returns c =
    let values = kept_values c.args.trail.now.values.items in
    let steps : c.loop.counter ≡ length c.args.clause.now = omega (arith, c.loop-test.false, c.loop.auto.counter-end) in
    round_all values c.args.clause.now c.if-from-clause.start c.args.other
    (subst (λ n. AreFalseRound values c.args.clause.now c.if-from-clause.start n c.args.other) steps c.loop.invariant.passed)

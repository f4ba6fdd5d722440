use Rattle.std.proofs.Common.{arith, ◌≡◌, ◌+◌, ◌≤◌, ◌<◌, length, ap, sym, ◌∙◌, ◌⊎◌, inl, inr}
use Rattle.std.proofs.lemmas.Bool.Decides.{nat_tests}
use Rattle.std.proofs.lemmas.List.{length-map}
use Rattle.sy_bank_level.specs.Stored.{chosen_of}
use Rattle.sy_bank_level.proofs.Keeping.{grows-on}
use Rattle.sy_bank.proofs.Begun.{chosen-done, left-over, left-short, below-none, below-whole}
use Rattle.sy_bank.proofs.Items.{chosen-popped, begun-item, done-items, done-all, begun-terms, done-terms}
use Rattle.sy_bank.proofs.choosing.+choose.Goals as goal
use Rattle.sy_bank.proofs.choosing.+choose.Goals.{choose_rest-then-left-eq0+in_ok-offer, choose_rest-else-left-eq0, choose_rest-then-is_empty, choose_rest-else-is_empty, choose_rest-in-Some-kept_terms+in_ok-choose_first, choose_rest-in_default-kept_terms}

pub choose_first-choose_rest-requires : goal.choose_first-choose_rest-requires
choose_first-choose_rest-requires g t c κs within = (
  omega (arith, c.decreases),
  (
    within.0,
    (
      within.1,
      (
        c.requires.task,
        (
          c.requires.rule,
          (
            c.loop-term.invariant.steady,
            begun-item g.T.Theory.denotes _ _ c.args.chosen.now.items c.loop-term.chosen.items c.push.new.self.items _ c.args.terms.now c.loop-term.term-index c.args.places.now c.args.left c.loop-term.invariant.chosen c.in_ok-push.ensures.items c.loop-term-test.true c.term-item.is c.requires.begun,
          ),
        ),
      ),
    ),
  ),
)

pub choose_first-loop-term-preserved : goal.choose_first-loop-term-preserved
choose_first-loop-term-preserved g t c = record {
  steady = c.in_ok-choose_rest.ensures.steady;
  grows = grows-on _ _ _ _ c.loop-term.invariant.grows c.in_ok-choose_rest.ensures.grows;
  chosen = chosen-popped c.args.chosen.now.items c.loop-term.chosen.items c.choose_rest.new.chosen.items c.pop.new.self.items _ _ c.loop-term.invariant.chosen (c.in_ok-choose_rest.ensures.chosen ∙ c.in_ok-push.ensures.items) c.choose_rest.new.chosen.ok.0 c.pop.ensures.rest;
  done = done-items g.T.Theory.denotes _ _ _ _ _ c.args.chosen.now.items c.loop-term.chosen.items c.push.new.self.items _ c.args.terms.now c.loop-term.term-index c.args.places.now c.args.left c.loop-term.invariant.chosen c.in_ok-push.ensures.items c.loop-term-test.true c.term-item.is c.in_ok-choose_rest.ensures.grows c.loop-term.invariant.done c.in_ok-choose_rest.ensures.done;
}

pub choose_first-returns-clause-done : goal.choose_first-returns-clause-done
choose_first-returns-clause-done g t c = done-all g.T.Theory.denotes _ _ _ _ (chosen_of g.T.Theory.denotes c.args.chosen.now.items) c.args.terms.now c.loop-term.term-index c.args.places.now c.args.left c.loop-term-test.false c.loop-term.invariant.done

pub choose_rest-returns-in_default-clause-steady : goal.choose_rest-returns-in_default-clause-steady
choose_rest-returns-in_default-clause-steady g t c = elim c.if-left-eq0.branch [
  | choose_rest-then-left-eq0+in_ok-offer w ↦ rw w.filling-is w.in_ok-offer.ensures.steady
  | choose_rest-else-left-eq0 w ↦ rw w.filling-is c.requires.steady
]

pub choose_rest-returns-in_default-clause-done : goal.choose_rest-returns-in_default-clause-done
choose_rest-returns-in_default-clause-done g t c = elim c.if-left-eq0.branch [
  | choose_rest-then-left-eq0+in_ok-offer w ↦
      rw w.filling-is (chosen-done _ _ _ c.args.task.now.size _ (chosen_of g.T.Theory.denotes c.args.chosen.now.items) (chosen_of g.T.Theory.denotes w.as_slice.result.now) c.args.places.now c.args.left c.in_default.ensures.cases w.if-left-eq0.true (c.requires.task.sized ∙ sym (length-map c.args.task.now.levels.now _)) (ap (chosen_of g.T.Theory.denotes) w.as_slice.ensures.value) w.in_ok-offer.ensures.done)
  | choose_rest-else-left-eq0 w ↦ rw w.filling-is (left-over _ _ _ _ _ c.args.places.now c.args.left c.in_default.ensures.cases w.if-left-eq0.false)
]

pub choose_rest-returns-then-left-others-clause-done : goal.choose_rest-returns-then-left-others-clause-done
choose_rest-returns-then-left-others-clause-done g t c = left-short _ _ _ _ _ _ c.args.places.now c.args.left c.requires.steady (omega (arith, c.in-Some.ensures.cases.1))

pub choose_rest-choose_first-requires : goal.choose_rest-choose_first-requires
choose_rest-choose_first-requires g t c κs within = (
  omega (arith, c.decreases, c.in-Some.ensures.cases.1),
  (
    within.0,
    (
      within.1,
      (
        c.requires.task,
        (
          c.requires.rule,
          (
            c.loop-size.invariant.steady,
            begun-terms g.T.Theory.denotes _ _ _ c.args.chosen.now.items c.loop-size.chosen.items c.in-Some-kept_terms.terms.now c.args.places.now c.in-Some.others.now c.in-Some.first.now c.args.left c.loop-size.size c.loop-size.invariant.chosen c.in-Some.ensures.cases.0 c.in-Some-kept_terms.ensures (omega arith) c.loop-size.invariant.steady c.requires.begun,
          ),
        ),
      ),
    ),
  ),
)

pub choose_rest-loop-size-preserved : goal.choose_rest-loop-size-preserved
choose_rest-loop-size-preserved g t c = elim c.match-kept_terms.branch [
  | choose_rest-in-Some-kept_terms+in_ok-choose_first w ↦ record {
    steady = rw w.filling-is w.in_ok-choose_first.ensures.steady;
    grows = rw w.filling-is (grows-on _ _ _ _ c.loop-size.invariant.grows w.in_ok-choose_first.ensures.grows);
    chosen = rw w.chosen-is (w.in_ok-choose_first.ensures.chosen ∙ c.loop-size.invariant.chosen);
    done = rw w.filling-is (done-terms g.T.Theory.denotes _ _ _ _ _ c.args.chosen.now.items c.loop-size.chosen.items w.in-Some-kept_terms.terms.now c.in-Some.first.now c.in-Some.others.now c.args.left c.if-is_empty.least c.loop-size.size c.loop-size.invariant.chosen w.in-Some-kept_terms.ensures w.in_ok-choose_first.ensures.grows c.loop-size.invariant.done w.in_ok-choose_first.ensures.done);
  }
  | choose_rest-in_default-kept_terms w ↦ record {
    steady = rw w.filling-is c.loop-size.invariant.steady;
    grows = rw w.filling-is c.loop-size.invariant.grows;
    chosen = rw w.chosen-is c.loop-size.invariant.chosen;
    done = rw w.filling-is (below-none _ _ _ _ _ c.in-Some.first.now c.in-Some.others.now c.args.left c.if-is_empty.least c.loop-size.size c.loop-size.invariant.done w.in_default-kept_terms.ensures);
  }
]

pub choose_rest-returns-clause-done : goal.choose_rest-returns-clause-done
choose_rest-returns-clause-done g t c =
    let some : length c.in-Some.others.now < c.args.left = omega (arith, c.if-left-others.false) in
    let from : (c.if-is_empty.least ≤ 1) ⊎ ((length c.in-Some.others.now ≡ 0) × (c.if-is_empty.least ≡ c.args.left)) = elim c.if-is_empty.branch [
      | choose_rest-then-is_empty w ↦ let none : length c.in-Some.others.now ≡ 0 = grind (arith, nat_tests, c.is_empty.ensures, w.if-is_empty.true) in inr (none, omega (arith, none, some, w.least-is))
      | choose_rest-else-is_empty w ↦ inl (omega (arith, w.least-is))
    ] in
    let whole : length c.in-Some.others.now + c.loop-size.size ≡ c.args.left + 1 = elim from [ inl h ↦ omega (arith, h, some, c.loop-size-test.false, c.loop-size.auto.size-end) | inr h ↦ omega (arith, h.0, h.1, some, c.loop-size-test.false, c.loop-size.auto.size-end) ] in
    below-whole _ _ _ _ _ _ c.args.places.now c.in-Some.first.now c.in-Some.others.now c.args.left c.if-is_empty.least c.loop-size.size c.requires.steady c.in-Some.ensures.cases.0 whole from c.loop-size.invariant.done

use Rattle.std.proofs.Common.{arith, refl, ◌≡◌, [], ◌+◌, IfOk, ap, ◌∙◌, Result, Ok, Err, ◌++◌, OnOk, OnErr}
use Rattle.std.specs.Result.{IsErrAnd}
use Rattle.std.proofs.lemmas.Grind.{common_steps}
use Rattle.std.proofs.lemmas.List.{take_all}
use Rattle.std.proofs.lemmas.Result.{IfOk-from_err}
use Rattle.sy_terms.specs.Expr.{nodes}
use Rattle.sy_terms.specs.Denoted.{expr_of}
use Rattle.sy_terms_operators.proofs.Steps as step
use Rattle.sy_terms_operators.proofs.Reached as reached
use Rattle.sy_terms_operators.proofs.Asks as asks
use Rattle.sy_meaning.proofs.Rightly as rightly
use Rattle.sy_terms_operators.proofs.Reached.{weight_of}
use Rattle.sy_terms_operators.proofs.Lists.{weight, HaveValues-none}
use Rattle.sy_meaning.proofs.evaluation.+evaluate.Goals as goal

-- an error that `?` hands on is the same
kept-error : {T E : Type 0} (r : Result T E) (e f : E) → IsErrAnd r (λ end. end ≡ e) → r ≡ Err f → e ≡ f
kept-error (Ok x) e f told h = absurd told
kept-error (Err y) e f told h = cc

-- where an error is handed on, nothing is owed of an answer
no_answer : {T E : Type 0} (P : Type 0) (r : Result T E) (e : E) → IsErrAnd r (λ end. end ≡ e) → OnOk r P
no_answer P (Ok x) e told = absurd told
no_answer P (Err y) e told = tt

-- nor of another error
other_error : {T E P : Type 0} (r : Result T E) (e f : E) → IsErrAnd r (λ end. end ≡ e) → (e ≡ f → ⊥) → r ≡ Err f → P
other_error r e f told apart h = absurd (apart (kept-error r e f told h))

ok_then : {T E : Type 0} {P Q : T → Type 0} (r : Result T E) → IfOk r P → ((x : T) → P x → Q x) → IfOk r Q
ok_then (Ok x) h f = f x h
ok_then (Err e) h f = tt

on_ok : {T E : Type 0} {P Q : Type 0} (r : Result T E) → OnOk r P → (P → Q) → OnOk r Q
on_ok (Ok x) h f = f h
on_ok (Err e) h f = tt

any_err : {T E P : Type 0} (r : Result T E) → P → OnErr r P
any_err (Ok x) h = tt
any_err (Err e) h = h

on_err : {T E : Type 0} {P Q : Type 0} (r : Result T E) → OnErr r P → (P → Q) → OnErr r Q
on_err (Ok x) h f = tt
on_err (Err e) h f = f h

pub evaluate_under-returns-in-Const-clause-ok : goal.evaluate_under-returns-in-Const-clause-ok
evaluate_under-returns-in-Const-clause-ok g t c =
    λ wanted bodies fit. step.const-ok _ _ _ g.T.Theory.denotes _ _ _ c.in-Const.is fit

pub evaluate_under-offset_bounds-values-position : goal.evaluate_under-offset_bounds-values-position
evaluate_under-offset_bounds-values-position g t c = omega (arith, step.var-within _ [] [] g.T.Theory.denotes c.args.values.now _ _ c.in-Var.is c.requires.term.fits)

pub evaluate_under-bounds-values-position : goal.evaluate_under-bounds-values-position
evaluate_under-bounds-values-position g t c = step.var-within _ [] [] g.T.Theory.denotes c.args.values.now _ _ c.in-Var.is c.requires.term.fits

pub evaluate_under-returns-in-Var-clause-ok : goal.evaluate_under-returns-in-Var-clause-ok
evaluate_under-returns-in-Var-clause-ok g t c =
    λ wanted bodies fit. step.var-ok _ _ _ g.T.Theory.denotes c.args.values.now _ _ _ c.in-Var.is fit c.requires.values c.index-values-position.is

pub evaluate_under-evaluate_all-requires : goal.evaluate_under-evaluate_all-requires
evaluate_under-evaluate_all-requires g t c κs within =
    let falls = step.app-falls g.T.Theory.denotes c.args.term.now c.in-App.operator c.in-App.arguments (weight g.T.Theory.denotes c.args.defs.now + weight_of g.T.Theory.denotes c.args.bodies.now) c.in-App.is in
    (omega (arith, falls, c.decreases), (within.0, (within.1, (c.requires.definitions, (c.requires.values, record { wanted = c.requires.term.wanted; bodies = c.requires.term.bodies; fit = step.app-arguments _ [] [] g.T.Theory.denotes _ _ _ _ c.in-App.is c.requires.term.fits })))))

pub evaluate_under-returns-in_err-found-in-App-clause-range : goal.evaluate_under-returns-in_err-found-in-App-clause-range
evaluate_under-returns-in_err-found-in-App-clause-range g t c h =
    step.app-unfit-arguments _ _ g.T.Theory.denotes _ _ _ _ c.in-App.is (c.in_err-found-in-App.ensures.range (ap Err (kept-error c.from_residual.result _ _ c.from_residual.ensures.1 h)))

pub evaluate_under-apply-requires-clause-owned : goal.evaluate_under-apply-requires-clause-owned
evaluate_under-apply-requires-clause-owned g t c = step.app-owned _ [] [] g.T.Theory.denotes _ _ _ _ c.in-App.is c.requires.term.fits

pub evaluate_under-apply-requires-clause-sorted : goal.evaluate_under-apply-requires-clause-sorted
evaluate_under-apply-requires-clause-sorted g t c =
    let have = c.in_ok-found-in-App.ensures.ok c.requires.term.wanted c.requires.term.bodies (step.app-arguments _ [] [] g.T.Theory.denotes _ _ _ _ c.in-App.is c.requires.term.fits) in
    rw (c.as_slice.ensures.value) (step.app-sorted _ _ _ g.T.Theory.denotes _ _ _ _ _ c.in-App.is c.requires.term.fits have)

pub evaluate_under-returns-in-Is-clause-ok : goal.evaluate_under-returns-in-Is-clause-ok
evaluate_under-returns-in-Is-clause-ok g t c =
    λ wanted bodies fit.
    let applied = rw (c.as_slice.ensures.value) at c.in-Is.ensures in
    let have = c.in_ok-found-in-App.ensures.ok wanted bodies (step.app-arguments _ [] [] g.T.Theory.denotes _ _ _ _ c.in-App.is fit) in
    step.app-ok _ _ _ g.T.Theory.denotes _ _ _ _ _ _ c.in-App.is fit have applied

pub evaluate_under-returns-in-App-clause-range : goal.evaluate_under-returns-in-App-clause-range
evaluate_under-returns-in-App-clause-range g t c h =
    let applied = rw (c.as_slice.ensures.value) at c.in-OutOfRange.ensures in
    let have = c.in_ok-found-in-App.ensures.ok c.requires.term.wanted c.requires.term.bodies (step.app-arguments _ [] [] g.T.Theory.denotes _ _ _ _ c.in-App.is c.requires.term.fits) in
    step.app-unfit _ _ _ g.T.Theory.denotes _ _ _ _ _ c.in-App.is have applied

pub evaluate_under-evaluate_all-requires-in-Call : goal.evaluate_under-evaluate_all-requires-in-Call
evaluate_under-evaluate_all-requires-in-Call g t c κs within =
    let falls = step.call-falls g.T.Theory.denotes c.args.term.now c.in-Call.function c.in-Call.arguments (weight g.T.Theory.denotes c.args.defs.now + weight_of g.T.Theory.denotes c.args.bodies.now) c.in-Call.is in
    (omega (arith, falls, c.decreases), (within.0, (within.1, (c.requires.definitions, (c.requires.values, record { wanted = c.requires.term.wanted; bodies = c.requires.term.bodies; fit = step.call-arguments _ [] [] g.T.Theory.denotes _ _ _ _ c.in-Call.is c.requires.term.fits })))))

pub evaluate_under-returns-in_err-found-in-Call-clause-range : goal.evaluate_under-returns-in_err-found-in-Call-clause-range
evaluate_under-returns-in_err-found-in-Call-clause-range g t c h =
    step.call-unfit-arguments _ _ g.T.Theory.denotes _ _ _ _ c.in-Call.is (c.in_err-found-in-Call.ensures.range (ap Err (kept-error c.from_residual-in_err-found-in-Call.result _ _ c.from_residual-in_err-found-in-Call.ensures.1 h)))

pub evaluate_under-offset_bounds-defs-number : goal.evaluate_under-offset_bounds-defs-number
evaluate_under-offset_bounds-defs-number g t c =
    let have = c.in_ok-found-in-Call.ensures.ok c.requires.term.wanted c.requires.term.bodies (step.call-arguments _ [] [] g.T.Theory.denotes _ _ _ _ c.in-Call.is c.requires.term.fits) in
    let takes = step.call-takes _ _ _ g.T.Theory.denotes _ _ _ _ _ _ c.in-Call.is c.in-Defined.is c.requires.term.fits have in
    let called = reached.calls g.T.Theory.owned g.T.Theory.denotes c.args.defs.now _ _ _ _ c.requires.definitions takes in
    omega (arith, reached.calls-within g.T.Theory.denotes called)

pub evaluate_under-bounds-defs-number : goal.evaluate_under-bounds-defs-number
evaluate_under-bounds-defs-number g t c =
    let have = c.in_ok-found-in-Call.ensures.ok c.requires.term.wanted c.requires.term.bodies (step.call-arguments _ [] [] g.T.Theory.denotes _ _ _ _ c.in-Call.is c.requires.term.fits) in
    let takes = step.call-takes _ _ _ g.T.Theory.denotes _ _ _ _ _ _ c.in-Call.is c.in-Defined.is c.requires.term.fits have in
    let called = reached.calls g.T.Theory.owned g.T.Theory.denotes c.args.defs.now _ _ _ _ c.requires.definitions takes in
    reached.calls-within g.T.Theory.denotes called

pub evaluate_under-slice_bounds-evaluate_under-end : goal.evaluate_under-slice_bounds-evaluate_under-end
evaluate_under-slice_bounds-evaluate_under-end g t c =
    let have = c.in_ok-found-in-Call.ensures.ok c.requires.term.wanted c.requires.term.bodies (step.call-arguments _ [] [] g.T.Theory.denotes _ _ _ _ c.in-Call.is c.requires.term.fits) in
    let takes = step.call-takes _ _ _ g.T.Theory.denotes _ _ _ _ _ _ c.in-Call.is c.in-Defined.is c.requires.term.fits have in
    let called = reached.calls g.T.Theory.owned g.T.Theory.denotes c.args.defs.now _ _ _ _ c.requires.definitions takes in
    let here = reached.calls-within g.T.Theory.denotes called in
    grind (arith, common_steps)

pub evaluate_under-evaluate_under-requires : goal.evaluate_under-evaluate_under-requires
evaluate_under-evaluate_under-requires g t c κs within =
    let have = c.in_ok-found-in-Call.ensures.ok c.requires.term.wanted c.requires.term.bodies (step.call-arguments _ [] [] g.T.Theory.denotes _ _ _ _ c.in-Call.is c.requires.term.fits) in
    let takes = step.call-takes _ _ _ g.T.Theory.denotes _ _ _ _ _ _ c.in-Call.is c.in-Defined.is c.requires.term.fits have in
    let called = reached.calls g.T.Theory.owned g.T.Theory.denotes c.args.defs.now _ _ _ _ c.requires.definitions takes in
    let falls = reached.defined-falls called c.index-defs-number.result (nodes (expr_of g.T.Theory.denotes c.args.term.now)) (weight_of g.T.Theory.denotes c.args.bodies.now) in
    (omega (arith, falls, c.decreases), (within.0, (within.1, (called.before, (rw (c.as_slice-in-Defined.ensures.value) have.valid, rw (c.as_slice-in-Defined.ensures.value) (record { wanted = []; bodies = tt; fits = reached.calls-fits called c.index-defs-number.result }))))))

pub evaluate_under-returns-in-Defined-clause-ok : goal.evaluate_under-returns-in-Defined-clause-ok
evaluate_under-returns-in-Defined-clause-ok g t c =
    ok_then c.evaluate_under.result c.evaluate_under.ensures.ok (λ v gives wanted bodies fit.
    let have = c.in_ok-found-in-Call.ensures.ok wanted bodies (step.call-arguments _ [] [] g.T.Theory.denotes _ _ _ _ c.in-Call.is fit) in
    reached.defined-ok g.T.Theory.owned g.T.Theory.denotes c.args.defs.now c.args.bodies.now _ _ _ _ _ _ c.index-defs-number.result _ wanted c.in-Call.is c.in-Defined.is c.requires.definitions fit have (rw (c.as_slice-in-Defined.ensures.value) at gives))

pub evaluate_under-returns-in-Defined-clause-range : goal.evaluate_under-returns-in-Defined-clause-range
evaluate_under-returns-in-Defined-clause-range g t c h =
    let unfit = c.evaluate_under.ensures.range h in
    let have = c.in_ok-found-in-Call.ensures.ok c.requires.term.wanted c.requires.term.bodies (step.call-arguments _ [] [] g.T.Theory.denotes _ _ _ _ c.in-Call.is c.requires.term.fits) in
    reached.defined-unfit g.T.Theory.owned g.T.Theory.denotes c.args.defs.now c.args.bodies.now _ _ _ _ _ _ c.index-defs-number.result c.requires.term.wanted c.in-Call.is c.in-Defined.is c.requires.definitions c.requires.term.fits have (rw (c.as_slice-in-Defined.ensures.value) at unfit)

pub evaluate_under-offset_bounds-bodies-number : goal.evaluate_under-offset_bounds-bodies-number
evaluate_under-offset_bounds-bodies-number g t c =
    let have = c.in_ok-found-in-Call.ensures.ok c.requires.term.wanted c.requires.term.bodies (step.call-arguments _ [] [] g.T.Theory.denotes _ _ _ _ c.in-Call.is c.requires.term.fits) in
    let takes = step.call-takes _ _ _ g.T.Theory.denotes _ _ _ _ _ _ c.in-Call.is c.in-Wanted.is c.requires.term.fits have in
    let called = reached.calls-body g.T.Theory.owned g.T.Theory.denotes c.args.defs.now c.args.bodies.now _ _ _ _ c.requires.term.bodies takes in
    omega (arith, reached.body-within g.T.Theory.denotes called)

pub evaluate_under-bounds-bodies-number : goal.evaluate_under-bounds-bodies-number
evaluate_under-bounds-bodies-number g t c =
    let have = c.in_ok-found-in-Call.ensures.ok c.requires.term.wanted c.requires.term.bodies (step.call-arguments _ [] [] g.T.Theory.denotes _ _ _ _ c.in-Call.is c.requires.term.fits) in
    let takes = step.call-takes _ _ _ g.T.Theory.denotes _ _ _ _ _ _ c.in-Call.is c.in-Wanted.is c.requires.term.fits have in
    let called = reached.calls-body g.T.Theory.owned g.T.Theory.denotes c.args.defs.now c.args.bodies.now _ _ _ _ c.requires.term.bodies takes in
    reached.body-within g.T.Theory.denotes called

pub evaluate_under-evaluate_under-requires-in-Wanted : goal.evaluate_under-evaluate_under-requires-in-Wanted
evaluate_under-evaluate_under-requires-in-Wanted g t c κs within =
    let have = c.in_ok-found-in-Call.ensures.ok c.requires.term.wanted c.requires.term.bodies (step.call-arguments _ [] [] g.T.Theory.denotes _ _ _ _ c.in-Call.is c.requires.term.fits) in
    let takes = step.call-takes _ _ _ g.T.Theory.denotes _ _ _ _ _ _ c.in-Call.is c.in-Wanted.is c.requires.term.fits have in
    let called = reached.calls-body g.T.Theory.owned g.T.Theory.denotes c.args.defs.now c.args.bodies.now _ _ _ _ c.requires.term.bodies takes in
    let falls = reached.body-falls called c.index-bodies-number.result (nodes (expr_of g.T.Theory.denotes c.args.term.now)) (weight g.T.Theory.denotes c.args.defs.now) c.index-bodies-number.is in
    (omega (arith, falls, c.decreases), (within.0, (within.1, (c.requires.definitions, (rw (c.as_slice-in-Wanted-2.ensures.value) have.valid, rw (c.as_slice-in-Wanted-2.ensures.value) (record { wanted = []; bodies = tt; fits = reached.body-fits called c.index-bodies-number.result c.index-bodies-number.is }))))))

pub evaluate_under-returns-in-Call-clause-ok : goal.evaluate_under-returns-in-Call-clause-ok
evaluate_under-returns-in-Call-clause-ok g t c =
    ok_then c.evaluate_under-in-Wanted.result c.evaluate_under-in-Wanted.ensures.ok (λ v gives wanted bodies fit.
    let have = c.in_ok-found-in-Call.ensures.ok wanted bodies (step.call-arguments _ [] [] g.T.Theory.denotes _ _ _ _ c.in-Call.is fit) in
    reached.wanted-ok g.T.Theory.owned g.T.Theory.denotes c.args.defs.now c.args.bodies.now _ _ _ _ _ _ c.index-bodies-number.result _ wanted c.in-Call.is c.in-Wanted.is c.index-bodies-number.is bodies fit have (rw (c.as_slice-in-Wanted-2.ensures.value) at gives))

pub evaluate_under-returns-in-Call-clause-range : goal.evaluate_under-returns-in-Call-clause-range
evaluate_under-returns-in-Call-clause-range g t c h =
    let unfit = c.evaluate_under-in-Wanted.ensures.range h in
    let have = c.in_ok-found-in-Call.ensures.ok c.requires.term.wanted c.requires.term.bodies (step.call-arguments _ [] [] g.T.Theory.denotes _ _ _ _ c.in-Call.is c.requires.term.fits) in
    reached.wanted-unfit g.T.Theory.owned g.T.Theory.denotes c.args.defs.now c.args.bodies.now _ _ _ _ _ _ c.index-bodies-number.result c.requires.term.wanted c.in-Call.is c.in-Wanted.is c.index-bodies-number.is c.requires.term.bodies c.requires.term.fits have (rw (c.as_slice-in-Wanted-2.ensures.value) at unfit)

pub evaluate_under-evaluate_all-requires-in-Let : goal.evaluate_under-evaluate_all-requires-in-Let
evaluate_under-evaluate_all-requires-in-Let g t c κs within =
    let falls = step.let-falls g.T.Theory.denotes c.args.term.now c.in-Let.bound c.in-Let.inner (weight g.T.Theory.denotes c.args.defs.now + weight_of g.T.Theory.denotes c.args.bodies.now) c.in-Let.is in
    let first = falls.0 in
    (omega (arith, first, c.decreases), (within.0, (within.1, (c.requires.definitions, (c.requires.values, record { wanted = c.requires.term.wanted; bodies = c.requires.term.bodies; fit = step.let-bound _ [] [] g.T.Theory.denotes _ _ _ _ c.in-Let.is c.requires.term.fits })))))

pub evaluate_under-returns-in_err-found-in-Let-clause-range : goal.evaluate_under-returns-in_err-found-in-Let-clause-range
evaluate_under-returns-in_err-found-in-Let-clause-range g t c h =
    step.let-unfit-bound _ _ g.T.Theory.denotes _ _ _ _ c.in-Let.is (c.in_err-found-in-Let.ensures.range (ap Err (kept-error c.from_residual-in_err-found-in-Let.result _ _ c.from_residual-in_err-found-in-Let.ensures.1 h)))

pub evaluate_under-evaluate_under-requires-in-Let : goal.evaluate_under-evaluate_under-requires-in-Let
evaluate_under-evaluate_under-requires-in-Let g t c κs within =
    let falls = step.let-falls g.T.Theory.denotes c.args.term.now c.in-Let.bound c.in-Let.inner (weight g.T.Theory.denotes c.args.defs.now + weight_of g.T.Theory.denotes c.args.bodies.now) c.in-Let.is in
    let second = falls.1 in
    let longer = c.as_slice-in-Let-2.ensures.value ∙ c.in_ok-longer-in-Let.ensures ∙ ap (λ rest. c.args.values.now ++ rest) c.as_slice-in-Let.ensures.value in
    let have = c.in_ok-found-in-Let.ensures.ok c.requires.term.wanted c.requires.term.bodies (step.let-bound _ [] [] g.T.Theory.denotes _ _ _ _ c.in-Let.is c.requires.term.fits) in
    (omega (arith, rw (← c.deref.ensures) at second, c.decreases), (within.0, (within.1, (c.requires.definitions, (rw longer (step.let-valid g.T.Theory.denotes _ _ c.requires.values have.valid), rw (longer, c.deref.ensures) (record { wanted = c.requires.term.wanted; bodies = c.requires.term.bodies; fits = step.let-inner _ _ _ g.T.Theory.denotes _ _ _ _ _ c.in-Let.is c.requires.term.fits have }))))))

pub evaluate_under-returns-clause-ok : goal.evaluate_under-returns-clause-ok
evaluate_under-returns-clause-ok g t c =
    let longer = c.as_slice-in-Let-2.ensures.value ∙ c.in_ok-longer-in-Let.ensures ∙ ap (λ rest. c.args.values.now ++ rest) c.as_slice-in-Let.ensures.value in
    ok_then c.evaluate_under-in-Let.result c.evaluate_under-in-Let.ensures.ok (λ v gives wanted bodies fit.
    let have = c.in_ok-found-in-Let.ensures.ok wanted bodies (step.let-bound _ [] [] g.T.Theory.denotes _ _ _ _ c.in-Let.is fit) in
    let gives' = rw (longer, c.deref.ensures) at gives in
    step.let-ok _ _ _ g.T.Theory.denotes c.args.values.now _ _ _ _ _ c.in-Let.is have (gives' wanted bodies (step.let-inner _ _ _ g.T.Theory.denotes _ _ _ _ _ c.in-Let.is fit have)))

pub evaluate_under-returns-clause-range : goal.evaluate_under-returns-clause-range
evaluate_under-returns-clause-range g t c h =
    let longer = c.as_slice-in-Let-2.ensures.value ∙ c.in_ok-longer-in-Let.ensures ∙ ap (λ rest. c.args.values.now ++ rest) c.as_slice-in-Let.ensures.value in
    let unfit = c.evaluate_under-in-Let.ensures.range h in
    let have = c.in_ok-found-in-Let.ensures.ok c.requires.term.wanted c.requires.term.bodies (step.let-bound _ [] [] g.T.Theory.denotes _ _ _ _ c.in-Let.is c.requires.term.fits) in
    step.let-unfit _ _ _ g.T.Theory.denotes c.args.values.now _ _ _ _ c.in-Let.is have (rw (longer, c.deref.ensures) at unfit)

pub evaluate_all-loop-term-init : goal.evaluate_all-loop-term-init
evaluate_all-loop-term-init g t c =
    ((λ wanted bodies fit. rw (c.in_ok-found.ensures.items) (HaveValues-none g.row.T.Denot g.T.Theory.denotes _ _ _ _)), asks.gains_no_term _ _ _ _, (λ wanted bodies fit. rightly.no_term _ _ _ _))

pub evaluate_all-evaluate_under-requires : goal.evaluate_all-evaluate_under-requires
evaluate_all-evaluate_under-requires g t c κs within =
    let falls = step.all-falls g.T.Theory.denotes c.as_slice-term-items.result.now c.loop-term.term-index c.term-item.result (weight g.T.Theory.denotes c.args.defs.now + weight_of g.T.Theory.denotes c.args.bodies.now) (omega arith) c.term-item.is in
    let same = c.as_slice-term-items.ensures in
    (omega (arith, rw same at falls, c.decreases), (within.0, (within.1, (c.requires.definitions, (c.requires.values, record { wanted = c.requires.terms.wanted; bodies = c.requires.terms.bodies; fits = step.all-at _ [] [] g.T.Theory.denotes _ c.as_slice-term-items.result.now c.loop-term.term-index c.term-item.result (omega arith) c.term-item.is (rw same c.requires.terms.fit) })))))

pub evaluate_all-returns-in_err-value-clause-range : goal.evaluate_all-returns-in_err-value-clause-range
evaluate_all-returns-in_err-value-clause-range g t c h =
    let unfit = c.in_err-value.ensures.range (ap Err (kept-error c.from_residual-in_err-value.result _ _ c.from_residual-in_err-value.ensures.1 h)) in
    let spoilt = step.all-unfit _ _ g.T.Theory.denotes _ c.as_slice-term-items.result.now c.loop-term.term-index c.term-item.result (omega arith) c.term-item.is unfit in
    rw (c.as_slice-term-items.ensures) at spoilt

pub evaluate_all-loop-term-preserved : goal.evaluate_all-loop-term-preserved
evaluate_all-loop-term-preserved g t c = (
  (λ wanted bodies fit.
      let has = c.in_ok-value.ensures.ok wanted bodies (step.all-at _ [] [] g.T.Theory.denotes _ c.as_slice-term-items.result.now c.loop-term.term-index c.term-item.result (omega arith) c.term-item.is fit) in
      rw (c.in_ok-push.ensures.items) (step.all-more _ _ _ g.T.Theory.denotes _ c.as_slice-term-items.result.now c.loop-term.term-index c.term-item.result c.loop-term.found.items c.in_ok-value.value (omega arith) c.term-item.is (c.loop-term.invariant.0 wanted bodies fit) has)),
  asks.gains_next _ _ _ g.T.Theory.denotes c.as_slice-term-items.result.now c.loop-term.term-index c.term-item.result _ _ _ (omega arith) c.term-item.is c.loop-term.invariant.1 c.in_ok-value.ensures.traced,
  (λ wanted bodies fit.
      let one = c.in_ok-value.ensures.calls wanted bodies (step.all-at _ [] [] g.T.Theory.denotes _ c.as_slice-term-items.result.now c.loop-term.term-index c.term-item.result (omega arith) c.term-item.is fit) in
      rightly.next wanted _ _ _ g.T.Theory.denotes c.as_slice-term-items.result.now c.loop-term.term-index c.term-item.result (omega arith) c.term-item.is (c.loop-term.invariant.2 wanted bodies fit) one),
)

pub evaluate_all-returns-clause-ok : goal.evaluate_all-returns-clause-ok
evaluate_all-returns-clause-ok g t c =
    λ wanted bodies fit.
    let found = c.loop-term.invariant.0 wanted bodies (rw (c.as_slice-term-items.ensures) fit) in
    let all = take_all c.loop-term.term-index c.as_slice-term-items.result.now (omega arith) in
    rw (all, c.as_slice-term-items.ensures) at found

pub evaluate_under-returns-in-Const-clause-traced : goal.evaluate_under-returns-in-Const-clause-traced
evaluate_under-returns-in-Const-clause-traced g t c =
    asks.gains _ _ [] _ (asks.const-asks g.T.Theory.denotes _ _ _ [] c.args.term.now c.in-Const.value c.in-Const.is) (asks.gains_none _)

pub evaluate_under-returns-in-Var-clause-traced : goal.evaluate_under-returns-in-Var-clause-traced
evaluate_under-returns-in-Var-clause-traced g t c =
    asks.gains _ _ [] _ (asks.var-asks g.T.Theory.denotes _ _ _ [] c.args.term.now c.in-Var.position c.in-Var.is) (asks.gains_none _)

pub evaluate_under-returns-in_err-found-in-App-clause-begun : goal.evaluate_under-returns-in_err-found-in-App-clause-begun
evaluate_under-returns-in_err-found-in-App-clause-begun g t c =
    any_err c.from_residual.result (asks.gains_some _ _ _ _ (asks.app-asks g.T.Theory.denotes _ _ _ [] c.args.term.now c.in-App.operator c.in-App.arguments c.in-App.is) c.in_err-found-in-App.ensures.begun)

pub evaluate_under-returns-in-Is-clause-traced : goal.evaluate_under-returns-in-Is-clause-traced
evaluate_under-returns-in-Is-clause-traced g t c =
    asks.gains _ _ _ _ (asks.app-asks g.T.Theory.denotes _ _ _ [] c.args.term.now c.in-App.operator c.in-App.arguments c.in-App.is) c.in_ok-found-in-App.ensures.traced

pub evaluate_under-returns-in-App-clause-begun : goal.evaluate_under-returns-in-App-clause-begun
evaluate_under-returns-in-App-clause-begun g t c =
    asks.gains_some _ _ _ _ (asks.app-asks g.T.Theory.denotes _ _ _ [] c.args.term.now c.in-App.operator c.in-App.arguments c.in-App.is) (asks.begins_all _ _ _ c.in_ok-found-in-App.ensures.traced)

pub evaluate_under-returns-in_err-found-in-Call-clause-begun : goal.evaluate_under-returns-in_err-found-in-Call-clause-begun
evaluate_under-returns-in_err-found-in-Call-clause-begun g t c =
    any_err c.from_residual-in_err-found-in-Call.result (asks.call-begins g.T.Theory.denotes _ _ _ _ _ c.args.term.now c.in-Call.function c.in-Call.arguments c.in-Call.is c.in_err-found-in-Call.ensures.begun)

pub evaluate_under-returns-in-Defined-clause-traced : goal.evaluate_under-returns-in-Defined-clause-traced
evaluate_under-returns-in-Defined-clause-traced g t c =
    let have = c.in_ok-found-in-Call.ensures.ok c.requires.term.wanted c.requires.term.bodies (step.call-arguments _ [] [] g.T.Theory.denotes _ _ _ _ c.in-Call.is c.requires.term.fits) in
    let takes = step.call-takes _ _ _ g.T.Theory.denotes _ _ _ _ _ _ c.in-Call.is c.in-Defined.is c.requires.term.fits have in
    let called = reached.calls g.T.Theory.owned g.T.Theory.denotes c.args.defs.now _ _ _ _ c.requires.definitions takes in
    let nothing = reached.defined-asks g.T.Theory.owned g.T.Theory.denotes c.args.defs.now called c.index-defs-number.result in
    on_ok c.evaluate_under.result c.evaluate_under.ensures.traced (λ after. asks.gains_nothing _ _ _ _ _ (asks.gains _ _ _ _ (asks.defined-asks g.T.Theory.denotes _ _ _ [] c.args.term.now c.in-Call.function c.in-Call.arguments _ c.in-Call.is c.in-Defined.is) c.in_ok-found-in-Call.ensures.traced) (rw (c.as_slice-in-Defined.ensures.value) nothing) after)

pub evaluate_under-returns-in-Defined-clause-begun : goal.evaluate_under-returns-in-Defined-clause-begun
evaluate_under-returns-in-Defined-clause-begun g t c =
    let have = c.in_ok-found-in-Call.ensures.ok c.requires.term.wanted c.requires.term.bodies (step.call-arguments _ [] [] g.T.Theory.denotes _ _ _ _ c.in-Call.is c.requires.term.fits) in
    let takes = step.call-takes _ _ _ g.T.Theory.denotes _ _ _ _ _ _ c.in-Call.is c.in-Defined.is c.requires.term.fits have in
    let called = reached.calls g.T.Theory.owned g.T.Theory.denotes c.args.defs.now _ _ _ _ c.requires.definitions takes in
    let nothing = reached.defined-asks g.T.Theory.owned g.T.Theory.denotes c.args.defs.now called c.index-defs-number.result in
    on_err c.evaluate_under.result c.evaluate_under.ensures.begun (λ after. asks.begins_nothing _ _ _ _ _ (asks.gains _ _ _ _ (asks.defined-asks g.T.Theory.denotes _ _ _ [] c.args.term.now c.in-Call.function c.in-Call.arguments _ c.in-Call.is c.in-Defined.is) c.in_ok-found-in-Call.ensures.traced) (rw (c.as_slice-in-Defined.ensures.value) nothing) after)

pub evaluate_under-returns-in_err-note-in-Wanted-clause-begun : goal.evaluate_under-returns-in_err-note-in-Wanted-clause-begun
evaluate_under-returns-in_err-note-in-Wanted-clause-begun g t c =
    any_err c.from_residual-in_err-note-in-Wanted.result (asks.gains_some _ _ _ _ (asks.wanted-asks g.T.Theory.denotes _ _ _ [] c.args.term.now c.in-Call.function c.in-Call.arguments _ c.in-Call.is c.in-Wanted.is) (asks.begins_first _ _ _ _ (asks.begins_unchanged _ _ _ _ c.in_ok-found-in-Call.ensures.traced c.in_err-note-in-Wanted.ensures.err)))

pub evaluate_under-returns-in-Call-clause-traced : goal.evaluate_under-returns-in-Call-clause-traced
evaluate_under-returns-in-Call-clause-traced g t c =
    let have = c.in_ok-found-in-Call.ensures.ok c.requires.term.wanted c.requires.term.bodies (step.call-arguments _ [] [] g.T.Theory.denotes _ _ _ _ c.in-Call.is c.requires.term.fits) in
    let takes = step.call-takes _ _ _ g.T.Theory.denotes _ _ _ _ _ _ c.in-Call.is c.in-Wanted.is c.requires.term.fits have in
    let called = reached.calls-body g.T.Theory.owned g.T.Theory.denotes c.args.defs.now c.args.bodies.now _ _ _ _ c.requires.term.bodies takes in
    let nothing = reached.body-asks g.T.Theory.owned g.T.Theory.denotes c.args.defs.now called c.index-bodies-number.result c.index-bodies-number.is in
    let noted = asks.gains_call g.T.Theory.denotes _ _ _ c.args.term.now c.in-Call.function c.in-Call.arguments _ c.in-Call.is c.in-Wanted.is _ _ _ _ c.in_ok-found-in-Call.ensures.traced (rw (c.as_slice-in-Wanted.ensures.value) at c.in_ok-note-in-Wanted.ensures.ok) have.meanings in
    on_ok c.evaluate_under-in-Wanted.result c.evaluate_under-in-Wanted.ensures.traced (λ after. asks.gains_nothing _ _ _ _ _ noted (rw (c.as_slice-in-Wanted-2.ensures.value) nothing) after)

pub evaluate_under-returns-in-Call-clause-begun : goal.evaluate_under-returns-in-Call-clause-begun
evaluate_under-returns-in-Call-clause-begun g t c =
    let have = c.in_ok-found-in-Call.ensures.ok c.requires.term.wanted c.requires.term.bodies (step.call-arguments _ [] [] g.T.Theory.denotes _ _ _ _ c.in-Call.is c.requires.term.fits) in
    let takes = step.call-takes _ _ _ g.T.Theory.denotes _ _ _ _ _ _ c.in-Call.is c.in-Wanted.is c.requires.term.fits have in
    let called = reached.calls-body g.T.Theory.owned g.T.Theory.denotes c.args.defs.now c.args.bodies.now _ _ _ _ c.requires.term.bodies takes in
    let nothing = reached.body-asks g.T.Theory.owned g.T.Theory.denotes c.args.defs.now called c.index-bodies-number.result c.index-bodies-number.is in
    let noted = asks.gains_call g.T.Theory.denotes _ _ _ c.args.term.now c.in-Call.function c.in-Call.arguments _ c.in-Call.is c.in-Wanted.is _ _ _ _ c.in_ok-found-in-Call.ensures.traced (rw (c.as_slice-in-Wanted.ensures.value) at c.in_ok-note-in-Wanted.ensures.ok) have.meanings in
    on_err c.evaluate_under-in-Wanted.result c.evaluate_under-in-Wanted.ensures.begun (λ after. asks.begins_nothing _ _ _ _ _ (noted) (rw (c.as_slice-in-Wanted-2.ensures.value) nothing) after)

pub evaluate_under-returns-in_err-found-in-Let-clause-begun : goal.evaluate_under-returns-in_err-found-in-Let-clause-begun
evaluate_under-returns-in_err-found-in-Let-clause-begun g t c =
    any_err c.from_residual-in_err-found-in-Let.result (asks.gains_some _ _ _ _ (asks.let-asks g.T.Theory.denotes _ _ _ [] c.args.term.now c.in-Let.bound c.in-Let.inner c.in-Let.is) (asks.begins_first _ _ _ _ c.in_err-found-in-Let.ensures.begun))

pub evaluate_under-returns-in_err-longer-in-Let-clause-begun : goal.evaluate_under-returns-in_err-longer-in-Let-clause-begun
evaluate_under-returns-in_err-longer-in-Let-clause-begun g t c =
    any_err c.from_residual-in_err-longer-in-Let.result (asks.gains_some _ _ _ _ (asks.let-asks g.T.Theory.denotes _ _ _ [] c.args.term.now c.in-Let.bound c.in-Let.inner c.in-Let.is) (asks.begins_first _ _ _ _ (asks.begins_all _ _ _ c.in_ok-found-in-Let.ensures.traced)))

pub evaluate_under-returns-clause-traced : goal.evaluate_under-returns-clause-traced
evaluate_under-returns-clause-traced g t c =
    let longer = c.as_slice-in-Let-2.ensures.value ∙ c.in_ok-longer-in-Let.ensures ∙ ap (λ rest. c.args.values.now ++ rest) c.as_slice-in-Let.ensures.value in
    let have = c.in_ok-found-in-Let.ensures.ok c.requires.term.wanted c.requires.term.bodies (step.let-bound _ [] [] g.T.Theory.denotes _ _ _ _ c.in-Let.is c.requires.term.fits) in
    on_ok c.evaluate_under-in-Let.result c.evaluate_under-in-Let.ensures.traced (λ after. asks.gains _ _ _ _ (asks.let-asks g.T.Theory.denotes _ _ _ [] c.args.term.now c.in-Let.bound c.in-Let.inner c.in-Let.is) (asks.gains_inner g.T.Theory.denotes _ _ c.args.values.now _ _ _ _ _ _ have.meanings c.in_ok-found-in-Let.ensures.traced (rw (longer, c.deref.ensures) at after)))

pub evaluate_under-returns-clause-begun : goal.evaluate_under-returns-clause-begun
evaluate_under-returns-clause-begun g t c =
    let longer = c.as_slice-in-Let-2.ensures.value ∙ c.in_ok-longer-in-Let.ensures ∙ ap (λ rest. c.args.values.now ++ rest) c.as_slice-in-Let.ensures.value in
    let have = c.in_ok-found-in-Let.ensures.ok c.requires.term.wanted c.requires.term.bodies (step.let-bound _ [] [] g.T.Theory.denotes _ _ _ _ c.in-Let.is c.requires.term.fits) in
    on_err c.evaluate_under-in-Let.result c.evaluate_under-in-Let.ensures.begun (λ after. asks.gains_some _ _ _ _ (asks.let-asks g.T.Theory.denotes _ _ _ [] c.args.term.now c.in-Let.bound c.in-Let.inner c.in-Let.is) (asks.begins_inner g.T.Theory.denotes _ _ c.args.values.now _ _ _ _ _ _ have.meanings c.in_ok-found-in-Let.ensures.traced (rw (longer, c.deref.ensures) at after)))

pub evaluate_all-returns-in_err-found-clause-begun : goal.evaluate_all-returns-in_err-found-clause-begun
evaluate_all-returns-in_err-found-clause-begun g t c =
    any_err c.from_residual.result (asks.begins_none _ _)

pub evaluate_all-returns-in_err-value-clause-begun : goal.evaluate_all-returns-in_err-value-clause-begun
evaluate_all-returns-in_err-value-clause-begun g t c =
    let begun = asks.begins_next _ _ _ g.T.Theory.denotes c.as_slice-term-items.result.now c.loop-term.term-index c.term-item.result _ _ _ (omega arith) c.term-item.is c.loop-term.invariant.1 c.in_err-value.ensures.begun in
    any_err c.from_residual-in_err-value.result (let whole = rw (c.as_slice-term-items.ensures) at begun in whole)

pub evaluate_all-returns-in_err-push-clause-begun : goal.evaluate_all-returns-in_err-push-clause-begun
evaluate_all-returns-in_err-push-clause-begun g t c =
    let next = asks.gains_next _ _ _ g.T.Theory.denotes c.as_slice-term-items.result.now c.loop-term.term-index c.term-item.result _ _ _ (omega arith) c.term-item.is c.loop-term.invariant.1 c.in_ok-value.ensures.traced in
    let begun = asks.begins_part _ _ _ g.T.Theory.denotes c.as_slice-term-items.result.now (c.loop-term.term-index + 1) _ _ next in
    any_err c.from_residual-in_err-push.result (let whole = rw (c.as_slice-term-items.ensures) at begun in whole)

pub evaluate_all-returns-clause-traced : goal.evaluate_all-returns-clause-traced
evaluate_all-returns-clause-traced g t c =
    let gained = c.loop-term.invariant.1 in
    let all = take_all c.loop-term.term-index c.as_slice-term-items.result.now (omega arith) in
    rw (all, c.as_slice-term-items.ensures) at gained

pub evaluate_under-returns-in-Const-clause-calls : goal.evaluate_under-returns-in-Const-clause-calls
evaluate_under-returns-in-Const-clause-calls g t c =
    λ wanted bodies fit. rightly.constant wanted g.T.Theory.denotes _ _ _ c.args.term.now c.in-Const.value c.in-Const.is

pub evaluate_under-returns-in-Var-clause-calls : goal.evaluate_under-returns-in-Var-clause-calls
evaluate_under-returns-in-Var-clause-calls g t c =
    λ wanted bodies fit. rightly.variable wanted g.T.Theory.denotes _ _ _ c.args.term.now c.in-Var.position c.in-Var.is

pub evaluate_under-returns-in-Is-clause-calls : goal.evaluate_under-returns-in-Is-clause-calls
evaluate_under-returns-in-Is-clause-calls g t c =
    λ wanted bodies fit.
    rightly.application wanted g.T.Theory.denotes _ _ _ c.args.term.now c.in-App.operator c.in-App.arguments c.in-App.is
    (c.in_ok-found-in-App.ensures.calls wanted bodies (step.app-arguments _ [] [] g.T.Theory.denotes _ _ _ _ c.in-App.is fit))

pub evaluate_under-returns-in-Defined-clause-calls : goal.evaluate_under-returns-in-Defined-clause-calls
evaluate_under-returns-in-Defined-clause-calls g t c =
    on_ok c.evaluate_under.result c.evaluate_under.ensures.traced (λ after wanted bodies fit.
    rightly.definition wanted g.T.Theory.denotes _ _ _ c.args.term.now c.in-Call.function c.in-Call.arguments _ c.in-Call.is c.in-Defined.is
    (c.in_ok-found-in-Call.ensures.calls wanted bodies (step.call-arguments _ [] [] g.T.Theory.denotes _ _ _ _ c.in-Call.is fit)))

pub evaluate_under-returns-in-Call-clause-calls : goal.evaluate_under-returns-in-Call-clause-calls
evaluate_under-returns-in-Call-clause-calls g t c =
    on_ok c.evaluate_under-in-Wanted.result c.evaluate_under-in-Wanted.ensures.traced (λ after wanted bodies fit.
    let arguments = step.call-arguments _ [] [] g.T.Theory.denotes _ _ _ _ c.in-Call.is fit in
    let have = c.in_ok-found-in-Call.ensures.ok wanted bodies arguments in
    let takes = step.call-takes _ _ _ g.T.Theory.denotes _ _ _ _ _ _ c.in-Call.is c.in-Wanted.is fit have in
    rightly.call wanted g.T.Theory.denotes _ _ _ c.args.term.now _ refl c.in-Call.function c.in-Call.arguments _ _ _ c.in-Call.is c.in-Wanted.is takes have
    (c.in_ok-found-in-Call.ensures.calls wanted bodies arguments))

pub evaluate_under-returns-clause-calls : goal.evaluate_under-returns-clause-calls
evaluate_under-returns-clause-calls g t c =
    let longer = c.as_slice-in-Let-2.ensures.value ∙ c.in_ok-longer-in-Let.ensures ∙ ap (λ rest. c.args.values.now ++ rest) c.as_slice-in-Let.ensures.value in
    on_ok c.evaluate_under-in-Let.result c.evaluate_under-in-Let.ensures.calls (λ rightly_inner wanted bodies fit.
    let within = step.let-bound _ [] [] g.T.Theory.denotes _ _ _ _ c.in-Let.is fit in
    let have = c.in_ok-found-in-Let.ensures.ok wanted bodies within in
    let inner = rw (longer, c.deref.ensures) at rightly_inner in
    rightly.binding wanted g.T.Theory.denotes _ _ c.args.values.now _ c.args.term.now c.in-Let.bound c.in-Let.inner c.in-Let.is have.meanings
    (c.in_ok-found-in-Let.ensures.calls wanted bodies within) (inner wanted bodies (step.let-inner _ _ _ g.T.Theory.denotes _ _ _ _ _ c.in-Let.is fit have)))

pub evaluate_all-returns-clause-calls : goal.evaluate_all-returns-clause-calls
evaluate_all-returns-clause-calls g t c =
    λ wanted bodies fit.
    let found = c.loop-term.invariant.2 wanted bodies (rw (c.as_slice-term-items.ensures) fit) in
    let all = take_all c.loop-term.term-index c.as_slice-term-items.result.now (omega arith) in
    rw (all, c.as_slice-term-items.ensures) at found

pub evaluate_under-returns-in_err-found-in-App-clause-ok : goal.evaluate_under-returns-in_err-found-in-App-clause-ok
evaluate_under-returns-in_err-found-in-App-clause-ok g t c = IfOk-from_err c.from_residual.result _ c.from_residual.ensures.0

pub evaluate_under-returns-in_err-found-in-App-clause-traced : goal.evaluate_under-returns-in_err-found-in-App-clause-traced
evaluate_under-returns-in_err-found-in-App-clause-traced g t c = no_answer _ c.from_residual.result _ c.from_residual.ensures.1

pub evaluate_under-returns-in_err-found-in-App-clause-calls : goal.evaluate_under-returns-in_err-found-in-App-clause-calls
evaluate_under-returns-in_err-found-in-App-clause-calls g t c = no_answer _ c.from_residual.result _ c.from_residual.ensures.1

pub evaluate_under-returns-in_err-found-in-Call-clause-ok : goal.evaluate_under-returns-in_err-found-in-Call-clause-ok
evaluate_under-returns-in_err-found-in-Call-clause-ok g t c = IfOk-from_err c.from_residual-in_err-found-in-Call.result _ c.from_residual-in_err-found-in-Call.ensures.0

pub evaluate_under-returns-in_err-found-in-Call-clause-traced : goal.evaluate_under-returns-in_err-found-in-Call-clause-traced
evaluate_under-returns-in_err-found-in-Call-clause-traced g t c = no_answer _ c.from_residual-in_err-found-in-Call.result _ c.from_residual-in_err-found-in-Call.ensures.1

pub evaluate_under-returns-in_err-found-in-Call-clause-calls : goal.evaluate_under-returns-in_err-found-in-Call-clause-calls
evaluate_under-returns-in_err-found-in-Call-clause-calls g t c = no_answer _ c.from_residual-in_err-found-in-Call.result _ c.from_residual-in_err-found-in-Call.ensures.1

pub evaluate_under-returns-in_err-note-in-Wanted-clause-ok : goal.evaluate_under-returns-in_err-note-in-Wanted-clause-ok
evaluate_under-returns-in_err-note-in-Wanted-clause-ok g t c = IfOk-from_err c.from_residual-in_err-note-in-Wanted.result _ c.from_residual-in_err-note-in-Wanted.ensures.0

pub evaluate_under-returns-in_err-note-in-Wanted-clause-range : goal.evaluate_under-returns-in_err-note-in-Wanted-clause-range
evaluate_under-returns-in_err-note-in-Wanted-clause-range g t c h = other_error c.from_residual-in_err-note-in-Wanted.result _ _ c.from_residual-in_err-note-in-Wanted.ensures.1 (λ same. cc) h

pub evaluate_under-returns-in_err-note-in-Wanted-clause-traced : goal.evaluate_under-returns-in_err-note-in-Wanted-clause-traced
evaluate_under-returns-in_err-note-in-Wanted-clause-traced g t c = no_answer _ c.from_residual-in_err-note-in-Wanted.result _ c.from_residual-in_err-note-in-Wanted.ensures.1

pub evaluate_under-returns-in_err-note-in-Wanted-clause-calls : goal.evaluate_under-returns-in_err-note-in-Wanted-clause-calls
evaluate_under-returns-in_err-note-in-Wanted-clause-calls g t c = no_answer _ c.from_residual-in_err-note-in-Wanted.result _ c.from_residual-in_err-note-in-Wanted.ensures.1

pub evaluate_under-returns-in_err-found-in-Let-clause-ok : goal.evaluate_under-returns-in_err-found-in-Let-clause-ok
evaluate_under-returns-in_err-found-in-Let-clause-ok g t c = IfOk-from_err c.from_residual-in_err-found-in-Let.result _ c.from_residual-in_err-found-in-Let.ensures.0

pub evaluate_under-returns-in_err-found-in-Let-clause-traced : goal.evaluate_under-returns-in_err-found-in-Let-clause-traced
evaluate_under-returns-in_err-found-in-Let-clause-traced g t c = no_answer _ c.from_residual-in_err-found-in-Let.result _ c.from_residual-in_err-found-in-Let.ensures.1

pub evaluate_under-returns-in_err-found-in-Let-clause-calls : goal.evaluate_under-returns-in_err-found-in-Let-clause-calls
evaluate_under-returns-in_err-found-in-Let-clause-calls g t c = no_answer _ c.from_residual-in_err-found-in-Let.result _ c.from_residual-in_err-found-in-Let.ensures.1

pub evaluate_under-returns-in_err-longer-in-Let-clause-ok : goal.evaluate_under-returns-in_err-longer-in-Let-clause-ok
evaluate_under-returns-in_err-longer-in-Let-clause-ok g t c = IfOk-from_err c.from_residual-in_err-longer-in-Let.result _ c.from_residual-in_err-longer-in-Let.ensures.0

pub evaluate_under-returns-in_err-longer-in-Let-clause-range : goal.evaluate_under-returns-in_err-longer-in-Let-clause-range
evaluate_under-returns-in_err-longer-in-Let-clause-range g t c h = other_error c.from_residual-in_err-longer-in-Let.result _ _ c.from_residual-in_err-longer-in-Let.ensures.1 (λ same. cc) h

pub evaluate_under-returns-in_err-longer-in-Let-clause-traced : goal.evaluate_under-returns-in_err-longer-in-Let-clause-traced
evaluate_under-returns-in_err-longer-in-Let-clause-traced g t c = no_answer _ c.from_residual-in_err-longer-in-Let.result _ c.from_residual-in_err-longer-in-Let.ensures.1

pub evaluate_under-returns-in_err-longer-in-Let-clause-calls : goal.evaluate_under-returns-in_err-longer-in-Let-clause-calls
evaluate_under-returns-in_err-longer-in-Let-clause-calls g t c = no_answer _ c.from_residual-in_err-longer-in-Let.result _ c.from_residual-in_err-longer-in-Let.ensures.1

pub evaluate_all-returns-in_err-found-clause-ok : goal.evaluate_all-returns-in_err-found-clause-ok
evaluate_all-returns-in_err-found-clause-ok g t c = IfOk-from_err c.from_residual.result _ c.from_residual.ensures.0

pub evaluate_all-returns-in_err-found-clause-range : goal.evaluate_all-returns-in_err-found-clause-range
evaluate_all-returns-in_err-found-clause-range g t c h = other_error c.from_residual.result _ _ c.from_residual.ensures.1 (λ same. cc) h

pub evaluate_all-returns-in_err-found-clause-traced : goal.evaluate_all-returns-in_err-found-clause-traced
evaluate_all-returns-in_err-found-clause-traced g t c = no_answer _ c.from_residual.result _ c.from_residual.ensures.1

pub evaluate_all-returns-in_err-found-clause-calls : goal.evaluate_all-returns-in_err-found-clause-calls
evaluate_all-returns-in_err-found-clause-calls g t c = no_answer _ c.from_residual.result _ c.from_residual.ensures.1

pub evaluate_all-returns-in_err-value-clause-ok : goal.evaluate_all-returns-in_err-value-clause-ok
evaluate_all-returns-in_err-value-clause-ok g t c = IfOk-from_err c.from_residual-in_err-value.result _ c.from_residual-in_err-value.ensures.0

pub evaluate_all-returns-in_err-value-clause-traced : goal.evaluate_all-returns-in_err-value-clause-traced
evaluate_all-returns-in_err-value-clause-traced g t c = no_answer _ c.from_residual-in_err-value.result _ c.from_residual-in_err-value.ensures.1

pub evaluate_all-returns-in_err-value-clause-calls : goal.evaluate_all-returns-in_err-value-clause-calls
evaluate_all-returns-in_err-value-clause-calls g t c = no_answer _ c.from_residual-in_err-value.result _ c.from_residual-in_err-value.ensures.1

pub evaluate_all-returns-in_err-push-clause-ok : goal.evaluate_all-returns-in_err-push-clause-ok
evaluate_all-returns-in_err-push-clause-ok g t c = IfOk-from_err c.from_residual-in_err-push.result _ c.from_residual-in_err-push.ensures.0

pub evaluate_all-returns-in_err-push-clause-range : goal.evaluate_all-returns-in_err-push-clause-range
evaluate_all-returns-in_err-push-clause-range g t c h = other_error c.from_residual-in_err-push.result _ _ c.from_residual-in_err-push.ensures.1 (λ same. cc) h

pub evaluate_all-returns-in_err-push-clause-traced : goal.evaluate_all-returns-in_err-push-clause-traced
evaluate_all-returns-in_err-push-clause-traced g t c = no_answer _ c.from_residual-in_err-push.result _ c.from_residual-in_err-push.ensures.1

pub evaluate_all-returns-in_err-push-clause-calls : goal.evaluate_all-returns-in_err-push-clause-calls
evaluate_all-returns-in_err-push-clause-calls g t c = no_answer _ c.from_residual-in_err-push.result _ c.from_residual-in_err-push.ensures.1

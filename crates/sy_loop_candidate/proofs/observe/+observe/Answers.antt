use Rattle.std.proofs.Common.{arith, ◌++◌, IfOk, MatchOption, [], ap, ◌∙◌, Result, Ok, Err, Option, Some, None}
use Rattle.std.proofs.lemmas.Grind.{common_steps}
use Rattle.std.proofs.lemmas.Option.{none-some}
use Rattle.std.proofs.lemmas.List.{length-map}
use Rattle.sy_terms.specs.Expr.{nodes}
use Rattle.sy_terms.specs.Denoted.{val_of, vals_of, expr_of}
use Rattle.sy_terms_operators.proofs.Lists.{weight}
use Rattle.sy_terms_operators.proofs.Steps as step
use Rattle.sy_terms_operators.proofs.Reached as reached
use Rattle.sy_loop_candidate.specs.Bodies.{bodies_of}
use Rattle.sy_loop_candidate.proofs.Told as told
use Rattle.sy_loop_candidate.proofs.Untold as untold
use Rattle.sy_loop_candidate.proofs.observe.+observe.Goals as goal

ok_then : {T E : Type 0} {P Q : T → Type 0} (r : Result T E) → IfOk r P → ((x : T) → P x → Q x) → IfOk r Q
ok_then (Ok x) h f = f x h
ok_then (Err e) h f = tt

option_then : {X N M : Type 0} {P Q : X → Type 0} (o : Option X) → MatchOption o N P → (N → M) → ((x : X) → P x → Q x) → MatchOption o M Q
option_then None h f g = f h
option_then (Some x) h f g = g x h

pub observe-returns-in-Const : goal.observe-returns-in-Const
observe-returns-in-Const g t c = told.const-told g.T.Theory.owned g.T.Theory.denotes c.args.defs.now (bodies_of g.T.Theory.denotes c.args.chosen.now) c.args.points.now _ c.args.term.now c.in-Const.value c.in-Const.is

pub observe-offset_bounds-values-position : goal.observe-offset_bounds-values-position
observe-offset_bounds-values-position g t c = omega (arith, step.var-within _ [] [] g.T.Theory.denotes c.args.values.now _ _ c.in-Var.is c.requires.term.fits)

pub observe-bounds-values-position : goal.observe-bounds-values-position
observe-bounds-values-position g t c = step.var-within _ [] [] g.T.Theory.denotes c.args.values.now _ _ c.in-Var.is c.requires.term.fits

pub observe-returns-in-Var : goal.observe-returns-in-Var
observe-returns-in-Var g t c =
    told.var-told g.T.Theory.owned g.T.Theory.denotes c.args.defs.now (bodies_of g.T.Theory.denotes c.args.chosen.now) c.args.points.now c.args.values.now c.args.term.now c.in-Var.position _ c.in-Var.is c.requires.values c.index-values-position.is

pub observe-observe_all-requires : goal.observe-observe_all-requires
observe-observe_all-requires g t c κs within =
    let falls = step.app-falls g.T.Theory.denotes c.args.term.now c.in-App.operator c.in-App.arguments (weight g.T.Theory.denotes c.args.defs.now) c.in-App.is in
    (omega (arith, falls, c.decreases), (within.0, (within.1, (c.requires.definitions, (c.requires.functions, (c.requires.rows, (c.requires.values, record { wanted = c.requires.term.wanted; bodies = c.requires.term.bodies; fit = step.app-arguments _ [] [] g.T.Theory.denotes _ _ _ _ c.in-App.is c.requires.term.fits })))))))

pub observe-returns-in_default : goal.observe-returns-in_default
observe-returns-in_default g t c =
    untold.app-untold-arguments g.T.Theory.owned g.T.Theory.denotes c.args.defs.now (bodies_of g.T.Theory.denotes c.args.chosen.now) c.args.points.now _ c.args.term.now c.in-App.operator c.in-App.arguments c.in-App.is
    (rw c.in_default.is at c.in_ok-found-in-App.ensures)

pub observe-apply-requires-clause-owned : goal.observe-apply-requires-clause-owned
observe-apply-requires-clause-owned g t c = step.app-owned _ [] [] g.T.Theory.denotes _ _ _ _ c.in-App.is c.requires.term.fits

pub observe-apply-requires-clause-sorted : goal.observe-apply-requires-clause-sorted
observe-apply-requires-clause-sorted g t c =
    rw (c.as_slice.ensures.value)
    (told.app-sorted g.T.Theory.owned g.T.Theory.denotes c.args.defs.now (bodies_of g.T.Theory.denotes c.args.chosen.now) c.args.points.now _ c.args.term.now c.in-App.operator c.in-App.arguments _ c.in-App.is c.requires.term
    (rw c.in-Some.is at c.in_ok-found-in-App.ensures))

pub observe-returns-in-Is : goal.observe-returns-in-Is
observe-returns-in-Is g t c =
    let applied = rw (c.as_slice.ensures.value) at c.in-Is.ensures in
    told.app-told g.T.Theory.owned g.T.Theory.denotes c.args.defs.now (bodies_of g.T.Theory.denotes c.args.chosen.now) c.args.points.now _ c.args.term.now c.in-App.operator c.in-App.arguments _ _ c.in-App.is
    (rw c.in-Some.is at c.in_ok-found-in-App.ensures) applied

pub observe-returns-in-App : goal.observe-returns-in-App
observe-returns-in-App g t c =
    let applied = rw (c.as_slice.ensures.value) at c.in-OutOfRange.ensures in
    untold.app-untold g.T.Theory.owned g.T.Theory.denotes c.args.defs.now (bodies_of g.T.Theory.denotes c.args.chosen.now) c.args.points.now _ c.args.term.now c.in-App.operator c.in-App.arguments _ c.in-App.is c.requires.term
    (rw c.in-Some.is at c.in_ok-found-in-App.ensures) applied

pub observe-observe_all-requires-in-Call : goal.observe-observe_all-requires-in-Call
observe-observe_all-requires-in-Call g t c κs within =
    let falls = step.call-falls g.T.Theory.denotes c.args.term.now c.in-Call.function c.in-Call.arguments (weight g.T.Theory.denotes c.args.defs.now) c.in-Call.is in
    (omega (arith, falls, c.decreases), (within.0, (within.1, (c.requires.definitions, (c.requires.functions, (c.requires.rows, (c.requires.values, record { wanted = c.requires.term.wanted; bodies = c.requires.term.bodies; fit = step.call-arguments _ [] [] g.T.Theory.denotes _ _ _ _ c.in-Call.is c.requires.term.fits })))))))

pub observe-returns-in_default-2 : goal.observe-returns-in_default-2
observe-returns-in_default-2 g t c =
    untold.call-untold-arguments g.T.Theory.owned g.T.Theory.denotes c.args.defs.now (bodies_of g.T.Theory.denotes c.args.chosen.now) c.args.points.now _ c.args.term.now c.in-Call.function c.in-Call.arguments c.in-Call.is
    (rw c.in_default-2.is at c.in_ok-found-in-Call.ensures)

pub observe-slice_bounds-earlier-end : goal.observe-slice_bounds-earlier-end
observe-slice_bounds-earlier-end g t c =
    let here = told.calls-within g.T.Theory.owned g.T.Theory.denotes c.args.defs.now (bodies_of g.T.Theory.denotes c.args.chosen.now) c.args.points.now _ c.args.term.now c.in-Call.function c.in-Call.arguments _ _ c.in-Call.is c.in-Defined.is c.requires.definitions c.requires.term
    (rw c.in-Some-2.is at c.in_ok-found-in-Call.ensures) in
    grind (arith, common_steps)

pub observe-offset_bounds-defs-number : goal.observe-offset_bounds-defs-number
observe-offset_bounds-defs-number g t c =
    omega (
      arith,
      told.calls-within g.T.Theory.owned g.T.Theory.denotes c.args.defs.now (bodies_of g.T.Theory.denotes c.args.chosen.now) c.args.points.now _ c.args.term.now c.in-Call.function c.in-Call.arguments _ _ c.in-Call.is c.in-Defined.is c.requires.definitions c.requires.term
          (rw c.in-Some-2.is at c.in_ok-found-in-Call.ensures),
    )

pub observe-bounds-defs-number : goal.observe-bounds-defs-number
observe-bounds-defs-number g t c =
    told.calls-within g.T.Theory.owned g.T.Theory.denotes c.args.defs.now (bodies_of g.T.Theory.denotes c.args.chosen.now) c.args.points.now _ c.args.term.now c.in-Call.function c.in-Call.arguments _ _ c.in-Call.is c.in-Defined.is c.requires.definitions c.requires.term
    (rw c.in-Some-2.is at c.in_ok-found-in-Call.ensures)

pub observe-observe-requires : goal.observe-observe-requires
observe-observe-requires g t c κs within =
    let all = rw c.in-Some-2.is at c.in_ok-found-in-Call.ensures in
    let have = told.arguments-have g.T.Theory.owned g.T.Theory.denotes c.args.defs.now (bodies_of g.T.Theory.denotes c.args.chosen.now) c.args.points.now _ c.args.term.now c.in-Call.function c.in-Call.arguments _ c.in-Call.is c.requires.term all in
    let called = told.calls g.T.Theory.owned g.T.Theory.denotes c.args.defs.now (bodies_of g.T.Theory.denotes c.args.chosen.now) c.args.points.now _ c.args.term.now c.in-Call.function c.in-Call.arguments _ _ c.in-Call.is c.in-Defined.is c.requires.definitions c.requires.term all in
    let falls = reached.calls-falls called c.index-defs-number.result (nodes (expr_of g.T.Theory.denotes c.args.term.now)) in
    (omega (arith, falls, c.decreases), (within.0, (within.1, (called.before, (omega arith, (λ function kept none. absurd (none-some kept none), (rw (c.as_slice-in-Defined.ensures.value) have.valid, rw (c.as_slice-in-Defined.ensures.value) (record { wanted = []; bodies = tt; fits = reached.calls-fits called c.index-defs-number.result }))))))))

pub observe-returns-in-Defined : goal.observe-returns-in-Defined
observe-returns-in-Defined g t c =
    let all = rw c.in-Some-2.is at c.in_ok-found-in-Call.ensures in
    let inner = rw (c.as_slice-in-Defined.ensures.value) at c.observe.ensures in
    ok_then c.observe.result inner (λ found has. option_then found has
    (untold.defined-untold g.T.Theory.owned g.T.Theory.denotes c.args.defs.now (bodies_of g.T.Theory.denotes c.args.chosen.now) c.args.points.now _ c.args.term.now c.in-Call.function c.in-Call.arguments _ _ c.index-defs-number.result c.in-Call.is c.in-Defined.is c.requires.definitions c.requires.term all)
    (λ value gives. told.defined-told g.T.Theory.owned g.T.Theory.denotes c.args.defs.now (bodies_of g.T.Theory.denotes c.args.chosen.now) c.args.points.now _ c.args.term.now c.in-Call.function c.in-Call.arguments _ _ c.index-defs-number.result _ c.in-Call.is c.in-Defined.is c.requires.definitions all gives))

pub observe-bounds-chosen-number : goal.observe-bounds-chosen-number
observe-bounds-chosen-number g t c =
    let within = told.wanted-within g.T.Theory.owned g.T.Theory.denotes c.args.defs.now (bodies_of g.T.Theory.denotes c.args.chosen.now) c.args.points.now _ c.args.term.now c.in-Call.function c.in-Call.arguments _ _ c.in-Call.is c.in-Wanted.is c.requires.term
    (rw c.in-Some-2.is at c.in_ok-found-in-Call.ensures) in
    omega (arith, within, told.bodies-length g.T.Theory.denotes c.args.chosen.now)

pub observe-value_at-requires-clause-within : goal.observe-value_at-requires-clause-within
observe-value_at-requires-clause-within g t c =
    let within = told.wanted-within g.T.Theory.owned g.T.Theory.denotes c.args.defs.now (bodies_of g.T.Theory.denotes c.args.chosen.now) c.args.points.now _ c.args.term.now c.in-Call.function c.in-Call.arguments _ _ c.in-Call.is c.in-Wanted.is c.requires.term
    (rw c.in-Some-2.is at c.in_ok-found-in-Call.ensures) in
    omega (arith, within, told.bodies-length g.T.Theory.denotes c.args.chosen.now, c.requires.functions)

pub observe-value_at-requires-clause-sized : goal.observe-value_at-requires-clause-sized
observe-value_at-requires-clause-sized g t c =
    let within = told.wanted-within g.T.Theory.owned g.T.Theory.denotes c.args.defs.now (bodies_of g.T.Theory.denotes c.args.chosen.now) c.args.points.now _ c.args.term.now c.in-Call.function c.in-Call.arguments _ _ c.in-Call.is c.in-Wanted.is c.requires.term
    (rw c.in-Some-2.is at c.in_ok-found-in-Call.ensures) in
    let kept = c.index-chosen-number.result in
    let row = c.requires.rows c.in-Wanted.number kept (told.chosen-at g.T.Theory.denotes c.args.chosen.now c.in-Wanted.number kept within c.index-chosen-number.is) in
    omega (arith, row.sized, length-map kept.now.row (val_of g.T.Theory.denotes))

pub observe-returns-in-Call : goal.observe-returns-in-Call
observe-returns-in-Call g t c =
    let all = rw c.in-Some-2.is at c.in_ok-found-in-Call.ensures in
    let within = told.wanted-within g.T.Theory.owned g.T.Theory.denotes c.args.defs.now (bodies_of g.T.Theory.denotes c.args.chosen.now) c.args.points.now _ c.args.term.now c.in-Call.function c.in-Call.arguments _ _ c.in-Call.is c.in-Wanted.is c.requires.term all in
    let kept = c.index-chosen-number.result in
    let at = told.chosen-at g.T.Theory.denotes c.args.chosen.now c.in-Wanted.number kept within c.index-chosen-number.is in
    let seen = rw (c.as_slice-in-Wanted.ensures.value) at c.value_at.ensures in
    option_then c.value_at.result seen
    (untold.wanted-untold g.T.Theory.owned g.T.Theory.denotes c.args.defs.now (bodies_of g.T.Theory.denotes c.args.chosen.now) c.args.points.now _ c.args.term.now c.in-Call.function c.in-Call.arguments _ _ c.in-Call.is c.in-Wanted.is c.requires.term all)
    (λ value stands. told.wanted-told g.T.Theory.owned g.T.Theory.denotes c.args.defs.now (bodies_of g.T.Theory.denotes c.args.chosen.now) c.args.points.now _ c.args.term.now c.in-Call.function c.in-Call.arguments _ _ _ _ _ c.in-Call.is c.in-Wanted.is c.requires.term all
    (told.term-at g.T.Theory.denotes c.args.chosen.now c.in-Wanted.number kept at) (c.requires.rows c.in-Wanted.number kept at) stands)

pub observe-observe_all-requires-in-Let : goal.observe-observe_all-requires-in-Let
observe-observe_all-requires-in-Let g t c κs within =
    let falls = step.let-falls g.T.Theory.denotes c.args.term.now c.in-Let.bound c.in-Let.inner (weight g.T.Theory.denotes c.args.defs.now) c.in-Let.is in
    let first = falls.0 in
    (omega (arith, first, c.decreases), (within.0, (within.1, (c.requires.definitions, (c.requires.functions, (c.requires.rows, (c.requires.values, record { wanted = c.requires.term.wanted; bodies = c.requires.term.bodies; fit = step.let-bound _ [] [] g.T.Theory.denotes _ _ _ _ c.in-Let.is c.requires.term.fits })))))))

pub observe-returns-in_default-3 : goal.observe-returns-in_default-3
observe-returns-in_default-3 g t c =
    untold.let-untold-bound g.T.Theory.owned g.T.Theory.denotes c.args.defs.now (bodies_of g.T.Theory.denotes c.args.chosen.now) c.args.points.now _ c.args.term.now c.in-Let.bound c.in-Let.inner c.in-Let.is
    (rw c.in_default-3.is at c.in_ok-found-in-Let.ensures)

pub observe-observe-requires-in-Let : goal.observe-observe-requires-in-Let
observe-observe-requires-in-Let g t c κs within =
    let falls = step.let-falls g.T.Theory.denotes c.args.term.now c.in-Let.bound c.in-Let.inner (weight g.T.Theory.denotes c.args.defs.now) c.in-Let.is in
    let second = falls.1 in
    let longer = c.as_slice-in-Let-2.ensures.value ∙ c.in_ok-longer-in-Let.ensures ∙ ap (λ rest. c.args.values.now ++ rest) c.as_slice-in-Let.ensures.value in
    let all = rw c.in-Some-3.is at c.in_ok-found-in-Let.ensures in
    let have = all.give c.requires.term.wanted c.requires.term.bodies (step.let-bound _ [] [] g.T.Theory.denotes _ _ _ _ c.in-Let.is c.requires.term.fits) in
    (omega (arith, rw (← c.deref.ensures) at second, c.decreases), (within.0, (within.1, (c.requires.definitions, (c.requires.functions, (c.requires.rows, (rw longer (step.let-valid g.T.Theory.denotes _ _ c.requires.values have.valid), rw (longer, c.deref.ensures) (record { wanted = c.requires.term.wanted; bodies = c.requires.term.bodies; fits = step.let-inner _ _ _ g.T.Theory.denotes _ _ _ _ _ c.in-Let.is c.requires.term.fits have }))))))))

pub observe-returns : goal.observe-returns
observe-returns g t c =
    let longer = c.as_slice-in-Let-2.ensures.value ∙ c.in_ok-longer-in-Let.ensures ∙ ap (λ rest. c.args.values.now ++ rest) c.as_slice-in-Let.ensures.value in
    let all = rw c.in-Some-3.is at c.in_ok-found-in-Let.ensures in
    let inner = rw (longer, c.deref.ensures) at c.observe-in-Let.ensures in
    ok_then c.observe-in-Let.result inner (λ found has. option_then found has
    (untold.let-untold g.T.Theory.owned g.T.Theory.denotes c.args.defs.now (bodies_of g.T.Theory.denotes c.args.chosen.now) c.args.points.now c.args.values.now _ c.args.term.now c.in-Let.bound c.in-Let.inner c.in-Let.is c.requires.term all)
    (λ value gives. told.let-told g.T.Theory.owned g.T.Theory.denotes c.args.defs.now (bodies_of g.T.Theory.denotes c.args.chosen.now) c.args.points.now c.args.values.now _ c.args.term.now c.in-Let.bound c.in-Let.inner _ c.in-Let.is c.requires.term all gives))

pub observe_all-loop-term-init : goal.observe_all-loop-term-init
observe_all-loop-term-init g t c =
    rw (c.in_ok-found.ensures.items) (told.none-told g.T.Theory.owned g.T.Theory.denotes c.args.defs.now (bodies_of g.T.Theory.denotes c.args.chosen.now) c.args.points.now (vals_of g.T.Theory.denotes c.args.values.now) c.as_slice-term-items.result.now)

pub observe_all-observe-requires : goal.observe_all-observe-requires
observe_all-observe-requires g t c κs within =
    let falls = step.all-falls g.T.Theory.denotes c.as_slice-term-items.result.now c.loop-term.term-index c.term-item.result (weight g.T.Theory.denotes c.args.defs.now) (omega arith) c.term-item.is in
    let same = c.as_slice-term-items.ensures in
    (omega (arith, rw same at falls, c.decreases), (within.0, (within.1, (c.requires.definitions, (c.requires.functions, (c.requires.rows, (c.requires.values, record { wanted = c.requires.terms.wanted; bodies = c.requires.terms.bodies; fits = step.all-at _ [] [] g.T.Theory.denotes _ c.as_slice-term-items.result.now c.loop-term.term-index c.term-item.result (omega arith) c.term-item.is (rw same c.requires.terms.fit) })))))))

pub observe_all-returns-in_default : goal.observe_all-returns-in_default
observe_all-returns-in_default g t c =
    let one = untold.item-untold g.T.Theory.owned g.T.Theory.denotes c.args.defs.now (bodies_of g.T.Theory.denotes c.args.chosen.now) c.args.points.now _ c.as_slice-term-items.result.now c.loop-term.term-index c.term-item.result (omega arith) c.term-item.is
    (rw c.in_default.is at c.in_ok-value.ensures) in
    rw (c.as_slice-term-items.ensures) at one

pub observe_all-loop-term-preserved : goal.observe_all-loop-term-preserved
observe_all-loop-term-preserved g t c =
    rw (c.in_ok-push.ensures.items) (told.next-told g.T.Theory.owned g.T.Theory.denotes c.args.defs.now (bodies_of g.T.Theory.denotes c.args.chosen.now) c.args.points.now _ c.as_slice-term-items.result.now c.loop-term.term-index c.term-item.result c.loop-term.found.items c.in-Some.value (omega arith) c.term-item.is c.loop-term.invariant
    (rw c.in-Some.is at c.in_ok-value.ensures))

pub observe_all-returns : goal.observe_all-returns
observe_all-returns g t c =
    let all = told.all-told g.T.Theory.owned g.T.Theory.denotes c.args.defs.now (bodies_of g.T.Theory.denotes c.args.chosen.now) c.args.points.now _ c.as_slice-term-items.result.now c.loop-term.term-index _ (omega arith) c.loop-term.invariant in
    rw (c.as_slice-term-items.ensures) at all

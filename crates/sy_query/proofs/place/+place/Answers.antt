use Rattle.std.proofs.Common.{refl, arith, ap, ◌∙◌, Err, ◌+◌, ◌++◌, length, length-append, take}
use Rattle.std.proofs.lemmas.Grind.{common_steps}
use Rattle.std.proofs.lemmas.List.{take_all}
use Rattle.std.proofs.Math.Seq.{take-append_seam}
use Rattle.std.proofs.lemmas.Result.{IfOk-from_err}
use Rattle.sy_query_base.specs.Weights.{query_scope}
use Rattle.sy_terms_operators.proofs.Steps as laws
use Rattle.sy_terms_operators.proofs.Lists.{weight}
use Rattle.sy_terms_operators.proofs.Reached.{weight_of}
use Rattle.sy_query.proofs.Forms as forms
use Rattle.sy_query.proofs.Steps as step
use Rattle.sy_query.proofs.Walking as walk
use Rattle.sy_query.proofs.place.+place.Goals as goal

pub place-constant-requires : goal.place-constant-requires
place-constant-requires g t c = step.const-valid g.T.Theory.owned g.T.Theory.denotes c.args.defs.now c.args.bodies.now _ _ _ c.in-Const.is c.requires.term

pub place-returns-in-Const-clause-ok : goal.place-returns-in-Const-clause-ok
place-returns-in-Const-clause-ok g t c =
    walk.ok_then c.constant.result c.constant.ensures.ok (λ p is. step.rebuilt _ _ _ _ _ _ _ _ (forms.const-placed g.T.Theory.denotes c.args.defs.now c.args.bodies.now c.args.first (length c.args.room.now.sorts.items) c.args.term.now c.in-Const.value c.in-Const.is) is)

pub place-returns-in-Const-clause-kept : goal.place-returns-in-Const-clause-kept
place-returns-in-Const-clause-kept g t c = walk.any_ok c.constant.result (λ k. (c.constant.ensures.kept k).items)

pub place-returns-in-Const-clause-heavy : goal.place-returns-in-Const-clause-heavy
place-returns-in-Const-clause-heavy g t c h =
    step.reheavy _ _ _ _ _ (forms.const-placed g.T.Theory.denotes c.args.defs.now c.args.bodies.now c.args.first (length c.args.room.now.sorts.items) c.args.term.now c.in-Const.value c.in-Const.is) (walk.err_of c.constant.result _ c.constant.ensures.heavy h)

pub place-variable-requires : goal.place-variable-requires
place-variable-requires g t c =
    record { within = step.var-within g.T.Theory.owned g.T.Theory.denotes c.args.defs.now c.args.bodies.now c.args.first _ _ _ c.in-Var.is c.requires.definitions c.requires.own c.requires.term }

pub place-returns-in-Var-clause-ok : goal.place-returns-in-Var-clause-ok
place-returns-in-Var-clause-ok g t c =
    walk.ok_then c.variable.result c.variable.ensures.ok (λ p is. step.rebuilt _ _ _ _ _ _ _ _ (forms.var-placed g.T.Theory.denotes c.args.defs.now c.args.bodies.now c.args.first (length c.args.room.now.sorts.items) c.args.term.now c.in-Var.position c.in-Var.is) is)

pub place-returns-in-Var-clause-kept : goal.place-returns-in-Var-clause-kept
place-returns-in-Var-clause-kept g t c = walk.any_ok c.variable.result (λ k. (c.variable.ensures.kept k).items)

pub place-returns-in-Var-clause-heavy : goal.place-returns-in-Var-clause-heavy
place-returns-in-Var-clause-heavy g t c h =
    step.reheavy _ _ _ _ _ (forms.var-placed g.T.Theory.denotes c.args.defs.now c.args.bodies.now c.args.first (length c.args.room.now.sorts.items) c.args.term.now c.in-Var.position c.in-Var.is) (walk.err_of c.variable.result _ c.variable.ensures.heavy h)

pub place-place_all-requires : goal.place-place_all-requires
place-place_all-requires g t c κs within =
    let falls = laws.app-falls g.T.Theory.denotes c.args.term.now c.in-App.operator c.in-App.arguments (weight g.T.Theory.denotes c.args.defs.now + weight_of g.T.Theory.denotes c.args.bodies.now) c.in-App.is in (
      rw c.as_slice.ensures (omega (arith, falls, c.decreases)),
      (
        within.0,
        (
          within.1,
          (
            c.requires.definitions,
            (
              c.requires.sized,
              (
                c.requires.own,
                (
                  c.requires.small,
                  rw c.as_slice.ensures (step.app-fits g.T.Theory.owned g.T.Theory.denotes c.args.defs.now c.args.bodies.now _ _ _ _ c.in-App.is c.requires.term),
                ),
              ),
            ),
          ),
        ),
      ),
    )

pub place-returns-in_err-found-in-App-clause-heavy : goal.place-returns-in_err-found-in-App-clause-heavy
place-returns-in_err-found-in-App-clause-heavy g t c h =
    let heavy = c.in_err-found-in-App.ensures.heavy (ap Err (walk.kept-error c.from_residual.result _ _ c.from_residual.ensures.1 h)) in
    walk.app-arguments-heavy g.T.Theory.owned g.T.Theory.denotes c.args.defs.now c.args.bodies.now c.args.first _ _ _ _ _ c.in-App.is (rw c.as_slice.ensures at heavy)

pub place-apply-requires-clause-arguments : goal.place-apply-requires-clause-arguments
place-apply-requires-clause-arguments g t c =
    let few = step.found-small g.T.Theory.owned g.T.Theory.denotes _ _ _ _ _ _ c.requires.sized c.in_ok-found-in-App.ensures.ok in
    walk.few-terms _ _ _ few.1 c.requires.small

pub place-apply-requires-clause-sorted : goal.place-apply-requires-clause-sorted
place-apply-requires-clause-sorted g t c =
    let are = rw c.as_slice.ensures at c.in_ok-found-in-App.ensures.ok in
    (step.app-sorted g.T.Theory.owned g.T.Theory.denotes c.args.defs.now c.args.bodies.now c.args.first _ _ _ _ _ _ _ _ c.in-App.is c.requires.definitions c.requires.own c.requires.term are).1

pub place-returns-in_ok-found-in-App-clause-ok : goal.place-returns-in_ok-found-in-App-clause-ok
place-returns-in_ok-found-in-App-clause-ok g t c =
    let are = rw c.as_slice.ensures at c.in_ok-found-in-App.ensures.ok in
    walk.ok_then c.apply.result c.apply.ensures.ok (λ p is. walk.app-built g.T.Theory.owned g.T.Theory.denotes c.args.defs.now c.args.bodies.now c.args.first _ _ _ _ _ _ _ _ _ _ _ c.in-App.is c.requires.definitions c.requires.own c.requires.term are is)

pub place-returns-in_ok-found-in-App-clause-heavy : goal.place-returns-in_ok-found-in-App-clause-heavy
place-returns-in_ok-found-in-App-clause-heavy g t c h =
    let are = rw c.as_slice.ensures at c.in_ok-found-in-App.ensures.ok in
    walk.app-heavy g.T.Theory.owned g.T.Theory.denotes c.args.defs.now c.args.bodies.now c.args.first _ _ _ _ _ _ _ _ c.in-App.is c.requires.definitions c.requires.own c.requires.term are (walk.err_of c.apply.result _ c.apply.ensures.heavy h)

pub place-place_all-requires-in-Call : goal.place-place_all-requires-in-Call
place-place_all-requires-in-Call g t c κs within =
    let falls = laws.call-falls g.T.Theory.denotes c.args.term.now c.in-Call.function c.in-Call.arguments (weight g.T.Theory.denotes c.args.defs.now + weight_of g.T.Theory.denotes c.args.bodies.now) c.in-Call.is in (
      rw c.as_slice-in-Call.ensures (omega (arith, falls, c.decreases)),
      (
        within.0,
        (
          within.1,
          (
            c.requires.definitions,
            (
              c.requires.sized,
              (
                c.requires.own,
                (
                  c.requires.small,
                  rw c.as_slice-in-Call.ensures (step.call-fits g.T.Theory.owned g.T.Theory.denotes c.args.defs.now c.args.bodies.now _ _ _ _ c.in-Call.is c.requires.term),
                ),
              ),
            ),
          ),
        ),
      ),
    )

pub place-returns-in_err-found-in-Call-clause-heavy : goal.place-returns-in_err-found-in-Call-clause-heavy
place-returns-in_err-found-in-Call-clause-heavy g t c h =
    let heavy = c.in_err-found-in-Call.ensures.heavy (ap Err (walk.kept-error c.from_residual-in_err-found-in-Call.result _ _ c.from_residual-in_err-found-in-Call.ensures.1 h)) in
    walk.call-arguments-heavy g.T.Theory.owned g.T.Theory.denotes c.args.defs.now c.args.bodies.now c.args.first _ _ _ _ _ c.in-Call.is (rw c.as_slice-in-Call.ensures at heavy)

pub place-call-requires : goal.place-call-requires
place-call-requires g t c κs within =
    let falls = laws.call-falls g.T.Theory.denotes c.args.term.now c.in-Call.function c.in-Call.arguments (weight g.T.Theory.denotes c.args.defs.now + weight_of g.T.Theory.denotes c.args.bodies.now) c.in-Call.is in
    let are = rw c.as_slice-in-Call.ensures at c.in_ok-found-in-Call.ensures.ok in
    let few = step.found-small g.T.Theory.owned g.T.Theory.denotes _ _ _ _ _ _ c.requires.sized are in (
      omega (arith, falls, c.decreases),
      (
        within.0,
        (
          within.1,
          (
            c.requires.definitions,
            (
              walk.longer-sized _ _ _ c.in_ok-found-in-Call.ensures.kept c.requires.sized few.0,
              (
                walk.less-left _ _ _ few.1 c.requires.small,
                step.call-takes g.T.Theory.owned g.T.Theory.denotes c.args.defs.now c.args.bodies.now c.args.first _ _ _ _ _ _ _ _ c.in-Call.is c.requires.definitions c.requires.own c.requires.term are,
              ),
            ),
          ),
        ),
      ),
    )

pub place-returns-in_ok-found-in-Call-clause-ok : goal.place-returns-in_ok-found-in-Call-clause-ok
place-returns-in_ok-found-in-Call-clause-ok g t c =
    let are = rw c.as_slice-in-Call.ensures at c.in_ok-found-in-Call.ensures.ok in
    walk.ok_then c.call.result c.call.ensures.ok (λ p is. walk.call-built g.T.Theory.owned g.T.Theory.denotes c.args.defs.now c.args.bodies.now c.args.first _ _ _ _ _ _ _ _ _ _ _ _ c.in-Call.is c.in_ok-found-in-Call.ensures.kept are is)

pub place-returns-in_ok-found-in-Call-clause-heavy : goal.place-returns-in_ok-found-in-Call-clause-heavy
place-returns-in_ok-found-in-Call-clause-heavy g t c h =
    let are = rw c.as_slice-in-Call.ensures at c.in_ok-found-in-Call.ensures.ok in
    walk.call-heavy g.T.Theory.owned g.T.Theory.denotes c.args.defs.now c.args.bodies.now c.args.first _ _ _ _ _ _ _ _ _ c.in-Call.is c.in_ok-found-in-Call.ensures.kept are (c.call.ensures.heavy h)

pub place-place_all-requires-in-Let : goal.place-place_all-requires-in-Let
place-place_all-requires-in-Let g t c κs within =
    let falls = laws.let-falls g.T.Theory.denotes c.args.term.now c.in-Let.bound c.in-Let.inner (weight g.T.Theory.denotes c.args.defs.now + weight_of g.T.Theory.denotes c.args.bodies.now) c.in-Let.is in
    let first = falls.0 in (
      rw c.as_slice-in-Let.ensures (omega (arith, first, c.decreases)),
      (
        within.0,
        (
          within.1,
          (
            c.requires.definitions,
            (
              c.requires.sized,
              (
                c.requires.own,
                (
                  c.requires.small,
                  rw c.as_slice-in-Let.ensures (step.let-fits g.T.Theory.owned g.T.Theory.denotes c.args.defs.now c.args.bodies.now _ _ _ _ c.in-Let.is c.requires.term),
                ),
              ),
            ),
          ),
        ),
      ),
    )

pub place-returns-in_err-found-in-Let-clause-heavy : goal.place-returns-in_err-found-in-Let-clause-heavy
place-returns-in_err-found-in-Let-clause-heavy g t c h =
    let heavy = c.in_err-found-in-Let.ensures.heavy (ap Err (walk.kept-error c.from_residual-in_err-found-in-Let.result _ _ c.from_residual-in_err-found-in-Let.ensures.1 h)) in
    walk.let-bound-heavy g.T.Theory.owned g.T.Theory.denotes c.args.defs.now c.args.bodies.now c.args.first _ _ _ _ _ c.in-Let.is (rw c.as_slice-in-Let.ensures at heavy)

pub place-bind-requires : goal.place-bind-requires
place-bind-requires g t c κs within =
    let falls = laws.let-falls g.T.Theory.denotes c.args.term.now c.in-Let.bound c.in-Let.inner (weight g.T.Theory.denotes c.args.defs.now + weight_of g.T.Theory.denotes c.args.bodies.now) c.in-Let.is in
    let second = falls.1 in
    let are = rw c.as_slice-in-Let.ensures at c.in_ok-found-in-Let.ensures.ok in
    let kept = c.in_ok-found-in-Let.ensures.kept in
    let few = step.found-small g.T.Theory.owned g.T.Theory.denotes _ _ _ _ _ _ c.requires.sized are in (
      rw c.deref.ensures (omega (arith, second, c.decreases)),
      (
        within.0,
        (
          within.1,
          (
            c.requires.definitions,
            (
              walk.longer-sized _ _ _ kept c.requires.sized few.0,
              (
                walk.longer-own _ _ _ _ kept c.requires.own,
                (
                  walk.less-left _ _ _ few.1 c.requires.small,
                  rw (kept, c.deref.ensures) (step.let-inner-fits g.T.Theory.owned g.T.Theory.denotes c.args.defs.now c.args.bodies.now c.args.first _ _ _ _ _ _ _ _ c.in-Let.is c.requires.definitions c.requires.own c.requires.term are),
                ),
              ),
            ),
          ),
        ),
      ),
    )

pub place-returns-in_ok-found-in-Let-clause-ok : goal.place-returns-in_ok-found-in-Let-clause-ok
place-returns-in_ok-found-in-Let-clause-ok g t c =
    let are = rw c.as_slice-in-Let.ensures at c.in_ok-found-in-Let.ensures.ok in
    walk.ok_then c.bind.result c.bind.ensures.ok (λ p is. walk.let-built g.T.Theory.owned g.T.Theory.denotes c.args.defs.now c.args.bodies.now c.args.first _ _ _ _ _ _ _ _ _ _ _ _ c.in-Let.is c.in_ok-found-in-Let.ensures.kept are (rw c.deref.ensures at is))

pub place-returns-in_ok-found-in-Let-clause-heavy : goal.place-returns-in_ok-found-in-Let-clause-heavy
place-returns-in_ok-found-in-Let-clause-heavy g t c h =
    let are = rw c.as_slice-in-Let.ensures at c.in_ok-found-in-Let.ensures.ok in
    let heavy = c.bind.ensures.heavy h in
    walk.let-heavy g.T.Theory.owned g.T.Theory.denotes c.args.defs.now c.args.bodies.now c.args.first _ _ _ _ _ _ _ _ _ c.in-Let.is c.in_ok-found-in-Let.ensures.kept are (rw c.deref.ensures at heavy)

pub place_all-loop-term-init : goal.place_all-loop-term-init
place_all-loop-term-init g t c =
    (rw (c.new-placed.ensures, c.in_ok-sorts.ensures.items) (step.none-built g.T.Theory.denotes (query_scope g.T.Theory.owned) c.args.defs.now c.args.bodies.now c.args.first c.args.room.now.sorts.items c.args.room.now.left), refl)

pub place_all-place-requires : goal.place_all-place-requires
place_all-place-requires g t c κs within =
    let inv = c.loop-term.invariant in
    let falls = laws.all-falls g.T.Theory.denotes c.args.terms.now c.loop-term.term-index c.term-item.result (weight g.T.Theory.denotes c.args.defs.now + weight_of g.T.Theory.denotes c.args.bodies.now) (omega arith) c.term-item.is in
    let same = inv.1 in
    let left = step.part-left g.T.Theory.denotes (query_scope g.T.Theory.owned) c.args.defs.now c.args.bodies.now c.args.first _ _ _ _ _ _ inv.0 in (
      omega (arith, falls, c.decreases),
      (
        within.0,
        (
          within.1,
          (
            c.requires.definitions,
            (
              rw same c.requires.sized,
              (
                rw same c.requires.own,
                (
                  omega (arith, left, c.requires.small),
                  rw same (step.one-fits g.T.Theory.owned g.T.Theory.denotes c.args.defs.now c.args.bodies.now _ c.args.terms.now c.loop-term.term-index c.term-item.result (omega arith) c.term-item.is c.requires.terms),
                ),
              ),
            ),
          ),
        ),
      ),
    )

pub place_all-returns-in_err-term-clause-heavy : goal.place_all-returns-in_err-term-clause-heavy
place_all-returns-in_err-term-clause-heavy g t c h =
    let inv = c.loop-term.invariant in
    let same = inv.1 in
    let heavy = c.in_err-term.ensures.heavy (ap Err (walk.kept-error c.from_residual-in_err-term.result _ _ c.from_residual-in_err-term.ensures.1 h)) in
    step.part-heavy g.T.Theory.denotes (query_scope g.T.Theory.owned) c.args.defs.now c.args.bodies.now c.args.first c.args.room.now.sorts.items c.args.terms.now c.loop-term.term-index _ _ _ _ c.term-item.result (omega arith) c.term-item.is inv.0 (rw same at heavy)

pub place_all-loop-term-preserved : goal.place_all-loop-term-preserved
place_all-loop-term-preserved g t c =
    let inv = c.loop-term.invariant in
    let same = inv.1 in (
      rw (c.in_ok-push.ensures.ok, c.in_ok-push-2.ensures.items) (step.more-built g.T.Theory.denotes (query_scope g.T.Theory.owned) c.args.defs.now c.args.bodies.now c.args.first c.args.room.now.sorts.items c.args.terms.now c.loop-term.term-index _ _ _ _ _ c.term-item.result _ _ (omega arith) c.term-item.is inv.0 (rw same at c.in_ok-term.ensures.ok)),
      c.in_ok-term.ensures.kept ∙ same,
    )

pub place_all-returns-clause-ok : goal.place_all-returns-clause-ok
place_all-returns-clause-ok g t c =
    let are = (c.loop-term.invariant).0 in
    let all = take_all c.loop-term.term-index c.args.terms.now (omega arith) in
    rw all at are

pub place_all-returns-clause-kept : goal.place_all-returns-clause-kept
place_all-returns-clause-kept g t c = (c.loop-term.invariant).1

pub call-offset_bounds-defs-number : goal.call-offset_bounds-defs-number
call-offset_bounds-defs-number g t c =
    let called = step.calls g.T.Theory.owned g.T.Theory.denotes c.args.defs.now _ _ _ _ c.in-Defined.is c.requires.definitions c.requires.function in
    omega (arith, step.defined-within called)

pub call-bounds-defs-number : goal.call-bounds-defs-number
call-bounds-defs-number g t c =
    step.defined-within (step.calls g.T.Theory.owned g.T.Theory.denotes c.args.defs.now _ _ _ _ c.in-Defined.is c.requires.definitions c.requires.function)

pub call-slice_bounds-bind-end : goal.call-slice_bounds-bind-end
call-slice_bounds-bind-end g t c =
    let here = step.defined-within (step.calls g.T.Theory.owned g.T.Theory.denotes c.args.defs.now _ _ _ _ c.in-Defined.is c.requires.definitions c.requires.function) in
    grind (arith, common_steps)

pub call-bind-requires : goal.call-bind-requires
call-bind-requires g t c κs within =
    let called = step.calls g.T.Theory.owned g.T.Theory.denotes c.args.defs.now _ _ _ _ c.in-Defined.is c.requires.definitions c.requires.function in
    let falls = step.defined-falls called c.index-defs-number.result (weight_of g.T.Theory.denotes c.args.bodies.now) in (
      omega (arith, falls, c.decreases),
      (
        within.0,
        (
          within.1,
          (
            called.before,
            (
              c.requires.sized,
              (
                omega (arith, c.len-long.ensures, length-append c.args.room.now.sorts.items c.args.found.sorts.items),
                (
                  c.requires.small,
                  rw c.len-long.ensures (step.defined-fits called c.index-defs-number.result c.args.room.now.sorts.items),
                ),
              ),
            ),
          ),
        ),
      ),
    )

pub call-returns-in-Defined-clause-ok : goal.call-returns-in-Defined-clause-ok
call-returns-in-Defined-clause-ok g t c =
    let called = step.calls g.T.Theory.owned g.T.Theory.denotes c.args.defs.now c.args.bodies.now _ _ _ c.in-Defined.is c.requires.definitions c.requires.function in
    walk.ok_then c.bind.result c.bind.ensures.ok (λ p is.
    rw (step.defined-is g.T.Theory.denotes c.args.defs.now c.args.bodies.now c.args.function (length c.args.room.now.sorts.items) (length (c.args.room.now.sorts.items ++ c.args.found.sorts.items)) c.in-Defined.number called c.index-defs-number.result c.in-Defined.is) (rw c.len-long.ensures at is))

pub call-returns-in-Defined-clause-kept : goal.call-returns-in-Defined-clause-kept
call-returns-in-Defined-clause-kept g t c = c.bind.ensures.kept

pub call-returns-in-Defined-clause-heavy : goal.call-returns-in-Defined-clause-heavy
call-returns-in-Defined-clause-heavy g t c h =
    let called = step.calls g.T.Theory.owned g.T.Theory.denotes c.args.defs.now c.args.bodies.now _ _ _ c.in-Defined.is c.requires.definitions c.requires.function in
    let heavy = c.bind.ensures.heavy h in
    rw (step.defined-is g.T.Theory.denotes c.args.defs.now c.args.bodies.now c.args.function (length c.args.room.now.sorts.items) (length (c.args.room.now.sorts.items ++ c.args.found.sorts.items)) c.in-Defined.number called c.index-defs-number.result c.in-Defined.is) (rw c.len-long.ensures at heavy)

pub call-offset_bounds-bodies-number : goal.call-offset_bounds-bodies-number
call-offset_bounds-bodies-number g t c =
    let called = step.calls-body g.T.Theory.owned g.T.Theory.denotes c.args.defs.now c.args.bodies.now _ _ _ c.in-Wanted.is c.requires.function in
    omega (arith, step.wanted-within called)

pub call-bounds-bodies-number : goal.call-bounds-bodies-number
call-bounds-bodies-number g t c =
    step.wanted-within (step.calls-body g.T.Theory.owned g.T.Theory.denotes c.args.defs.now c.args.bodies.now _ _ _ c.in-Wanted.is c.requires.function)

pub call-bind-requires-in-Wanted : goal.call-bind-requires-in-Wanted
call-bind-requires-in-Wanted g t c κs within =
    let called = step.calls-body g.T.Theory.owned g.T.Theory.denotes c.args.defs.now c.args.bodies.now _ _ _ c.in-Wanted.is c.requires.function in
    let falls = step.wanted-falls called c.index-bodies-number.result (weight g.T.Theory.denotes c.args.defs.now) c.index-bodies-number.is in (
      omega (arith, falls, c.decreases),
      (
        within.0,
        (
          within.1,
          (
            c.requires.definitions,
            (
              c.requires.sized,
              (
                omega (arith, c.len-long.ensures, length-append c.args.room.now.sorts.items c.args.found.sorts.items),
                (
                  c.requires.small,
                  rw c.len-long.ensures (step.wanted-fits called c.index-bodies-number.result c.args.room.now.sorts.items c.index-bodies-number.is),
                ),
              ),
            ),
          ),
        ),
      ),
    )

pub call-returns-in-Wanted-clause-ok : goal.call-returns-in-Wanted-clause-ok
call-returns-in-Wanted-clause-ok g t c =
    let called = step.calls-body g.T.Theory.owned g.T.Theory.denotes c.args.defs.now c.args.bodies.now _ _ _ c.in-Wanted.is c.requires.function in
    walk.ok_then c.bind-in-Wanted.result c.bind-in-Wanted.ensures.ok (λ p is.
    rw (step.wanted-is g.T.Theory.denotes c.args.defs.now c.args.bodies.now c.args.function (length c.args.room.now.sorts.items) (length (c.args.room.now.sorts.items ++ c.args.found.sorts.items)) c.in-Wanted.number called c.index-bodies-number.result c.index-bodies-number.is c.in-Wanted.is) (rw c.len-long.ensures at is))

pub call-returns-in-Wanted-clause-heavy : goal.call-returns-in-Wanted-clause-heavy
call-returns-in-Wanted-clause-heavy g t c h =
    let called = step.calls-body g.T.Theory.owned g.T.Theory.denotes c.args.defs.now c.args.bodies.now _ _ _ c.in-Wanted.is c.requires.function in
    let heavy = c.bind-in-Wanted.ensures.heavy h in
    rw (step.wanted-is g.T.Theory.denotes c.args.defs.now c.args.bodies.now c.args.function (length c.args.room.now.sorts.items) (length (c.args.room.now.sorts.items ++ c.args.found.sorts.items)) c.in-Wanted.number called c.index-bodies-number.result c.index-bodies-number.is c.in-Wanted.is) (rw c.len-long.ensures at heavy)

pub bind-place-requires : goal.bind-place-requires
bind-place-requires g t c κs within =
    let longer = c.in_ok-extend_from_slice.ensures.items ∙ ap (λ rest. c.args.room.now.sorts.items ++ rest) c.as_slice.ensures.value in
    (omega (arith, c.decreases), (within.0, (within.1, (c.requires.definitions, (rw longer c.requires.sized, (rw longer c.requires.own, (c.requires.small, rw longer c.requires.inner)))))))

pub bind-returns-in_err-take-clause-heavy : goal.bind-returns-in_err-take-clause-heavy
bind-returns-in_err-take-clause-heavy g t c h =
    let longer = c.in_ok-extend_from_slice.ensures.items ∙ ap (λ rest. c.args.room.now.sorts.items ++ rest) c.as_slice.ensures.value in
    walk.inner-heavy _ _ _ _ _ _ _ _ (rw longer at c.in_ok-term.ensures.ok) c.sort_weight.ensures.is c.in_err-take.ensures.heavy

pub bind-returns-clause-ok : goal.bind-returns-clause-ok
bind-returns-clause-ok g t c =
    let longer = c.in_ok-extend_from_slice.ensures.items ∙ ap (λ rest. c.args.room.now.sorts.items ++ rest) c.as_slice.ensures.value in
    walk.inner-bound g.T.Theory.denotes _ _ _ _ _ _ _ _ _ _ _ (rw longer at c.in_ok-term.ensures.ok) c.sort_weight.ensures.is c.in_ok-take.ensures.ok c.take.ensures.counted c.in_ok-new.ensures.ok

pub bind-returns-clause-kept : goal.bind-returns-clause-kept
bind-returns-clause-kept g t c =
    let longer = c.in_ok-extend_from_slice.ensures.items ∙ ap (λ rest. c.args.room.now.sorts.items ++ rest) c.as_slice.ensures.value in
    (λ k. (c.in_ok-take.ensures.kept k).items) ∙ (c.truncate.ensures.items ∙ (ap (take c.len-long.result) (c.in_ok-term.ensures.kept ∙ longer) ∙ (ap (λ n. take n (c.args.room.now.sorts.items ++ c.args.found.sorts.items)) c.len-long.ensures ∙ take-append_seam c.args.room.now.sorts.items c.args.found.sorts.items)))

pub place_all-returns-in_err-sorts-clause-heavy : goal.place_all-returns-in_err-sorts-clause-heavy
place_all-returns-in_err-sorts-clause-heavy g t c h = walk.not-error c.from_residual.result _ _ c.from_residual.ensures.1 (λ same. cc) h

pub place_all-returns-in_err-push-clause-heavy : goal.place_all-returns-in_err-push-clause-heavy
place_all-returns-in_err-push-clause-heavy g t c h = walk.not-error c.from_residual-in_err-push.result _ _ c.from_residual-in_err-push.ensures.1 (λ same. cc) h

pub place_all-returns-in_err-push-2-clause-heavy : goal.place_all-returns-in_err-push-2-clause-heavy
place_all-returns-in_err-push-2-clause-heavy g t c h = walk.not-error c.from_residual-in_err-push-2.result _ _ c.from_residual-in_err-push-2.ensures.1 (λ same. cc) h

pub place_all-returns-clause-heavy : goal.place_all-returns-clause-heavy
place_all-returns-clause-heavy g t c h = absurd cc

pub bind-returns-in_err-extend_from_slice-clause-heavy : goal.bind-returns-in_err-extend_from_slice-clause-heavy
bind-returns-in_err-extend_from_slice-clause-heavy g t c h = walk.not-error c.from_residual.result _ _ c.from_residual.ensures.1 (λ same. cc) h

pub bind-returns-in_err-new-clause-heavy : goal.bind-returns-in_err-new-clause-heavy
bind-returns-in_err-new-clause-heavy g t c h = walk.not-error c.from_residual-in_err-new.result _ _ c.from_residual-in_err-new.ensures.1 (λ same. cc) h

pub bind-returns-clause-heavy : goal.bind-returns-clause-heavy
bind-returns-clause-heavy g t c h = absurd cc

pub bind-returns-in_err-term-clause-heavy : goal.bind-returns-in_err-term-clause-heavy
bind-returns-in_err-term-clause-heavy g t c h =
    let longer = c.in_ok-extend_from_slice.ensures.items ∙ ap (λ rest. c.args.room.now.sorts.items ++ rest) c.as_slice.ensures.value in
    let heavy = rw longer at (c.in_err-term.ensures.heavy (ap Err (walk.kept-error c.from_residual-in_err-term.result _ _ c.from_residual-in_err-term.ensures.1 h))) in
    omega (arith, heavy)

pub place-returns-in_err-found-in-App-clause-ok : goal.place-returns-in_err-found-in-App-clause-ok
place-returns-in_err-found-in-App-clause-ok g t c = IfOk-from_err c.from_residual.result _ c.from_residual.ensures.0

pub place-returns-in_err-found-in-App-clause-kept : goal.place-returns-in_err-found-in-App-clause-kept
place-returns-in_err-found-in-App-clause-kept g t c = IfOk-from_err c.from_residual.result _ c.from_residual.ensures.0

pub place-returns-in_err-found-in-Call-clause-ok : goal.place-returns-in_err-found-in-Call-clause-ok
place-returns-in_err-found-in-Call-clause-ok g t c = IfOk-from_err c.from_residual-in_err-found-in-Call.result _ c.from_residual-in_err-found-in-Call.ensures.0

pub place-returns-in_err-found-in-Call-clause-kept : goal.place-returns-in_err-found-in-Call-clause-kept
place-returns-in_err-found-in-Call-clause-kept g t c = IfOk-from_err c.from_residual-in_err-found-in-Call.result _ c.from_residual-in_err-found-in-Call.ensures.0

pub place-returns-in_err-found-in-Let-clause-ok : goal.place-returns-in_err-found-in-Let-clause-ok
place-returns-in_err-found-in-Let-clause-ok g t c = IfOk-from_err c.from_residual-in_err-found-in-Let.result _ c.from_residual-in_err-found-in-Let.ensures.0

pub place-returns-in_err-found-in-Let-clause-kept : goal.place-returns-in_err-found-in-Let-clause-kept
place-returns-in_err-found-in-Let-clause-kept g t c = IfOk-from_err c.from_residual-in_err-found-in-Let.result _ c.from_residual-in_err-found-in-Let.ensures.0

pub place_all-returns-in_err-term-clause-ok : goal.place_all-returns-in_err-term-clause-ok
place_all-returns-in_err-term-clause-ok g t c = IfOk-from_err c.from_residual-in_err-term.result _ c.from_residual-in_err-term.ensures.0

pub place_all-returns-in_err-term-clause-kept : goal.place_all-returns-in_err-term-clause-kept
place_all-returns-in_err-term-clause-kept g t c = IfOk-from_err c.from_residual-in_err-term.result _ c.from_residual-in_err-term.ensures.0

pub place_all-returns-in_err-sorts-clause-ok : goal.place_all-returns-in_err-sorts-clause-ok
place_all-returns-in_err-sorts-clause-ok g t c = IfOk-from_err c.from_residual.result _ c.from_residual.ensures.0

pub place_all-returns-in_err-sorts-clause-kept : goal.place_all-returns-in_err-sorts-clause-kept
place_all-returns-in_err-sorts-clause-kept g t c = IfOk-from_err c.from_residual.result _ c.from_residual.ensures.0

pub place_all-returns-in_err-push-clause-ok : goal.place_all-returns-in_err-push-clause-ok
place_all-returns-in_err-push-clause-ok g t c = IfOk-from_err c.from_residual-in_err-push.result _ c.from_residual-in_err-push.ensures.0

pub place_all-returns-in_err-push-clause-kept : goal.place_all-returns-in_err-push-clause-kept
place_all-returns-in_err-push-clause-kept g t c = IfOk-from_err c.from_residual-in_err-push.result _ c.from_residual-in_err-push.ensures.0

pub place_all-returns-in_err-push-2-clause-ok : goal.place_all-returns-in_err-push-2-clause-ok
place_all-returns-in_err-push-2-clause-ok g t c = IfOk-from_err c.from_residual-in_err-push-2.result _ c.from_residual-in_err-push-2.ensures.0

pub place_all-returns-in_err-push-2-clause-kept : goal.place_all-returns-in_err-push-2-clause-kept
place_all-returns-in_err-push-2-clause-kept g t c = IfOk-from_err c.from_residual-in_err-push-2.result _ c.from_residual-in_err-push-2.ensures.0

pub bind-returns-in_err-extend_from_slice-clause-ok : goal.bind-returns-in_err-extend_from_slice-clause-ok
bind-returns-in_err-extend_from_slice-clause-ok g t c = IfOk-from_err c.from_residual.result _ c.from_residual.ensures.0

pub bind-returns-in_err-extend_from_slice-clause-kept : goal.bind-returns-in_err-extend_from_slice-clause-kept
bind-returns-in_err-extend_from_slice-clause-kept g t c = IfOk-from_err c.from_residual.result _ c.from_residual.ensures.0

pub bind-returns-in_err-new-clause-ok : goal.bind-returns-in_err-new-clause-ok
bind-returns-in_err-new-clause-ok g t c = IfOk-from_err c.from_residual-in_err-new.result _ c.from_residual-in_err-new.ensures.0

pub bind-returns-in_err-new-clause-kept : goal.bind-returns-in_err-new-clause-kept
bind-returns-in_err-new-clause-kept g t c = IfOk-from_err c.from_residual-in_err-new.result _ c.from_residual-in_err-new.ensures.0

pub bind-returns-in_err-term-clause-ok : goal.bind-returns-in_err-term-clause-ok
bind-returns-in_err-term-clause-ok g t c = IfOk-from_err c.from_residual-in_err-term.result _ c.from_residual-in_err-term.ensures.0

pub bind-returns-in_err-term-clause-kept : goal.bind-returns-in_err-term-clause-kept
bind-returns-in_err-term-clause-kept g t c = IfOk-from_err c.from_residual-in_err-term.result _ c.from_residual-in_err-term.ensures.0

use Rattle.std.proofs.Common.{◌≡◌, refl, arith, length, ap}
use Rattle.std.proofs.lemmas.Bool.{leb-true, le-leb}
use Rattle.std.proofs.lemmas.Option.{slice_get_read}
use Rattle.sy_grammar_base.specs.Written.{pattern_of-Const, pattern_of-Var, pattern_of-Non, pattern_of-App, pattern_of-Call}
use Rattle.sy_grammar.proofs.Filling.{fills_constant, fills_variable, fills_occurrence, fills_application, fills_call, no_application, no_call, rest_at_first, rest_at_next, none_at, none_without_term, none_without_note, rest_at_end}
use Rattle.sy_grammar.proofs.fill.+fill.Goals as goal

pub fill-returns-in-Const : goal.fill-returns-in-Const
fill-returns-in-Const g t c = rw (c.in-Const.is, pattern_of-Const) (fills_constant _ _ _ _ _ _ c.is_constant.ensures)

pub fill-returns-in-Var : goal.fill-returns-in-Var
fill-returns-in-Var g t c = rw (c.in-Var.is, pattern_of-Var) (fills_variable _ _ _ _ _ _ c.is_variable.ensures)

pub fill-returns-in_ok-done-in-Non : goal.fill-returns-in_ok-done-in-Non
fill-returns-in_ok-done-in-Non g t c = rw (c.in-Non.is, pattern_of-Non) (fills_occurrence _ _ _ _ _ _ _ c.in_ok-done-in-Non.ensures)

pub fill-returns-in_ok-done-in-Some : goal.fill-returns-in_ok-done-in-Some
fill-returns-in_ok-done-in-Some g t c = rw (c.in-App.is, pattern_of-App) (fills_application _ _ _ _ _ _ _ _ _ c.in-Some.ensures c.in_ok-done-in-Some.ensures)

pub fill-returns-in-None : goal.fill-returns-in-None
fill-returns-in-None g t c = rw (c.in-App.is, pattern_of-App) (no_application _ _ _ _ _ c.in-None.ensures)

pub fill-returns-in_ok-done-in-Some-called : goal.fill-returns-in_ok-done-in-Some-called
fill-returns-in_ok-done-in-Some-called g t c = rw (c.in-Call.is, pattern_of-Call) (fills_call _ _ _ _ _ _ _ _ _ c.in-Some-called.ensures c.in_ok-done-in-Some-called.ensures)

pub fill-returns-in-None-called : goal.fill-returns-in-None-called
fill-returns-in-None-called g t c = rw (c.in-Call.is, pattern_of-Call) (no_call _ _ _ _ _ c.in-None-called.ensures)

pub fill_all-loop-i-init : goal.fill_all-loop-i-init
fill_all-loop-i-init g t c = rw (← c.as_slice-part-items.ensures) (rest_at_first g.T.Theory.denotes c.as_slice-part-items.result.now c.args.terms.now.items.items c.args.below.now c.args.steps.now.items)

pub fill_all-returns-in_default : goal.fill_all-returns-in_default
fill_all-returns-in_default g t c =
    none_without_term g.T.Theory.denotes c.as_slice-part-items.result.now c.args.terms.now.items.items c.args.below.now _ c.loop-i.i c.part-item.result _ _
    (slice_get_read _ _ _ _ refl c.loop-i-test.true c.part-item.is) c.in_default.ensures c.loop-i.invariant

pub fill_all-returns-in_default-get : goal.fill_all-returns-in_default-get
fill_all-returns-in_default-get g t c =
    none_without_note g.T.Theory.denotes c.as_slice-part-items.result.now c.args.terms.now.items.items c.args.below.now _ c.loop-i.i c.part-item.result c.in-Some.term.now _ _
    (slice_get_read _ _ _ _ refl c.loop-i-test.true c.part-item.is) c.in-Some.ensures c.in_default-get.ensures.lookup.3 c.loop-i.invariant

pub fill_all-returns-then-not-done : goal.fill_all-returns-then-not-done
fill_all-returns-then-not-done g t c =
    none_at g.T.Theory.denotes c.as_slice-part-items.result.now c.args.terms.now.items.items c.args.below.now _ c.loop-i.i c.part-item.result c.in-Some.term.now c.in-Some-get.note.now _ c.below.result.now _ _ _ _
    (slice_get_read _ _ _ _ refl c.loop-i-test.true c.part-item.is) c.in-Some.ensures (slice_get_read _ _ _ _ refl c.in-Some-get.ensures.lookup.3.0 c.in-Some-get.ensures.lookup.1)
    c.row.ensures c.below.ensures c.loop-i.invariant c.in_ok-done.ensures c.if-not-done.true

pub fill_all-loop-i-preserved : goal.fill_all-loop-i-preserved
fill_all-loop-i-preserved g t c =
    rest_at_next g.T.Theory.denotes c.as_slice-part-items.result.now c.args.terms.now.items.items c.args.below.now _ c.loop-i.i c.part-item.result c.in-Some.term.now c.in-Some-get.note.now _ c.below.result.now _ _ _ _
    (slice_get_read _ _ _ _ refl c.loop-i-test.true c.part-item.is) c.in-Some.ensures (slice_get_read _ _ _ _ refl c.in-Some-get.ensures.lookup.3.0 c.in-Some-get.ensures.lookup.1)
    c.row.ensures c.below.ensures c.loop-i.invariant c.in_ok-done.ensures c.if-not-done.false

pub fill_all-returns : goal.fill_all-returns
fill_all-returns g t c =
    let parts_end : c.loop-i.i ≡ length c.as_slice-part-items.result.now = omega (arith, c.loop-i-test.false, c.loop-i.auto.i-end) in
    let parts_len : c.len-2.result ≡ c.loop-i.i = omega (arith, c.len-2.ensures, ap length c.as_slice-part-items.ensures) in
    rest_at_end g.T.Theory.denotes c.as_slice-part-items.result.now c.args.terms.now.items.items c.args.below.now _ c.loop-i.i _ _ _
    c.loop-i-test.false (λ h. let le = leb-true c.len.result c.len-2.result h in omega (arith, c.len.ensures), λ h. le-leb c.len.result c.len-2.result (omega (arith, c.len.ensures))) c.loop-i.invariant

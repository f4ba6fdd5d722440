use Rattle.std.proofs.Common.{◌≡◌, ◌∙◌, ap, sym, refl, arith, length}
use Rattle.std.proofs.lemmas.Option.{slice_get_read}
use Rattle.sy_terms.specs.Definitions.{scope_of, signature}
use Rattle.sy_grammar_base.specs.Formed.{pattern_sort, syntax_with}
use Rattle.sy_grammar.specs.declared.seen.Seen.TheVariants.{Nothing}
use Rattle.sy_grammar_base.specs.Written.{pattern_of-Const, pattern_of-Var, pattern_of-Non, pattern_of-App, pattern_of-Call}
use Rattle.sy_grammar.proofs.Fitted.{where_true, where_false, applied_found, applied_missing, called_found, called_amiss, called_missing, seen_first, seen_next, seen_none, seen_all, taken_first, taken_next, taken_other, taken_none, taken_past, taken_all}
use Rattle.sy_grammar.proofs.fitting.+part_sort.Goals as goal

pub part_sort-returns-in-Const : goal.part_sort-returns-in-Const
unfolding pattern_sort
part_sort-returns-in-Const g t c = rw (c.in-Const.is, pattern_of-Const) c.constant_sort.ensures

pub part_sort-returns-in-Var : goal.part_sort-returns-in-Var
unfolding pattern_sort
part_sort-returns-in-Var g t c = rw (c.in-Var.is, pattern_of-Var) c.argument_sort.ensures

pub part_sort-returns-in-Non : goal.part_sort-returns-in-Non
unfolding pattern_sort
part_sort-returns-in-Non g t c = rw (c.in-Non.is, pattern_of-Non) c.nonterminal_sort.ensures

pub part_sort-returns-in_ok-seen_sorts-in-App : goal.part_sort-returns-in_ok-seen_sorts-in-App
unfolding pattern_sort
part_sort-returns-in_ok-seen_sorts-in-App g t c = rw (c.in-App.is, pattern_of-App) (c.sort_under.ensures ∙ applied_found (scope_of g.T.Theory.owned c.args.defs.now) c.in-App.operator _ c.in_ok-seen_sorts-in-App.field-0 c.in_ok-seen_sorts-in-App.ensures ∙ sym (where_true _ _ _ (sym c.is_linear.ensures ∙ c.if-is_linear.true)))

pub part_sort-returns-in_err-seen_sorts-in-App : goal.part_sort-returns-in_err-seen_sorts-in-App
unfolding pattern_sort
part_sort-returns-in_err-seen_sorts-in-App g t c = rw (c.in-App.is, pattern_of-App) (c.from_residual.ensures ∙ applied_missing (scope_of g.T.Theory.owned c.args.defs.now) c.in-App.operator _ c.in_err-seen_sorts-in-App.ensures ∙ sym (where_true _ _ _ (sym c.is_linear.ensures ∙ c.if-is_linear.true)))

pub part_sort-returns-else-is_linear : goal.part_sort-returns-else-is_linear
unfolding pattern_sort
part_sort-returns-else-is_linear g t c = rw (c.in-App.is, pattern_of-App) (sym (where_false _ _ _ (sym c.is_linear.ensures ∙ c.if-is_linear.false)))

pub part_sort-returns-in_err-def-in-Call : goal.part_sort-returns-in_err-def-in-Call
unfolding pattern_sort
part_sort-returns-in_err-def-in-Call g t c = rw (c.in-Call.is, pattern_of-Call) (c.from_residual-in_err-def-in-Call.ensures ∙ called_missing _ _ c.in_err-def-in-Call.ensures)

pub part_sort-returns-then-have_sorts : goal.part_sort-returns-then-have_sorts
unfolding pattern_sort
part_sort-returns-then-have_sorts g t c = rw (c.in-Call.is, pattern_of-Call) (called_found (signature c.in_ok-def-in-Call.def.now) c.as_slice.result.now _ _ c.in_ok-def-in-Call.ensures c.as_slice.ensures (sym c.have_sorts.ensures ∙ c.if-have_sorts.true))

pub part_sort-returns-else-have_sorts : goal.part_sort-returns-else-have_sorts
unfolding pattern_sort
part_sort-returns-else-have_sorts g t c = rw (c.in-Call.is, pattern_of-Call) (called_amiss (signature c.in_ok-def-in-Call.def.now) c.as_slice.result.now _ _ c.in_ok-def-in-Call.ensures c.as_slice.ensures (sym c.have_sorts.ensures ∙ c.if-have_sorts.false))

pub seen_sorts-loop-part-init : goal.seen_sorts-loop-part-init
seen_sorts-loop-part-init g t c = rw (← c.as_slice-part-items.ensures) (seen_first g.T.Theory.denotes (scope_of g.T.Theory.owned c.args.defs.now) (syntax_with g.T.Theory.denotes c.args.args.now c.args.nons.now) Nothing c.as_slice-part-items.result.now)

pub seen_sorts-loop-part-preserved : goal.seen_sorts-loop-part-preserved
seen_sorts-loop-part-preserved g t c = rw (c.with-seen.ensures) (seen_next g.T.Theory.denotes (scope_of g.T.Theory.owned c.args.defs.now) (syntax_with g.T.Theory.denotes c.args.args.now c.args.nons.now) c.as_slice-part-items.result.now c.loop-part.part-index c.part-item.result c.in_ok-sort.sort c.loop-part.seen _ (slice_get_read _ _ _ _ refl c.loop-part-test.true c.part-item.is) c.in_ok-sort.ensures c.loop-part.invariant)

pub seen_sorts-returns-in_err-sort : goal.seen_sorts-returns-in_err-sort
seen_sorts-returns-in_err-sort g t c = c.from_residual.ensures ∙ seen_none g.T.Theory.denotes (scope_of g.T.Theory.owned c.args.defs.now) (syntax_with g.T.Theory.denotes c.args.args.now c.args.nons.now) c.as_slice-part-items.result.now c.loop-part.part-index c.part-item.result c.loop-part.seen _ (slice_get_read _ _ _ _ refl c.loop-part-test.true c.part-item.is) c.in_err-sort.ensures c.loop-part.invariant

pub seen_sorts-returns : goal.seen_sorts-returns
seen_sorts-returns g t c = seen_all g.T.Theory.denotes (scope_of g.T.Theory.owned c.args.defs.now) (syntax_with g.T.Theory.denotes c.args.args.now c.args.nons.now) c.as_slice-part-items.result.now c.loop-part.part-index c.loop-part.seen _ c.loop-part-test.false c.loop-part.invariant

pub have_sorts-loop-i-init : goal.have_sorts-loop-i-init
have_sorts-loop-i-init g t c = rw (← c.as_slice-part-items.ensures) (taken_first g.T.Theory.denotes (scope_of g.T.Theory.owned c.args.defs.now) (syntax_with g.T.Theory.denotes c.args.args.now c.args.nons.now) c.args.wanted.now c.as_slice-part-items.result.now)

pub have_sorts-loop-i-preserved : goal.have_sorts-loop-i-preserved
have_sorts-loop-i-preserved g t c = taken_next g.T.Theory.denotes (scope_of g.T.Theory.owned c.args.defs.now) (syntax_with g.T.Theory.denotes c.args.args.now c.args.nons.now) c.as_slice-part-items.result.now c.args.wanted.now c.loop-i.i c.part-item.result c.in-Some.sort.now c.in-Some-part_sort.found _ (slice_get_read _ _ _ _ refl c.loop-i-test.true c.part-item.is) (slice_get_read _ _ _ _ refl c.in-Some.ensures.lookup.3.0 c.in-Some.ensures.lookup.1) c.in-Some-part_sort.ensures (sym c.same_sort.ensures ∙ c.if-not-same_sort.false) c.loop-i.invariant

pub have_sorts-returns-in_default : goal.have_sorts-returns-in_default
have_sorts-returns-in_default g t c = taken_past g.T.Theory.denotes (scope_of g.T.Theory.owned c.args.defs.now) (syntax_with g.T.Theory.denotes c.args.args.now c.args.nons.now) c.as_slice-part-items.result.now c.args.wanted.now c.loop-i.i c.part-item.result _ (slice_get_read _ _ _ _ refl c.loop-i-test.true c.part-item.is) c.in_default.ensures.lookup.3 c.loop-i.invariant

pub have_sorts-returns-in_default-part_sort : goal.have_sorts-returns-in_default-part_sort
have_sorts-returns-in_default-part_sort g t c = taken_none g.T.Theory.denotes (scope_of g.T.Theory.owned c.args.defs.now) (syntax_with g.T.Theory.denotes c.args.args.now c.args.nons.now) c.as_slice-part-items.result.now c.args.wanted.now c.loop-i.i c.part-item.result _ (slice_get_read _ _ _ _ refl c.loop-i-test.true c.part-item.is) c.in_default-part_sort.ensures c.loop-i.invariant

pub have_sorts-returns-then-not-same_sort : goal.have_sorts-returns-then-not-same_sort
have_sorts-returns-then-not-same_sort g t c = taken_other g.T.Theory.denotes (scope_of g.T.Theory.owned c.args.defs.now) (syntax_with g.T.Theory.denotes c.args.args.now c.args.nons.now) c.as_slice-part-items.result.now c.args.wanted.now c.loop-i.i c.part-item.result c.in-Some.sort.now c.in-Some-part_sort.found _ (slice_get_read _ _ _ _ refl c.loop-i-test.true c.part-item.is) (slice_get_read _ _ _ _ refl c.in-Some.ensures.lookup.3.0 c.in-Some.ensures.lookup.1) c.in-Some-part_sort.ensures (sym c.same_sort.ensures ∙ c.if-not-same_sort.true) c.loop-i.invariant

pub have_sorts-returns : goal.have_sorts-returns
have_sorts-returns g t c =
    let parts_end : c.loop-i.i ≡ length c.as_slice-part-items.result.now = omega (arith, c.loop-i-test.false, c.loop-i.auto.i-end) in
    let parts_len : c.len.result ≡ c.loop-i.i = omega (arith, c.len.ensures, ap length c.as_slice-part-items.ensures) in
    rw parts_len (taken_all g.T.Theory.denotes (scope_of g.T.Theory.owned c.args.defs.now) (syntax_with g.T.Theory.denotes c.args.args.now c.args.nons.now) c.as_slice-part-items.result.now c.args.wanted.now c.loop-i.i _ c.loop-i-test.false c.loop-i.invariant)

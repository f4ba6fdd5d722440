use Rattle.std.proofs.Common.{◌∙◌, refl, sym, ap, arith, length, take, ◌++◌}
use Rattle.std.proofs.lemmas.Result.{err_from_is_err_and}
use Rattle.sy_text_items.specs.Items.{Items, listed}
use Rattle.sy_text_items.specs.Views.{item_of}
use Rattle.sy_forms.specs.Gathered.{several_of, bounds_of, bound_of}
use Rattle.sy_forms_items.specs.Meant.{typed_of}
use Rattle.sy_forms_items.specs.Phrases.{behind}
use Rattle.sy_forms_items.specs.Seen.{environment_of}
use Rattle.sy_forms.specs.Heads.{head_in}
use Rattle.sy_forms.specs.Terms as spec
use Rattle.sy_forms_items.specs.Views.{items_in}
use Rattle.sy_forms_items.proofs.Readings as readings
use Rattle.sy_forms.proofs.Forms as form
use Rattle.sy_forms.proofs.Sizes.{item_size-pos, split_size, inside, parts_size, let_parts-size, binding_size, binding_parts-size}
use Rattle.sy_forms.proofs.term.+reading.Goals as goal

pub read_term-atom_term-requires : goal.read_term-atom_term-requires
read_term-atom_term-requires g t c =
    c.requires

pub read_term-read_list-requires : goal.read_term-read_list-requires
read_term-read_list-requires g t c κs within =
    (omega (arith, inside (item_of c.args.item.now) c.in-List.items c.in-List.place (items_in c.all.result) (ap item_of c.in-List.is) c.all.ensures, c.decreases), (within.0, (within.1, c.requires)))

pub read_term-returns-in-Atom-clause-read : goal.read_term-returns-in-Atom-clause-read
read_term-returns-in-Atom-clause-read g t c =
    readings.gives_same _ _ _ _ (form.term_leaf (environment_of c.args.env.now) c.args.locals.now (item_of c.args.item.now) c.in-Atom.atom c.in-Atom.place (ap item_of c.in-Atom.is)) c.atom_term.ensures

pub read_term-returns-in-Atom-clause-locals : goal.read_term-returns-in-Atom-clause-locals
read_term-returns-in-Atom-clause-locals g t c =
    form.on_ok _ _ refl

pub read_term-returns-in-List-clause-read : goal.read_term-returns-in-List-clause-read
read_term-returns-in-List-clause-read g t c =
    readings.gives_same _ _ _ _ (form.term_group (environment_of c.args.env.now) c.args.locals.now (item_of c.args.item.now) c.in-List.items c.in-List.place (items_in c.all.result) (ap item_of c.in-List.is) c.all.ensures) c.read_list.ensures.read

pub read_term-returns-in-List-clause-locals : goal.read_term-returns-in-List-clause-locals
read_term-returns-in-List-clause-locals g t c =
    c.read_list.ensures.locals

pub read_list-returns-in_default-clause-read : goal.read_list-returns-in_default-clause-read
read_list-returns-in_default-clause-read g t c =
    form.list_none (environment_of c.args.env.now) c.args.locals.now c.args.place (items_in c.args.items) c.in_default.ensures

pub read_list-returns-then-not-let_may_stand-clause-read : goal.read_list-returns-then-not-let_may_stand-clause-read
read_list-returns-then-not-let_may_stand-clause-read g t c =
    form.list_no_let (environment_of c.args.env.now) c.args.locals.now c.args.place (items_in c.args.items) (item_of c.in-Some.head.now) (items_in c.in-Some.rest) c.in-Some.ensures (sym c.is_symbol.ensures ∙ c.if-is_symbol.true) (sym c.let_may_stand.ensures ∙ c.if-not-let_may_stand.true)

pub read_list-read_let-requires : goal.read_list-read_let-requires
read_list-read_let-requires g t c κs within =
    (omega (arith, split_size (items_in c.args.items) (item_of c.in-Some.head.now) (items_in c.in-Some.rest) c.in-Some.ensures, item_size-pos (item_of c.in-Some.head.now), c.decreases), (within.0, (within.1, c.requires)))

pub read_list-returns-then-is_symbol-clause-read : goal.read_list-returns-then-is_symbol-clause-read
read_list-returns-then-is_symbol-clause-read g t c =
    readings.gives_same _ _ _ _ (form.list_let (environment_of c.args.env.now) c.args.locals.now c.args.place (items_in c.args.items) (item_of c.in-Some.head.now) (items_in c.in-Some.rest) c.in-Some.ensures (sym c.is_symbol.ensures ∙ c.if-is_symbol.true) (sym c.let_may_stand.ensures ∙ c.if-not-let_may_stand.false)) c.read_let.ensures.read

pub read_list-returns-then-is_symbol-clause-locals : goal.read_list-returns-then-is_symbol-clause-locals
read_list-returns-then-is_symbol-clause-locals g t c =
    c.read_let.ensures.locals

pub read_list-indexed_term-requires : goal.read_list-indexed_term-requires
read_list-indexed_term-requires g t c =
    c.requires

pub read_list-returns-then-is_symbol-2-clause-read : goal.read_list-returns-then-is_symbol-2-clause-read
read_list-returns-then-is_symbol-2-clause-read g t c =
    readings.gives_same _ _ _ _ (form.list_indexed (environment_of c.args.env.now) c.args.locals.now c.args.place (items_in c.args.items) (item_of c.in-Some.head.now) (items_in c.in-Some.rest) c.in-Some.ensures (sym c.is_symbol.ensures ∙ c.if-is_symbol.false) (sym c.is_symbol-2.ensures ∙ c.if-is_symbol-2.true) ∙ ap (spec.indexed_term c.args.env.now.logic c.args.place) (sym c.indexed_name.ensures)) c.indexed_term.ensures

pub read_list-returns-then-is_symbol-2-clause-locals : goal.read_list-returns-then-is_symbol-2-clause-locals
read_list-returns-then-is_symbol-2-clause-locals g t c =
    form.on_ok _ _ refl

pub read_list-returns-in_err-head-clause-read : goal.read_list-returns-in_err-head-clause-read
read_list-returns-in_err-head-clause-read g t c =
    let p = err_from_is_err_and c.from_residual.result c.from_residual.ensures.1 in
    rw (p.1, p.2) (readings.fails_same c.in_err-head.field-0.0 _ _ (form.list_applied (environment_of c.args.env.now) c.args.locals.now c.args.place (items_in c.args.items) (item_of c.in-Some.head.now) (items_in c.in-Some.rest) c.in-Some.ensures (sym c.is_symbol.ensures ∙ c.if-is_symbol.false) (sym c.is_symbol-2.ensures ∙ c.if-is_symbol-2.false)) (readings.fails_bind c.in_err-head.field-0.0 _ _ c.in_err-head.ensures))

pub read_list-returns-in_err-head-clause-locals : goal.read_list-returns-in_err-head-clause-locals
read_list-returns-in_err-head-clause-locals g t c =
    let p = err_from_is_err_and c.from_residual.result c.from_residual.ensures.1 in
    rw (p.1) tt

pub read_list-read_terms-requires : goal.read_list-read_terms-requires
read_list-read_terms-requires g t c κs within =
    (omega (arith, split_size (items_in c.args.items) (item_of c.in-Some.head.now) (items_in c.in-Some.rest) c.in-Some.ensures, item_size-pos (item_of c.in-Some.head.now), c.decreases), (within.0, (within.1, c.requires)))

pub read_list-returns-in_err-arguments-clause-read : goal.read_list-returns-in_err-arguments-clause-read
read_list-returns-in_err-arguments-clause-read g t c =
    let p = err_from_is_err_and c.from_residual-in_err-arguments.result c.from_residual-in_err-arguments.ensures.1 in
    rw (p.1, p.2) (readings.fails_same c.in_err-arguments.field-0.0 _ _ (form.list_applied (environment_of c.args.env.now) c.args.locals.now c.args.place (items_in c.args.items) (item_of c.in-Some.head.now) (items_in c.in-Some.rest) c.in-Some.ensures (sym c.is_symbol.ensures ∙ c.if-is_symbol.false) (sym c.is_symbol-2.ensures ∙ c.if-is_symbol-2.false)) (readings.fails_next c.in_err-arguments.field-0.0 _ (head_in c.in_ok-head.head) _ c.in_ok-head.ensures (readings.fails_bind c.in_err-arguments.field-0.0 _ _ c.in_err-arguments.ensures.read)))

pub read_list-returns-in_err-arguments-clause-locals : goal.read_list-returns-in_err-arguments-clause-locals
read_list-returns-in_err-arguments-clause-locals g t c =
    let p = err_from_is_err_and c.from_residual-in_err-arguments.result c.from_residual-in_err-arguments.ensures.1 in
    rw (p.1) tt

pub read_list-returns-clause-read : goal.read_list-returns-clause-read
read_list-returns-clause-read g t c =
    readings.gives_same _ _ _ _ (form.list_applied (environment_of c.args.env.now) c.args.locals.now c.args.place (items_in c.args.items) (item_of c.in-Some.head.now) (items_in c.in-Some.rest) c.in-Some.ensures (sym c.is_symbol.ensures ∙ c.if-is_symbol.false) (sym c.is_symbol-2.ensures ∙ c.if-is_symbol-2.false)) (readings.gives_next _ _ _ (head_in c.in_ok-head.head) _ c.in_ok-head.ensures (readings.gives_next _ _ _ (several_of g.T.Theory.denotes c.in_ok-arguments.arguments) _ c.in_ok-arguments.ensures.read c.applied.ensures))

pub read_list-returns-clause-locals : goal.read_list-returns-clause-locals
read_list-returns-clause-locals g t c =
    form.on_ok _ _ c.in_ok-arguments.ensures.locals

pub read_terms-loop-item-init : goal.read_terms-loop-item-init
read_terms-loop-item-init g t c =
    record {
      reads = ap (λ d. spec.read_terms (environment_of c.args.env.now) c.args.locals.now d (items_in c.args.items)) c.new-done.ensures;
      kept = refl;
      size = omega arith;
    }

pub read_terms-read_term-requires : goal.read_terms-read_term-requires
read_terms-read_term-requires g t c κs within =
    (omega (arith, split_size (items_in c.loop-item.left) (item_of c.in-Some.item.now) (items_in c.in-Some.rest) c.in-Some.ensures, c.loop-item.invariant.size, c.decreases), (within.0, (within.1, c.requires)))

pub read_terms-returns-in_err-term-clause-read : goal.read_terms-returns-in_err-term-clause-read
read_terms-returns-in_err-term-clause-read g t c =
    let p = err_from_is_err_and c.from_residual.result c.from_residual.ensures.1 in
    rw (p.1, p.2) (readings.fails_same c.in_err-term.field-0.0 _ _ (sym c.loop-item.invariant.reads ∙ form.terms_more (environment_of c.args.env.now) c.args.locals.now (several_of g.T.Theory.denotes c.loop-item.done) (items_in c.loop-item.left) (item_of c.in-Some.item.now) (items_in c.in-Some.rest) c.in-Some.ensures) (readings.fails_bind c.in_err-term.field-0.0 _ _ (readings.fails_same c.in_err-term.field-0.0 _ _ (ap (λ l. spec.read_term (environment_of c.args.env.now) l (item_of c.in-Some.item.now)) (sym c.loop-item.invariant.kept)) c.in_err-term.ensures.read)))

pub read_terms-returns-in_err-term-clause-locals : goal.read_terms-returns-in_err-term-clause-locals
read_terms-returns-in_err-term-clause-locals g t c =
    let p = err_from_is_err_and c.from_residual.result c.from_residual.ensures.1 in
    rw (p.1) tt

pub read_terms-returns-in_err-push-clause-read : goal.read_terms-returns-in_err-push-clause-read
read_terms-returns-in_err-push-clause-read g t c =
    let p = err_from_is_err_and c.from_residual-in_err-push.result c.from_residual-in_err-push.ensures.1 in
    rw (p.1, p.2) (tt)

pub read_terms-returns-in_err-push-clause-locals : goal.read_terms-returns-in_err-push-clause-locals
read_terms-returns-in_err-push-clause-locals g t c =
    let p = err_from_is_err_and c.from_residual-in_err-push.result c.from_residual-in_err-push.ensures.1 in
    rw (p.1) tt

pub read_terms-loop-item-smaller : goal.read_terms-loop-item-smaller
read_terms-loop-item-smaller g t c =
    omega (arith, ap (λ (i : Items). length (listed i)) c.in-Some.ensures)

pub read_terms-loop-item-preserved : goal.read_terms-loop-item-preserved
read_terms-loop-item-preserved g t c =
    let is = ap (λ l. spec.read_term (environment_of c.args.env.now) l (item_of c.in-Some.item.now)) (sym c.loop-item.invariant.kept) ∙ c.in_ok-term.ensures.read in
    record {
      reads = ap (λ d. spec.read_terms (environment_of c.args.env.now) c.args.locals.now d (items_in c.in-Some.rest)) c.in_ok-push.ensures
          ∙ sym (readings.bound (spec.read_term (environment_of c.args.env.now) c.args.locals.now (item_of c.in-Some.item.now)) (typed_of g.T.Theory.denotes c.in_ok-term.term) (λ y. spec.read_terms (environment_of c.args.env.now) c.args.locals.now (behind (several_of g.T.Theory.denotes c.loop-item.done) y) (items_in c.in-Some.rest)) is)
          ∙ sym (form.terms_more (environment_of c.args.env.now) c.args.locals.now (several_of g.T.Theory.denotes c.loop-item.done) (items_in c.loop-item.left) (item_of c.in-Some.item.now) (items_in c.in-Some.rest) c.in-Some.ensures) ∙ c.loop-item.invariant.reads;
      kept = c.in_ok-term.ensures.locals ∙ c.loop-item.invariant.kept;
      size = omega (arith, split_size (items_in c.loop-item.left) (item_of c.in-Some.item.now) (items_in c.in-Some.rest) c.in-Some.ensures, c.loop-item.invariant.size);
    }

pub read_terms-returns-clause-read : goal.read_terms-returns-clause-read
read_terms-returns-clause-read g t c =
    sym c.loop-item.invariant.reads ∙ form.terms_none (environment_of c.args.env.now) c.args.locals.now (several_of g.T.Theory.denotes c.loop-item.done) (items_in c.loop-item.left) c.in_default.ensures

pub read_terms-returns-clause-locals : goal.read_terms-returns-clause-locals
read_terms-returns-clause-locals g t c =
    c.loop-item.invariant.kept

pub read_let-returns-in_err-bindings-clause-read : goal.read_let-returns-in_err-bindings-clause-read
read_let-returns-in_err-bindings-clause-read g t c =
    let p = err_from_is_err_and c.from_residual.result c.from_residual.ensures.1 in
    rw (p.1, p.2) (readings.fails_same c.in_err-bindings.field-0.0 _ _ (form.let_parted (environment_of c.args.env.now) c.args.locals.now c.args.place (items_in c.args.items)) (readings.fails_bind c.in_err-bindings.field-0.0 _ _ c.in_err-bindings.ensures))

pub read_let-returns-in_err-bindings-clause-locals : goal.read_let-returns-in_err-bindings-clause-locals
read_let-returns-in_err-bindings-clause-locals g t c =
    let p = err_from_is_err_and c.from_residual.result c.from_residual.ensures.1 in
    rw (p.1) tt

pub read_let-read_bindings-requires : goal.read_let-read_bindings-requires
read_let-read_bindings-requires g t c κs within =
    (omega (arith, ap parts_size c.in_ok-bindings.ensures, let_parts-size c.args.place (items_in c.args.items), c.decreases), (within.0, (within.1, c.requires)))

pub read_let-returns-in_err-bound-clause-read : goal.read_let-returns-in_err-bound-clause-read
read_let-returns-in_err-bound-clause-read g t c =
    let p = err_from_is_err_and c.from_residual-in_err-bound.result c.from_residual-in_err-bound.ensures.1 in
    rw (p.1, p.2) (readings.fails_same c.in_err-bound.field-0.0 _ _ (form.let_parted (environment_of c.args.env.now) c.args.locals.now c.args.place (items_in c.args.items)) (readings.fails_next c.in_err-bound.field-0.0 _ (items_in c.in_ok-bindings.bindings, item_of c.in_ok-bindings.inner.now) _ c.in_ok-bindings.ensures (readings.fails_bind c.in_err-bound.field-0.0 _ _ c.in_err-bound.ensures.read)))

pub read_let-returns-in_err-bound-clause-locals : goal.read_let-returns-in_err-bound-clause-locals
read_let-returns-in_err-bound-clause-locals g t c =
    let p = err_from_is_err_and c.from_residual-in_err-bound.result c.from_residual-in_err-bound.ensures.1 in
    rw (p.1) tt

pub read_let-read_inner-requires : goal.read_let-read_inner-requires
read_let-read_inner-requires g t c κs within =
    (omega (arith, ap parts_size c.in_ok-bindings.ensures, let_parts-size c.args.place (items_in c.args.items), c.decreases), (within.0, (within.1, c.requires)))

pub read_let-returns-clause-read : goal.read_let-returns-clause-read
read_let-returns-clause-read g t c =
    readings.gives_same _ _ _ _
    (form.let_parted (environment_of c.args.env.now) c.args.locals.now c.args.place (items_in c.args.items) ∙ readings.bound _ (items_in c.in_ok-bindings.bindings, item_of c.in_ok-bindings.inner.now) _ c.in_ok-bindings.ensures
    ∙ readings.bound _ (bounds_of g.T.Theory.denotes c.in_ok-bound.bound) (λ bs. spec.read_inner (environment_of c.args.env.now) c.args.locals.now bs (item_of c.in_ok-bindings.inner.now)) c.in_ok-bound.ensures.read
    ∙ ap (λ l. spec.read_inner (environment_of c.args.env.now) l (bounds_of g.T.Theory.denotes c.in_ok-bound.bound) (item_of c.in_ok-bindings.inner.now)) (sym c.in_ok-bound.ensures.locals))
    c.read_inner.ensures.read

pub read_let-returns-clause-locals : goal.read_let-returns-clause-locals
read_let-returns-clause-locals g t c =
    rw (← c.in_ok-bound.ensures.locals) c.read_inner.ensures.locals

pub read_inner-returns-in_err-append-clause-read : goal.read_inner-returns-in_err-append-clause-read
read_inner-returns-in_err-append-clause-read g t c =
    let p = err_from_is_err_and c.from_residual.result c.from_residual.ensures.1 in
    rw (p.1, p.2) (tt)

pub read_inner-returns-in_err-append-clause-locals : goal.read_inner-returns-in_err-append-clause-locals
read_inner-returns-in_err-append-clause-locals g t c =
    let p = err_from_is_err_and c.from_residual.result c.from_residual.ensures.1 in
    rw (p.1) tt

pub read_inner-read_term-requires : goal.read_inner-read_term-requires
read_inner-read_term-requires g t c κs within =
    (omega (arith, c.decreases), (within.0, (within.1, c.requires)))

pub read_inner-returns-in_err-inner-clause-read : goal.read_inner-returns-in_err-inner-clause-read
read_inner-returns-in_err-inner-clause-read g t c =
    let p = err_from_is_err_and c.from_residual-in_err-inner.result c.from_residual-in_err-inner.ensures.1 in
    rw (p.1, p.2) (readings.fails_bind c.in_err-inner.field-0.0 _ _ (readings.fails_same c.in_err-inner.field-0.0 _ _ (ap (λ l. spec.read_term (environment_of c.args.env.now) l (item_of c.args.inner.now)) (sym c.in_ok-append.ensures)) c.in_err-inner.ensures.read))

pub read_inner-returns-in_err-inner-clause-locals : goal.read_inner-returns-in_err-inner-clause-locals
read_inner-returns-in_err-inner-clause-locals g t c =
    let p = err_from_is_err_and c.from_residual-in_err-inner.result c.from_residual-in_err-inner.ensures.1 in
    rw (p.1) tt

pub read_inner-returns-clause-read : goal.read_inner-returns-clause-read
read_inner-returns-clause-read g t c =
    readings.gives_same _ _ _ _
    (readings.bound (spec.read_term (environment_of c.args.env.now) (c.args.locals.now ++ c.args.bound.names) (item_of c.args.inner.now)) (typed_of g.T.Theory.denotes c.in_ok-inner.inner) (λ y. spec.let_term (bounds_of g.T.Theory.denotes c.args.bound) y)
    (ap (λ l. spec.read_term (environment_of c.args.env.now) l (item_of c.args.inner.now)) (sym c.in_ok-append.ensures) ∙ c.in_ok-inner.ensures.read))
    c.closed.ensures.read

pub read_inner-returns-clause-locals : goal.read_inner-returns-clause-locals
read_inner-returns-clause-locals g t c =
    form.on_ok_then c.closed.result c.closed.ensures.locals (λ after.
    after ∙ ap (take c.len-outside.result) (c.in_ok-inner.ensures.locals ∙ c.in_ok-append.ensures) ∙ ap (λ n. take n (c.args.locals.now ++ c.args.bound.names)) c.len-outside.ensures ∙ form.take_front c.args.locals.now c.args.bound.names)

pub read_bindings-loop-item-init : goal.read_bindings-loop-item-init
read_bindings-loop-item-init g t c =
    record {
      reads = ap (λ d. spec.read_bindings (environment_of c.args.env.now) c.args.locals.now d (items_in c.args.items)) c.new-bound.ensures;
      kept = refl;
      size = omega arith;
    }

pub read_bindings-read_binding-requires : goal.read_bindings-read_binding-requires
read_bindings-read_binding-requires g t c κs within =
    (omega (arith, split_size (items_in c.loop-item.left) (item_of c.in-Some.item.now) (items_in c.in-Some.rest) c.in-Some.ensures, c.loop-item.invariant.size, c.decreases), (within.0, (within.1, c.requires)))

pub read_bindings-returns-in_err-binding-clause-read : goal.read_bindings-returns-in_err-binding-clause-read
read_bindings-returns-in_err-binding-clause-read g t c =
    let p = err_from_is_err_and c.from_residual.result c.from_residual.ensures.1 in
    rw (p.1, p.2) (readings.fails_same c.in_err-binding.field-0.0 _ _ (sym c.loop-item.invariant.reads ∙ form.bindings_more (environment_of c.args.env.now) c.args.locals.now (bounds_of g.T.Theory.denotes c.loop-item.bound) (items_in c.loop-item.left) (item_of c.in-Some.item.now) (items_in c.in-Some.rest) c.in-Some.ensures) (readings.fails_bind c.in_err-binding.field-0.0 _ _ (readings.fails_same c.in_err-binding.field-0.0 _ _ (ap (λ l. spec.read_binding (environment_of c.args.env.now) l c.loop-item.bound.names (item_of c.in-Some.item.now)) (sym c.loop-item.invariant.kept)) c.in_err-binding.ensures.read)))

pub read_bindings-returns-in_err-binding-clause-locals : goal.read_bindings-returns-in_err-binding-clause-locals
read_bindings-returns-in_err-binding-clause-locals g t c =
    let p = err_from_is_err_and c.from_residual.result c.from_residual.ensures.1 in
    rw (p.1) tt

pub read_bindings-returns-in_err-push-clause-read : goal.read_bindings-returns-in_err-push-clause-read
read_bindings-returns-in_err-push-clause-read g t c =
    let p = err_from_is_err_and c.from_residual-in_err-push.result c.from_residual-in_err-push.ensures.1 in
    rw (p.1, p.2) (tt)

pub read_bindings-returns-in_err-push-clause-locals : goal.read_bindings-returns-in_err-push-clause-locals
read_bindings-returns-in_err-push-clause-locals g t c =
    let p = err_from_is_err_and c.from_residual-in_err-push.result c.from_residual-in_err-push.ensures.1 in
    rw (p.1) tt

pub read_bindings-loop-item-smaller : goal.read_bindings-loop-item-smaller
read_bindings-loop-item-smaller g t c =
    omega (arith, ap (λ (i : Items). length (listed i)) c.in-Some.ensures)

pub read_bindings-loop-item-preserved : goal.read_bindings-loop-item-preserved
read_bindings-loop-item-preserved g t c =
    let is = ap (λ l. spec.read_binding (environment_of c.args.env.now) l c.loop-item.bound.names (item_of c.in-Some.item.now)) (sym c.loop-item.invariant.kept) ∙ c.in_ok-binding.ensures.read in
    record {
      reads = ap (λ d. spec.read_bindings (environment_of c.args.env.now) c.args.locals.now d (items_in c.in-Some.rest)) c.in_ok-push.ensures
          ∙ sym (readings.bound (spec.read_binding (environment_of c.args.env.now) c.args.locals.now c.loop-item.bound.names (item_of c.in-Some.item.now)) (bound_of g.T.Theory.denotes c.in_ok-binding.binding) (λ y. spec.read_bindings (environment_of c.args.env.now) c.args.locals.now (spec.bound_behind (bounds_of g.T.Theory.denotes c.loop-item.bound) y) (items_in c.in-Some.rest)) is)
          ∙ sym (form.bindings_more (environment_of c.args.env.now) c.args.locals.now (bounds_of g.T.Theory.denotes c.loop-item.bound) (items_in c.loop-item.left) (item_of c.in-Some.item.now) (items_in c.in-Some.rest) c.in-Some.ensures) ∙ c.loop-item.invariant.reads;
      kept = c.in_ok-binding.ensures.locals ∙ c.loop-item.invariant.kept;
      size = omega (arith, split_size (items_in c.loop-item.left) (item_of c.in-Some.item.now) (items_in c.in-Some.rest) c.in-Some.ensures, c.loop-item.invariant.size);
    }

pub read_bindings-returns-clause-read : goal.read_bindings-returns-clause-read
read_bindings-returns-clause-read g t c =
    sym c.loop-item.invariant.reads ∙ form.bindings_none (environment_of c.args.env.now) c.args.locals.now (bounds_of g.T.Theory.denotes c.loop-item.bound) (items_in c.loop-item.left) c.in_default.ensures

pub read_bindings-returns-clause-locals : goal.read_bindings-returns-clause-locals
read_bindings-returns-clause-locals g t c =
    c.loop-item.invariant.kept

pub read_binding-returns-in_err-name-clause-read : goal.read_binding-returns-in_err-name-clause-read
read_binding-returns-in_err-name-clause-read g t c =
    let p = err_from_is_err_and c.from_residual.result c.from_residual.ensures.1 in
    rw (p.1, p.2) (readings.fails_same c.in_err-name.field-0.0 _ _ (form.binding_parted (environment_of c.args.env.now) c.args.locals.now c.args.taken.now (item_of c.args.item.now)) (readings.fails_bind c.in_err-name.field-0.0 _ _ c.in_err-name.ensures))

pub read_binding-returns-in_err-name-clause-locals : goal.read_binding-returns-in_err-name-clause-locals
read_binding-returns-in_err-name-clause-locals g t c =
    let p = err_from_is_err_and c.from_residual.result c.from_residual.ensures.1 in
    rw (p.1) tt

pub read_binding-read_term-requires : goal.read_binding-read_term-requires
read_binding-read_term-requires g t c κs within =
    (omega (arith, ap binding_size c.in_ok-name.ensures, binding_parts-size c.args.env.now.logic c.args.taken.now (item_of c.args.item.now), c.decreases), (within.0, (within.1, c.requires)))

pub read_binding-returns-in_err-term-clause-read : goal.read_binding-returns-in_err-term-clause-read
read_binding-returns-in_err-term-clause-read g t c =
    let p = err_from_is_err_and c.from_residual-in_err-term.result c.from_residual-in_err-term.ensures.1 in
    rw (p.1, p.2) (readings.fails_same c.in_err-term.field-0.0 _ _ (form.binding_parted (environment_of c.args.env.now) c.args.locals.now c.args.taken.now (item_of c.args.item.now)) (readings.fails_next c.in_err-term.field-0.0 _ (c.in_ok-name.name.now, item_of c.in_ok-name.term.now) _ c.in_ok-name.ensures (readings.fails_bind c.in_err-term.field-0.0 _ _ c.in_err-term.ensures.read)))

pub read_binding-returns-in_err-term-clause-locals : goal.read_binding-returns-in_err-term-clause-locals
read_binding-returns-in_err-term-clause-locals g t c =
    let p = err_from_is_err_and c.from_residual-in_err-term.result c.from_residual-in_err-term.ensures.1 in
    rw (p.1) tt

pub read_binding-returns-clause-read : goal.read_binding-returns-clause-read
read_binding-returns-clause-read g t c =
    readings.gives_same _ _ _ _
    (form.binding_parted (environment_of c.args.env.now) c.args.locals.now c.args.taken.now (item_of c.args.item.now) ∙ readings.bound _ (c.in_ok-name.name.now, item_of c.in_ok-name.term.now) _ c.in_ok-name.ensures ∙ readings.bound _ (typed_of g.T.Theory.denotes c.in_ok-term.term) _ c.in_ok-term.ensures.read)
    c.bound_to.ensures

pub read_binding-returns-clause-locals : goal.read_binding-returns-clause-locals
read_binding-returns-clause-locals g t c =
    form.on_ok _ _ c.in_ok-term.ensures.locals

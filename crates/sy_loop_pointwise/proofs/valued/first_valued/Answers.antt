use Rattle.std.proofs.Common.{◌<◌, ◌∙◌, ap, sym, subst, length, Some, refl, arith}
use Rattle.std.proofs.lemmas.List.{get_or-take, length_push, length-take-le}
use Rattle.std.proofs.lemmas.Option.{slice_get-get_or}
use Rattle.std.proofs.lemmas.Result.{IfOk-from_err}
use Rattle.sy_terms.specs.Definitions.{bodies, scope_of}
use Rattle.sy_terms.specs.Denoted.{vals_of}
use Rattle.sy_terms.specs.Meaning.{functions}
use Rattle.sy_loop_pointwise.specs.Denoted.{shape_of, shapes_of}
use Rattle.sy_loop_pointwise.specs.Shapes.{AreBelow, numbers_of, subterms, term_of}
use Rattle.sy_loop_pointwise.proofs.Shaped.{shape_is}
use Rattle.sy_loop_pointwise.specs.Valued.{EachIsValued, IsValued}
use Rattle.sy_loop_pointwise.proofs.Calls.{at_shape}
use Rattle.sy_loop_pointwise.proofs.Values.{each_none, each_more}
use Rattle.sy_loop_pointwise.proofs.valued.first_valued.Goals as goal

pub loop-shape-init : goal.loop-shape-init
loop-shape-init g c =
    let number = g.T.Theory.denotes in
    rw (c.in_ok-found.ensures.items) (record { many = refl; each = each_none number (scope_of g.T.Theory.owned c.args.defs.now) (functions (bodies number c.args.defs.now)) (vals_of number c.args.values.now) (subterms (shapes_of number c.args.shapes.now)) })

pub shape_value-requires-clause-values : goal.shape_value-requires-clause-values
shape_value-requires-clause-values g c = c.requires.values

pub loop-shape-preserved : goal.loop-shape-preserved
loop-shape-preserved g c =
    let number = g.T.Theory.denotes in
    let scope = scope_of g.T.Theory.owned c.args.defs.now in
    let defined = functions (bodies number c.args.defs.now) in
    let values = vals_of number c.args.values.now in
    let shapes = shapes_of number c.args.shapes.now in
    let l = c.loop-shape in
    let found = l.found.items in
    let shape = c.shape-item.result in
    let all = c.args.shapes.now in
    let within : l.shape-index < c.args.count = omega (arith, length-take-le c.args.count all c.requires.count, c.loop-shape-test.true) in
    let there : l.shape-index < length all = omega (arith, within, c.requires.count) in
    let at = at_shape number all l.shape-index shape (slice_get-get_or all l.shape-index shape there ∙ ap Some (sym (c.shape-item.is ∙ get_or-take c.args.count all l.shape-index shape within))) in
    let many = ap length c.as_slice.ensures.value ∙ l.invariant.many in
    let below = subst (λ n. AreBelow n (numbers_of (shape_of number shape))) (sym many) (c.requires.subterms.ordered l.shape-index (shape_of number shape) at) in
    let before = subst (EachIsValued number scope defined values (subterms shapes)) (sym c.as_slice.ensures.value) l.invariant.each in
    let own = c.in_ok-value.ensures (subterms shapes) before below in
    let is = ap (term_of (subterms shapes)) l.invariant.many ∙ shape_is shapes l.shape-index (shape_of number shape) c.requires.subterms at in
    let next = subst (λ e. IsValued number scope defined values e c.in_ok-value.value) (sym is) own in
    rw (c.in_ok-push.ensures.items) (record {
      many = length_push found c.in_ok-value.value ∙ omega (arith, l.invariant.many);
      each = each_more number scope defined values (subterms shapes) found c.in_ok-value.value l.invariant.each next;
    })

pub returns-clause-many : goal.returns-clause-many
returns-clause-many g c = omega (arith, c.loop-shape.invariant.many, c.loop-shape.auto.shape-index-end, c.loop-shape-test.false, length-take-le c.args.count c.args.shapes.now c.requires.count)

pub returns-clause-are : goal.returns-clause-are
returns-clause-are g c = c.loop-shape.invariant.each

pub returns-in_err-found-clause-many : goal.returns-in_err-found-clause-many
returns-in_err-found-clause-many g c = IfOk-from_err c.from_residual.result _ c.from_residual.ensures.0

pub returns-in_err-found-clause-are : goal.returns-in_err-found-clause-are
returns-in_err-found-clause-are g c = IfOk-from_err c.from_residual.result _ c.from_residual.ensures.0

pub returns-in_err-value-clause-many : goal.returns-in_err-value-clause-many
returns-in_err-value-clause-many g c = IfOk-from_err c.from_residual-in_err-value.result _ c.from_residual-in_err-value.ensures.0

pub returns-in_err-value-clause-are : goal.returns-in_err-value-clause-are
returns-in_err-value-clause-are g c = IfOk-from_err c.from_residual-in_err-value.result _ c.from_residual-in_err-value.ensures.0

pub returns-in_err-push-clause-many : goal.returns-in_err-push-clause-many
returns-in_err-push-clause-many g c = IfOk-from_err c.from_residual-in_err-push.result _ c.from_residual-in_err-push.ensures.0

pub returns-in_err-push-clause-are : goal.returns-in_err-push-clause-are
returns-in_err-push-clause-are g c = IfOk-from_err c.from_residual-in_err-push.result _ c.from_residual-in_err-push.ensures.0

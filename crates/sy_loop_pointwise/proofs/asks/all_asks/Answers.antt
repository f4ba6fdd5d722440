use Rattle.std.proofs.Common.{◌∙◌, ap, sym, subst, length, Some, refl, arith}
use Rattle.std.proofs.lemmas.List.{length_push}
use Rattle.std.proofs.lemmas.Option.{slice_get-get_or}
use Rattle.std.proofs.lemmas.Result.{IfOk-from_err}
use Rattle.sy_loop_spec.specs.Applications.{applications}
use Rattle.sy_loop_pointwise.specs.Denoted.{shape_of, shapes_of}
use Rattle.sy_loop_pointwise.specs.Shapes.{AreBelow, numbers_of, subterms, term_of}
use Rattle.sy_loop_pointwise.proofs.Shaped.{shape_is}
use Rattle.sy_loop_pointwise.specs.Asked.{AreApplications, AreKnown}
use Rattle.sy_loop_pointwise.proofs.Calls.{at_shape}
use Rattle.sy_loop_pointwise.proofs.Kept.{known_nothing, known_more}
use Rattle.sy_loop_pointwise.proofs.asks.all_asks.Goals as goal

pub loop-shape-init : goal.loop-shape-init
loop-shape-init g c = rw (c.in_ok-asks.ensures.items) (record { many = refl; known = known_nothing (subterms (shapes_of g.T.Theory.denotes c.args.shapes.now)) })

pub asks_of-own-requires-clause-known : goal.asks_of-own-requires-clause-known
asks_of-own-requires-clause-known g c = subst (AreKnown (subterms (shapes_of g.T.Theory.denotes c.args.shapes.now))) (sym c.as_slice.ensures.value) c.loop-shape.invariant.known

pub asks_of-own-requires-clause-below : goal.asks_of-own-requires-clause-below
asks_of-own-requires-clause-below g c =
    let number = g.T.Theory.denotes in
    let place = c.loop-shape.shape-index in
    let shape = c.shape-item.result in
    let at = at_shape number c.args.shapes.now place shape (slice_get-get_or c.args.shapes.now place shape c.loop-shape-test.true ∙ ap Some (sym c.shape-item.is)) in
    subst (λ n. AreBelow n (numbers_of (shape_of number shape))) (sym (ap length c.as_slice.ensures.value ∙ c.loop-shape.invariant.many)) (c.requires.subterms.ordered place (shape_of number shape) at)

pub asks_of-own-requires-clause-next : goal.asks_of-own-requires-clause-next
asks_of-own-requires-clause-next g c =
    let number = g.T.Theory.denotes in
    let place = c.loop-shape.shape-index in
    let shape = c.shape-item.result in
    let at = at_shape number c.args.shapes.now place shape (slice_get-get_or c.args.shapes.now place shape c.loop-shape-test.true ∙ ap Some (sym c.shape-item.is)) in
    ap (term_of (subterms (shapes_of number c.args.shapes.now))) (ap length c.as_slice.ensures.value ∙ c.loop-shape.invariant.many) ∙ shape_is (shapes_of number c.args.shapes.now) place (shape_of number shape) c.requires.subterms at

pub loop-shape-preserved : goal.loop-shape-preserved
loop-shape-preserved g c =
    let terms = subterms (shapes_of g.T.Theory.denotes c.args.shapes.now) in
    let asks = c.loop-shape.asks.items in
    let own = c.asks_of-own.result in
    let asked = subst (λ all. AreApplications terms (applications (term_of terms (length all))) own) c.as_slice.ensures.value c.asks_of-own.ensures in
    rw (c.in_ok-push.ensures.items) (record { many = length_push asks own ∙ omega (arith, c.loop-shape.invariant.many); known = known_more terms asks own c.loop-shape.invariant.known asked })

pub returns-clause-many : goal.returns-clause-many
returns-clause-many g c = omega (arith, c.loop-shape.invariant.many, c.loop-shape.auto.shape-index-end, c.loop-shape-test.false)

pub returns-clause-known : goal.returns-clause-known
returns-clause-known g c = c.loop-shape.invariant.known

pub returns-in_err-asks-clause-many : goal.returns-in_err-asks-clause-many
returns-in_err-asks-clause-many g c = IfOk-from_err c.from_residual.result _ c.from_residual.ensures.0

pub returns-in_err-asks-clause-known : goal.returns-in_err-asks-clause-known
returns-in_err-asks-clause-known g c = IfOk-from_err c.from_residual.result _ c.from_residual.ensures.0

pub returns-in_err-push-clause-many : goal.returns-in_err-push-clause-many
returns-in_err-push-clause-many g c = IfOk-from_err c.from_residual-in_err-push.result _ c.from_residual-in_err-push.ensures.0

pub returns-in_err-push-clause-known : goal.returns-in_err-push-clause-known
returns-in_err-push-clause-known g c = IfOk-from_err c.from_residual-in_err-push.result _ c.from_residual-in_err-push.ensures.0

use Rattle.std.proofs.Common.{◌≡◌, ◌∙◌, List, [], ◌∷◌, ap, sym, arith, map, slice_get, Some, Err, length-append, subst}
use Rattle.std.proofs.lemmas.List.{length-map}
use Rattle.std.proofs.lemmas.Option.{same_Some}
use Rattle.sy_terms.specs.Values.{Val}
use Rattle.sy_terms.specs.Denoted.{val_of, vals_of, expr_of}
use Rattle.sy_terms.specs.Meaning.{functions}
use Rattle.sy_terms.specs.Definitions.{scope_of, bodies}
use Rattle.sy_terms_operators.specs.Evaluation.{HasValue}
use Rattle.sy_terms_operators.proofs.Steps.{map-both}
use Rattle.sy_bank_level.specs.Rows.{IsLostAt}
use Rattle.sy_bank_columns.proofs.ByPoint.{values-next, point-of}
use Rattle.sy_bank_columns.proofs.Forms.{loss-at, row-of}
use Rattle.sy_bank_columns.proofs.evaluated.term_row.Goals as goal

pub evaluate-requires-clause-values : goal.evaluate-requires-clause-values
evaluate-requires-clause-values g c =
    let at = point-of g.T.Theory.denotes c.args.points.now c.loop-number.number c.index-points-number.result c.loop-number-test.true c.index-points-number.is in
    rw c.as_slice.ensures (c.requires.points c.loop-number.number (vals_of g.T.Theory.denotes c.index-points-number.result) at)

pub evaluate-requires-clause-term : goal.evaluate-requires-clause-term
evaluate-requires-clause-term g c =
    let at = point-of g.T.Theory.denotes c.args.points.now c.loop-number.number c.index-points-number.result c.loop-number-test.true c.index-points-number.is in
    rw c.as_slice.ensures (record { wanted = []; bodies = tt; fits = c.requires.fits c.loop-number.number (vals_of g.T.Theory.denotes c.index-points-number.result) at })

pub returns-in-Err-Range-clause-lost : goal.returns-in-Err-Range-clause-lost
returns-in-Err-Range-clause-lost g c =
    let number = g.T.Theory.denotes in
    let at = point-of number c.args.points.now c.loop-number.number c.index-points-number.result c.loop-number-test.true c.index-points-number.is in
    let can = rw c.as_slice.ensures at (c.evaluate.ensures.range (c.in-Err-Range.is ∙ ap Err c.in-Err-Range.field-0-is)) in
    loss-at c.lost_at.result c.loop-number.number (IsLostAt (functions (bodies number c.args.defs.now)) (map (vals_of number) c.args.points.now) (expr_of number c.args.term.now)) c.lost_at.ensures
    (record { point = vals_of number c.index-points-number.result; at = at; lost = can })

pub loop-number-preserved : goal.loop-number-preserved
loop-number-preserved g c =
    let number = g.T.Theory.denotes in
    let at = point-of number c.args.points.now c.loop-number.number c.index-points-number.result c.loop-number-test.true c.index-points-number.is in
    let fits = c.requires.fits c.loop-number.number (vals_of number c.index-points-number.result) at in
    let gives = rw c.as_slice.ensures at c.in-Ok.ensures.ok in
    let has = gives [] tt fits in
    record {
      sized = rw c.in_ok-push-in-Ok.ensures.items (omega (arith, length-append c.loop-number.row.items (c.in-Ok.value ∷ []), c.loop-number.invariant.sized));
      each =
          rw (c.in_ok-push-in-Ok.ensures.items, map-both number c.loop-number.row.items (c.in-Ok.value ∷ []))
          (values-next (λ k v. (point : List Val) → slice_get (map (vals_of number) c.args.points.now) k ≡ Some point → HasValue (scope_of g.T.Theory.owned c.args.defs.now) (functions (bodies number c.args.defs.now)) [] point (expr_of number c.args.term.now) v)
          (vals_of number c.loop-number.row.items) (val_of number c.in-Ok.value) c.loop-number.number (length-map c.loop-number.row.items (val_of number) ∙ c.loop-number.invariant.sized) c.loop-number.invariant.each
          (λ point here. let same : vals_of number c.index-points-number.result ≡ point = same_Some (vals_of number c.index-points-number.result) point (sym at ∙ here) in
          subst (λ (p : List Val). HasValue (scope_of g.T.Theory.owned c.args.defs.now) (functions (bodies number c.args.defs.now)) [] p (expr_of number c.args.term.now) (val_of number c.in-Ok.value)) same has));
    }

pub returns-clause-ok : goal.returns-clause-ok
returns-clause-ok g c =
    let number = g.T.Theory.denotes in
    row-of number (scope_of g.T.Theory.owned c.args.defs.now) (functions (bodies number c.args.defs.now)) c.args.points.now (expr_of number c.args.term.now) c.loop-number.row.items c.loop-number.number (omega (arith, c.loop-number-test.false, c.loop-number.auto.number-end)) c.loop-number.invariant.sized c.loop-number.invariant.each

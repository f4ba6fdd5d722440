use Rattle.std.proofs.Common.{◌≡◌, ◌∙◌, ◌<◌, [], ◌∷◌, ap, arith, map, false, length-append, Err}
use Rattle.std.proofs.lemmas.List.{length-map}
use Rattle.sy_terms.specs.Denoted.{val_of, vals_of}
use Rattle.sy_terms.specs.Expr.{Invoke}
use Rattle.sy_terms.specs.declared.term.Fun.TheVariants.{Defined}
use Rattle.sy_terms_operators.specs.Evaluation.{GivesValue, can_compute}
use Rattle.sy_terms_operators.proofs.Steps.{map-both}
use Rattle.sy_bank_level.specs.Columns.{column, constants}
use Rattle.sy_bank_columns.specs.Lent.{row_values}
use Rattle.sy_bank_columns.proofs.ByPoint.{values-next}
use Rattle.sy_bank_columns.proofs.Forms.{loss-at}
use Rattle.sy_bank_columns.proofs.call.called_row.Goals as goal

pub called_value-requires-clause-fit : goal.called_value-requires-clause-fit
called_value-requires-clause-fit g c = c.requires.fit c.loop-number.number c.loop-number-test.true

pub called_value-requires-clause-within : goal.called_value-requires-clause-within
called_value-requires-clause-within g c = c.loop-number-test.true

pub returns-in-Err-Range-clause-lost : goal.returns-in-Err-Range-clause-lost
returns-in-Err-Range-clause-lost g c =
    let number = g.T.Theory.denotes in
    let can = c.called_value.ensures.range (c.in-Err-Range.is ∙ ap Err c.in-Err-Range.field-0-is) in
    loss-at c.lost_at.result c.loop-number.number (λ k. (k < c.args.count) × (can_compute number c.args.defs.now [] [] (Invoke (Defined c.args.definition) (constants (column (map (λ row. vals_of number (row_values row)) c.args.rows.now) k))) ≡ false)) c.lost_at.ensures (c.loop-number-test.true, can)

pub loop-number-preserved : goal.loop-number-preserved
loop-number-preserved g c =
    let number = g.T.Theory.denotes in
    let gives = c.in-Ok.ensures.ok in
    record {
      sized = rw c.in_ok-push-in-Ok.ensures.items (omega (arith, length-append c.loop-number.found.items (c.in-Ok.value ∷ []), c.loop-number.invariant.sized));
      each =
          rw (c.in_ok-push-in-Ok.ensures.items, map-both number c.loop-number.found.items (c.in-Ok.value ∷ []))
          (values-next (λ k v. GivesValue g.T.Theory.owned number c.args.defs.now [] [] (Invoke (Defined c.args.definition) (constants (column (map (λ row. vals_of number (row_values row)) c.args.rows.now) k))) v)
          (vals_of number c.loop-number.found.items) (val_of number c.in-Ok.value) c.loop-number.number (length-map c.loop-number.found.items (val_of number) ∙ c.loop-number.invariant.sized) c.loop-number.invariant.each gives);
    }

pub returns-clause-ok : goal.returns-clause-ok
returns-clause-ok g c = λ k within. c.loop-number.invariant.each k (omega (arith, within, c.loop-number-test.false))

use Rattle.std.proofs.Common.{◌≡◌, ◌<◌, [], ◌∷◌, map, subst, false, arith}
use Rattle.sy_terms.specs.Denoted.{val_of, vals_of}
use Rattle.sy_terms.specs.Theories.{fits}
use Rattle.sy_terms_operators.proofs.Steps.{map-both}
use Rattle.sy_bank_level.specs.Columns.{column}
use Rattle.sy_bank_columns.specs.Found.{IsColumnOf}
use Rattle.sy_bank_columns.specs.Lent.{row_values}
use Rattle.sy_bank_columns.proofs.ByPoint.{applied-next}
use Rattle.sy_bank_columns.proofs.Forms.{loss-at}
use Rattle.sy_bank_columns.proofs.apply.applied_row.Goals as goal

pub apply-requires-clause-owned : goal.apply-requires-clause-owned
apply-requires-clause-owned g c = c.requires.owned c.loop-number.number c.loop-number-test.true

pub apply-requires-clause-sorted : goal.apply-requires-clause-sorted
apply-requires-clause-sorted g c = rw (c.as_slice.ensures.value, c.in_ok-fill.ensures) (c.requires.sorted c.loop-number.number c.loop-number-test.true)

pub loop-number-preserved : goal.loop-number-preserved
loop-number-preserved g c =
    let number = g.T.Theory.denotes in
    let applied = rw (c.as_slice.ensures.value, c.in_ok-fill.ensures) at c.in-Is.ensures in
    rw (c.in_ok-push-in-Is.ensures.items, map-both number c.loop-number.found.items (c.in-Is.value ∷ []))
    (applied-next c.args.operator.now (map (λ row. vals_of number (row_values row)) c.args.rows.now) c.loop-number.number (vals_of number c.loop-number.found.items) (val_of number c.in-Is.value) c.loop-number.invariant applied)

pub fill-requires-clause-sized : goal.fill-requires-clause-sized
fill-requires-clause-sized g c = c.requires.sized

pub fill-requires-clause-within : goal.fill-requires-clause-within
fill-requires-clause-within g c = c.loop-number-test.true

pub returns-in-OutOfRange-clause-lost : goal.returns-in-OutOfRange-clause-lost
returns-in-OutOfRange-clause-lost g c =
    let rows = map (λ row. vals_of g.T.Theory.denotes (row_values row)) c.args.rows.now in
    let unfit = rw (c.as_slice.ensures.value, c.in_ok-fill.ensures) at c.in-OutOfRange.ensures in
    loss-at c.lost_at.result c.loop-number.number (λ k. (k < c.args.count) × (fits c.args.operator.now (column rows k) ≡ false)) c.lost_at.ensures (c.loop-number-test.true, unfit)

pub returns-clause-ok : goal.returns-clause-ok
returns-clause-ok g c =
    let number = g.T.Theory.denotes in
    let all : c.loop-number.number ≡ c.args.count = grind arith in
    subst (λ n. IsColumnOf c.args.operator.now (map (λ row. vals_of number (row_values row)) c.args.rows.now) n (vals_of number c.loop-number.found.items)) all c.loop-number.invariant

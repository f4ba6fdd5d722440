use Rattle.std.proofs.Common.{◌≡◌, ◌≢◌, ◌<◌, ◌+◌, ℕ, List, [], length, get_or, arith, sym, ap, ◌∙◌, subst}
use Rattle.std.proofs.lemmas.List.{get_or_read}
use Rattle.sy_frac.specs.Fraction.{Fraction}
use Rattle.sy_simplex.specs.Rows.{AreLowest, IsPutRow, PutUnfit}
use Rattle.sy_simplex.proofs.Results.{some_of}
use Rattle.sy_simplex.proofs.TableauPlaces.{IsWritten, written_more, written_skip}
use Rattle.sy_simplex.proofs.tableau.put_into_others.Goals as goal
use Rattle.sy_simplex.proofs.tableau.put_into_others.Goals.{else-at-row-via-then-at-row+else-is_none, else-at-row-via-else-at-row}

pub put-requires-clause-lowest : goal.put-requires-clause-lowest
put-requires-clause-lowest c =
    let n = c.loop-at.at in
    let inside : n < length c.args.rows.now.items = omega (arith, c.loop-at-test.true, c.len-at-end.ensures, c.args.rows.now.ok.0) in
    let row_is : c.index_mut.result.now ≡ get_or c.args.rows.now.items n [] = get_or_read c.loop-at.rows.items n c.index_mut.result.now (omega (arith, c.loop-at.invariant.len, inside)) c.index_mut.ensures.value [] ∙ c.loop-at.invariant.above n (omega arith) inside in
    subst AreLowest (sym row_is) (c.requires.lowest n inside)

pub loop-at-preserved : goal.loop-at-preserved
loop-at-preserved c =
    let n = c.loop-at.at in
    let old = c.args.rows.now.items in
    let P = λ (i : ℕ) (new : List Fraction). i ≢ c.args.row → IsPutRow (get_or old i []) c.args.solved.now c.args.column new in
    let inside : n < length old = omega (arith, c.loop-at-test.true, c.len-at-end.ensures, c.args.rows.now.ok.0) in
    elim c.else-at-row.branch [
      | else-at-row-via-then-at-row+else-is_none w ↦
          let row_is : w.index_mut.result.now ≡ get_or old n [] = get_or_read c.loop-at.rows.items n w.index_mut.result.now (omega (arith, c.loop-at.invariant.len, inside)) w.index_mut.ensures.value [] ∙ c.loop-at.invariant.above n (omega arith) inside in
          let put : IsPutRow w.index_mut.result.now c.args.solved.now c.args.column w.put.new.self = some_of w.put.result w.is_none.result (PutUnfit w.index_mut.result.now c.args.solved.now c.args.column) _ w.is_none.ensures w.if-is_none.false w.put.ensures in
          written_more [] (length old) P (λ i. get_or old i []) c.loop-at.rows.items _ n w.put.new.self inside c.loop-at.invariant (ap (λ v. v.items) w.rows-is) (λ k. subst (λ xs. IsPutRow xs c.args.solved.now c.args.column w.put.new.self) row_is put)
      | else-at-row-via-else-at-row w ↦
          subst (λ xs. IsWritten [] (length old) P (λ i. get_or old i []) xs (n + 1)) (sym (ap (λ v. v.items) w.rows-is)) (written_skip [] (length old) P (λ i. get_or old i []) c.loop-at.rows.items n inside c.loop-at.invariant (λ k. absurd (k w.if-at-row.false)))
    ]

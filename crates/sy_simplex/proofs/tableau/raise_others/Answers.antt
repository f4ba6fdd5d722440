use Rattle.std.proofs.Common.{◌≡◌, ◌≢◌, ◌<◌, ◌+◌, ℕ, [], length, get_or, arith, refl, sym, ap, ◌∙◌, subst}
use Rattle.std.specs.Prelude.{pos}
use Rattle.std.proofs.lemmas.List.{get_or_read}
use Rattle.sy_frac.specs.Fraction.{Fraction}
use Rattle.sy_simplex.specs.Operations.{fraction_of_whole, IsPlusProduct, PlusProductUnfit}
use Rattle.sy_simplex.specs.Rows.{at}
use Rattle.sy_simplex.proofs.Results.{moved₃}
use Rattle.sy_simplex.proofs.TableauPlaces.{IsWritten, written_none, written_more, written_skip, written_all}
use Rattle.sy_simplex.proofs.Exchanging.{within}
use Rattle.sy_simplex.proofs.tableau.raise_others.Goals as goal
use Rattle.sy_simplex.proofs.tableau.raise_others.Goals.{then-at-row+in-Some, else-at-row}

pub returns-in_default : goal.returns-in_default
returns-in_default c =
    let n = c.loop-at.at in
    let inside : n < length c.args.rows.now = omega (arith, c.loop-at-test.true) in
    let own : c.index.result.now ≡ at c.args.values.now.items n = get_or_read c.loop-at.values.items n c.index.result.now (omega (arith, c.loop-at.invariant.len, inside)) c.index.ensures (fraction_of_whole (pos 0)) ∙ c.loop-at.invariant.above n (omega arith) inside in
    let row_is : c.as_slice.result.now ≡ get_or c.args.rows.now n [] = c.as_slice.ensures ∙ get_or_read c.args.rows.now n c.index-rows-at.result inside c.index-rows-at.is [] in
    let factor : c.index-as_slice-column.result ≡ at (get_or c.args.rows.now n []) c.args.column = get_or_read c.as_slice.result.now c.args.column c.index-as_slice-column.result (omega (arith, ap length row_is, c.requires.column_below n inside)) c.index-as_slice-column.is (fraction_of_whole (pos 0)) ∙ ap (λ xs. at xs c.args.column) row_is in
    record {
      row = n;
      below = inside;
      other = c.if-at-row.true;
      unfit = moved₃ PlusProductUnfit c.index.result.now c.index-as_slice-column.result c.args.shift.now _ _ _ own factor refl c.in_default.ensures;
    }

pub loop-at-init : goal.loop-at-init
loop-at-init c = written_none (fraction_of_whole (pos 0)) (length c.args.rows.now) (λ i f. i ≢ c.args.row → IsPlusProduct (at c.args.values.now.items i) (at (get_or c.args.rows.now i []) c.args.column) c.args.shift.now f) (at c.args.values.now.items) c.args.values.now.items (sym c.args.values.now.ok.0 ∙ c.requires.same_length) (λ _ _. refl)

pub bounds-rows-at : goal.bounds-rows-at
bounds-rows-at c = c.loop-at-test.true

pub bounds-as_slice-column : goal.bounds-as_slice-column
bounds-as_slice-column c =
    within c.args.column _ _ (ap length (c.as_slice.ensures ∙ get_or_read c.args.rows.now c.loop-at.at c.index-rows-at.result c.loop-at-test.true c.index-rows-at.is [])) (c.requires.column_below c.loop-at.at c.loop-at-test.true)

pub index-requires : goal.index-requires
index-requires c = within c.loop-at.at _ _ (c.loop-at.values.ok.0 ∙ c.loop-at.invariant.len) c.loop-at-test.true

pub index_mut-requires : goal.index_mut-requires
index_mut-requires c = within c.loop-at.at _ _ (c.loop-at.values.ok.0 ∙ c.loop-at.invariant.len) c.loop-at-test.true

pub loop-at-preserved : goal.loop-at-preserved
loop-at-preserved c =
    let n = c.loop-at.at in
    let size = length c.args.rows.now in
    let old = at c.args.values.now.items in
    let P = λ (i : ℕ) (f : Fraction). i ≢ c.args.row → IsPlusProduct (at c.args.values.now.items i) (at (get_or c.args.rows.now i []) c.args.column) c.args.shift.now f in
    let inside : n < size = c.loop-at-test.true in
    elim c.if-at-row.branch [
      | then-at-row+in-Some w ↦
          let own : w.index.result.now ≡ old n = get_or_read c.loop-at.values.items n w.index.result.now (within n _ _ c.loop-at.invariant.len inside) w.index.ensures (fraction_of_whole (pos 0)) ∙ c.loop-at.invariant.above n (omega arith) inside in
          let row_is : w.as_slice.result.now ≡ get_or c.args.rows.now n [] = w.as_slice.ensures ∙ get_or_read c.args.rows.now n w.index-rows-at.result inside w.index-rows-at.is [] in
          let factor : w.index-as_slice-column.result ≡ at (get_or c.args.rows.now n []) c.args.column = get_or_read w.as_slice.result.now c.args.column w.index-as_slice-column.result (within c.args.column _ _ (ap length row_is) (c.requires.column_below n inside)) w.index-as_slice-column.is (fraction_of_whole (pos 0)) ∙ ap (λ xs. at xs c.args.column) row_is in
          written_more (fraction_of_whole (pos 0)) size P old c.loop-at.values.items _ n w.in-Some.value inside c.loop-at.invariant (ap (λ v. v.items) w.values-is) (λ _. moved₃ (λ x y z. IsPlusProduct x y z w.in-Some.value) w.index.result.now w.index-as_slice-column.result c.args.shift.now _ _ _ own factor refl w.in-Some.ensures)
      | else-at-row w ↦
          subst (λ xs. IsWritten (fraction_of_whole (pos 0)) size P old xs (n + 1)) (sym (ap (λ v. v.items) w.values-is)) (written_skip (fraction_of_whole (pos 0)) size P old c.loop-at.values.items n inside c.loop-at.invariant (λ k. absurd (k w.if-at-row.false)))
    ]

pub returns : goal.returns
returns c =
    let done = written_all _ _ _ _ _ c.loop-at.at c.loop-at.invariant c.loop-at-test.false in
    record { len = c.loop-at.invariant.len ∙ sym (sym c.args.values.now.ok.0 ∙ c.requires.same_length); each = λ i l k. done i l k }

use Rattle.std.proofs.Common.{◌≡◌, ◌<◌, length, arith, refl, sym, ap, ◌∙◌, subst}
use Rattle.std.specs.Prelude.{pos}
use Rattle.std.proofs.lemmas.List.{get_or_read}
use Rattle.sy_frac.specs.Fraction.{Fraction}
use Rattle.sy_simplex.specs.Operations.{fraction_of_whole, IsPlusProduct, PlusProductUnfit}
use Rattle.sy_simplex.specs.Rows.{at, beside}
use Rattle.sy_simplex.proofs.Exact.{zero_back}
use Rattle.sy_simplex.proofs.Results.{moved₃}
use Rattle.sy_simplex.proofs.Zeros.{put_nothing}
use Rattle.sy_simplex.proofs.TableauPlaces.{written_more, written_all}
use Rattle.sy_simplex.proofs.Exchanging.{within}
use Rattle.sy_simplex.proofs.row.put_coefficients.Goals as goal

pub returns-then-num-eq0 : goal.returns-then-num-eq0
returns-then-num-eq0 c =
    let items = c.args.coefs.now.items in
    let inside : c.args.column < length items = omega (arith, c.requires.in_bounds, c.requires.same_length) in
    let read : c.index.result.now ≡ at items c.args.column = get_or_read items c.args.column c.index.result.now inside c.index.ensures (fraction_of_whole (pos 0)) in
    let zero : c.index.result.now.num ≡ pos 0 = zero_back c.num.result c.index.result.now.num c.num.ensures.value c.num.ensures.lowest.num_fits c.if-num-eq0.true in
    put_nothing items c.args.solved.now c.args.column c.requires.same_length inside c.requires.lowest c.requires.solved_lowest (ap (λ (f : Fraction). f.num) (sym read) ∙ zero)

pub returns-in_default : goal.returns-in_default
returns-in_default c =
    let items = c.args.coefs.now.items in
    let inside : c.loop-at.at < length c.loop-at.coefs.items = omega (arith, c.loop-at.invariant.len, c.loop-at-test.true) in
    let below : c.loop-at.at < length items = omega (arith, c.requires.same_length, c.loop-at-test.true) in
    let read : c.index.result.now ≡ at items c.args.column = get_or_read items c.args.column c.index.result.now (omega (arith, c.requires.in_bounds, c.requires.same_length)) c.index.ensures (fraction_of_whole (pos 0)) in
    let own : c.index-in-loop-at.result.now ≡ beside items c.args.column c.loop-at.at = get_or_read c.loop-at.coefs.items c.loop-at.at c.index-in-loop-at.result.now inside c.index-in-loop-at.ensures (fraction_of_whole (pos 0)) ∙ c.loop-at.invariant.above c.loop-at.at (omega arith) c.loop-at-test.true in
    let other : c.index-solved-at.result ≡ at c.args.solved.now c.loop-at.at = get_or_read c.args.solved.now c.loop-at.at c.index-solved-at.result c.loop-at-test.true c.index-solved-at.is (fraction_of_whole (pos 0)) in
    record {
      column = c.loop-at.at;
      below = below;
      unfit = moved₃ PlusProductUnfit c.index-in-loop-at.result.now c.index.result.now c.index-solved-at.result _ _ _ own read other c.in_default.ensures;
    }

pub loop-at-preserved : goal.loop-at-preserved
loop-at-preserved c =
    let items = c.args.coefs.now.items in
    let inside : c.loop-at.at < length c.loop-at.coefs.items = omega (arith, c.loop-at.invariant.len, c.loop-at-test.true) in
    let own : c.index-in-loop-at.result.now ≡ beside items c.args.column c.loop-at.at = get_or_read c.loop-at.coefs.items c.loop-at.at c.index-in-loop-at.result.now inside c.index-in-loop-at.ensures (fraction_of_whole (pos 0)) ∙ c.loop-at.invariant.above c.loop-at.at (omega arith) c.loop-at-test.true in
    let other : c.index-solved-at.result ≡ at c.args.solved.now c.loop-at.at = get_or_read c.args.solved.now c.loop-at.at c.index-solved-at.result c.loop-at-test.true c.index-solved-at.is (fraction_of_whole (pos 0)) in
    written_more (fraction_of_whole (pos 0)) (length c.args.solved.now) (λ j f. IsPlusProduct (beside items c.args.column j) c.index.result.now (at c.args.solved.now j) f) (beside items c.args.column) c.loop-at.coefs.items _ c.loop-at.at c.in-Some.coefficient c.loop-at-test.true c.loop-at.invariant refl
    (moved₃ (λ a b d. IsPlusProduct a b d c.in-Some.coefficient) c.index-in-loop-at.result.now c.index.result.now c.index-solved-at.result _ _ _ own refl other c.in-Some.ensures)

pub index-requires : goal.index-requires
index-requires c = within c.args.column _ _ (c.args.coefs.now.ok.0 ∙ c.requires.same_length) c.requires.in_bounds

pub index_mut-requires : goal.index_mut-requires
index_mut-requires c = within c.args.column _ _ (c.args.coefs.now.ok.0 ∙ c.requires.same_length) c.requires.in_bounds

pub index-requires-in-loop-at : goal.index-requires-in-loop-at
index-requires-in-loop-at c = within c.loop-at.at _ _ (c.loop-at.coefs.ok.0 ∙ c.loop-at.invariant.len) c.loop-at-test.true

pub bounds-solved-at : goal.bounds-solved-at
bounds-solved-at c = c.loop-at-test.true

pub index_mut-requires-in-loop-at : goal.index_mut-requires-in-loop-at
index_mut-requires-in-loop-at c = within c.loop-at.at _ _ (c.loop-at.coefs.ok.0 ∙ c.loop-at.invariant.len) c.loop-at-test.true

pub returns : goal.returns
returns c =
    let items = c.args.coefs.now.items in
    let solved = c.args.solved.now in
    let read : c.index.result.now ≡ at items c.args.column = get_or_read items c.args.column c.index.result.now (within c.args.column _ _ c.requires.same_length c.requires.in_bounds) c.index.ensures (fraction_of_whole (pos 0)) in
    let done = written_all _ _ _ _ _ c.loop-at.at c.loop-at.invariant c.loop-at-test.false in
    record {
      len = c.loop-at.invariant.len ∙ sym c.requires.same_length;
      each = λ j l. subst (λ f. IsPlusProduct (beside items c.args.column j) f (at solved j) (at c.loop-at.coefs.items j)) read (done j (within j _ _ (sym c.requires.same_length) l));
    }

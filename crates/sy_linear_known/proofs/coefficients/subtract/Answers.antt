use Rattle.std.proofs.Common.{inl, inr, arith, drop, get_or, ◌∙◌, ap₂, ap, sym}
use Rattle.std.proofs.lemmas.List.{drop_all}
use Rattle.std.specs.Prelude.{pos, negsuc, ◌-ℤ◌, ◌*ℤ◌, ◌++◌}
use Rattle.sy_linear_known.proofs.Merging.{number_back, to_end, not_true, less_left, less_right, less_right_unfit, less_both, less_both_unfit, less_over, less_over_unfit, from_on, in_range-more, in_range-at, in_range-before, in_range-both, in_range-drop}
use mir.Syntax.{w128}
use mir.Val.{to_z, of_z}
use Rattle.sy_linear_known.specs.Forms.{in_range, all_in_range, scaled}
use Rattle.sy_linear_known.proofs.coefficients.subtract.Goals as goal
use Rattle.sy_linear_known.proofs.coefficients.subtract.Goals.{then-loop-i-test+else-j-ds, else-loop-i-test}

pub loop-i-preserved-then-variable-other : goal.loop-i-preserved-then-variable-other
loop-i-preserved-then-variable-other c =
    let fit = in_range-at c.args.cs.now c.loop-i.i c.loop-i-test.true c.requires.left in
    let same = number_back _ fit in
    record {
      left = omega (arith, c.loop-i-test.true);
      right = c.loop-i.invariant.right;
      kept = less_left _ c.args.cs.now c.args.ds.now _ _ c.loop-i.i c.loop-i.j _ c.loop-i-test.true c.if-j-ds.true c.if-variable-other.true same c.loop-i.invariant.kept c.in_ok-push.ensures.ok;
      fits = in_range-more _ _ _ _ c.in_ok-push.ensures.ok c.loop-i.invariant.fits (ap in_range same ∙ fit);
    }

pub returns-in_default-clause-unfit : goal.returns-in_default-clause-unfit
returns-in_default-clause-unfit c h =
    let right = number_back _ (in_range-at c.args.ds.now c.loop-i.j c.if-j-ds.true c.requires.right) in
    less_right_unfit _ c.args.cs.now c.args.ds.now _ c.loop-i.i c.loop-i.j _ c.loop-i-test.true c.if-j-ds.true c.if-variable-other.false c.if-other-variable.true right c.loop-i.invariant.kept (not_true _ c.in_default.ensures)

pub loop-i-preserved-then-other-variable : goal.loop-i-preserved-then-other-variable
loop-i-preserved-then-other-variable c =
    let right = number_back (get_or c.args.ds.now c.loop-i.j (0, pos 0)).1 (in_range-at c.args.ds.now c.loop-i.j c.if-j-ds.true c.requires.right) in
    let fit = ap in_range c.in-Some.ensures.1 ∙ c.in-Some.ensures.0 in
    let total = number_back c.in-Some.opposite fit in
    record {
      left = c.loop-i.invariant.left;
      right = omega (arith, c.if-j-ds.true);
      kept = less_right c.loop-i.all c.args.cs.now c.args.ds.now _ _ c.loop-i.i c.loop-i.j _ c.loop-i-test.true c.if-j-ds.true c.if-variable-other.false c.if-other-variable.true (total ∙ c.in-Some.ensures.1 ∙ ap (λ m. negsuc 0 *ℤ m) right) c.loop-i.invariant.kept c.in_ok-push_nonzero.ensures;
      fits = in_range-both c.loop-i.all _ _ c.in_ok-push_nonzero.ensures c.loop-i.invariant.fits (in_range-before (get_or c.args.ds.now c.loop-i.j (0, pos 0)).0 (to_z w128 (of_z w128 c.in-Some.opposite)) (ap in_range total ∙ fit));
    }

pub returns-in_default-difference-clause-unfit : goal.returns-in_default-difference-clause-unfit
returns-in_default-difference-clause-unfit c h =
    let left = number_back _ (in_range-at c.args.cs.now c.loop-i.i c.loop-i-test.true c.requires.left) in
    let right = number_back _ (in_range-at c.args.ds.now c.loop-i.j c.if-j-ds.true c.requires.right) in
    less_both_unfit _ c.args.cs.now c.args.ds.now _ c.loop-i.i c.loop-i.j _ _ c.loop-i-test.true c.if-j-ds.true c.if-variable-other.false c.if-other-variable.false left right c.loop-i.invariant.kept (not_true _ c.in_default-difference.ensures)

pub loop-i-preserved : goal.loop-i-preserved
loop-i-preserved c =
    let left = number_back (get_or c.args.cs.now c.loop-i.i (0, pos 0)).1 (in_range-at c.args.cs.now c.loop-i.i c.loop-i-test.true c.requires.left) in
    let right = number_back (get_or c.args.ds.now c.loop-i.j (0, pos 0)).1 (in_range-at c.args.ds.now c.loop-i.j c.if-j-ds.true c.requires.right) in
    let fit = ap in_range c.in-Some-difference.ensures.1 ∙ c.in-Some-difference.ensures.0 in
    let total = number_back c.in-Some-difference.rest fit in
    record {
      left = omega (arith, c.loop-i-test.true);
      right = omega (arith, c.if-j-ds.true);
      kept = less_both c.loop-i.all c.args.cs.now c.args.ds.now _ _ c.loop-i.i c.loop-i.j _ c.loop-i-test.true c.if-j-ds.true c.if-variable-other.false c.if-other-variable.false (total ∙ c.in-Some-difference.ensures.1 ∙ ap₂ (λ m n. m -ℤ n) left right) c.loop-i.invariant.kept c.in_ok-push_nonzero-2.ensures;
      fits = in_range-both c.loop-i.all _ _ c.in_ok-push_nonzero-2.ensures c.loop-i.invariant.fits (in_range-before (get_or c.args.cs.now c.loop-i.i (0, pos 0)).0 (to_z w128 (of_z w128 c.in-Some-difference.rest)) (ap in_range total ∙ fit));
    }

pub scale-requires : goal.scale-requires
scale-requires c = ap all_in_range (from_on c.args.ds.now c.loop-i.j) ∙ in_range-drop c.args.ds.now c.loop-i.j c.requires.right

pub returns-in-Err-clause-unfit : goal.returns-in-Err-clause-unfit
returns-in-Err-clause-unfit c h =
    less_over_unfit c.loop-i.all c.args.cs.now c.args.ds.now _ c.loop-i.i c.loop-i.j c.loop-i.invariant.kept
    (elim c.loop-i-test.branch [ then-loop-i-test+else-j-ds w ↦ inr (drop_all c.loop-i.j c.args.ds.now w.if-j-ds.false) | else-loop-i-test w ↦ inl (drop_all c.loop-i.i c.args.cs.now w.loop-i-test.false) ])
    (sym (ap (λ xs. all_in_range (scaled (negsuc 0) xs)) (from_on c.args.ds.now c.loop-i.j)) ∙ c.in-Err.ensures.unfit h)

pub returns-clause-ok : goal.returns-clause-ok
returns-clause-ok c =
    c.in_ok-push_all-2.ensures
    ∙ ap₂ (λ xs ys. xs ++ ys) (to_end c.loop-i.all c.args.cs.now _ c.loop-i.i c.in_ok-push_all.ensures) (c.as_slice.ensures ∙ c.in-Ok.ensures.ok ∙ ap (scaled (negsuc 0)) (from_on c.args.ds.now c.loop-i.j))
    ∙ less_over c.loop-i.all c.args.cs.now c.args.ds.now _ c.loop-i.i c.loop-i.j c.loop-i.invariant.kept
    (elim c.loop-i-test.branch [ then-loop-i-test+else-j-ds w ↦ inr (drop_all c.loop-i.j c.args.ds.now w.if-j-ds.false) | else-loop-i-test w ↦ inl (drop_all c.loop-i.i c.args.cs.now w.loop-i-test.false) ])

pub returns-clause-fits : goal.returns-clause-fits
returns-clause-fits c =
    in_range-both c.push_all.new.list c.as_slice.result.now _ c.in_ok-push_all-2.ensures
    (in_range-both c.loop-i.all (drop c.loop-i.i c.args.cs.now) _ (to_end _ c.args.cs.now _ c.loop-i.i c.in_ok-push_all.ensures) c.loop-i.invariant.fits (in_range-drop c.args.cs.now c.loop-i.i c.requires.left))
    (ap all_in_range c.as_slice.ensures ∙ c.in-Ok.ensures.fits)

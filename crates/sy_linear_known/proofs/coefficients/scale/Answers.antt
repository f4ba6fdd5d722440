use Rattle.std.proofs.Common.{◌≡◌, get_or, sym, ◌∙◌, ap}
use Rattle.std.proofs.lemmas.List.{drop_all, append-nil}
use Rattle.std.specs.Prelude.{pos, ◌*ℤ◌, ◌++◌}
use Rattle.std.proofs.lemmas.Int.{to_z-of_z}
use mir.Syntax.{w128}
use mir.Val.{to_z, of_z}
use Rattle.sy_linear_known.specs.Forms.{scaled, in_range, all_in_range}
use Rattle.sy_linear_known.proofs.Merging.{number_back, not_true, scaled_kept, scaled_unfit, scaled-nil, in_range-at, in_range-before, in_range-both}
use Rattle.sy_linear_known.proofs.coefficients.scale.Goals as goal

pub returns-in_default-clause-unfit : goal.returns-in_default-clause-unfit
returns-in_default-clause-unfit c h =
    let factor : to_z w128 (of_z w128 c.args.factor) ≡ c.args.factor = to_z-of_z w128 c.args.factor c.ranges.factor in
    let number = number_back (get_or c.args.cs.now c.loop-variable.variable-index (0, pos 0)).1 (in_range-at c.args.cs.now c.loop-variable.variable-index c.loop-variable-test.true c.requires) in
    ap (λ k. all_in_range (scaled k c.args.cs.now)) (sym factor) ∙ scaled_unfit (to_z w128 (of_z w128 c.args.factor)) c.loop-variable.all c.args.cs.now _ c.loop-variable.variable-index _ c.loop-variable-test.true (ap (λ m. to_z w128 (of_z w128 c.args.factor) *ℤ m) number) c.loop-variable.invariant.kept (not_true _ c.in_default.ensures)

pub loop-variable-preserved : goal.loop-variable-preserved
loop-variable-preserved c =
    let number = number_back (get_or c.args.cs.now c.loop-variable.variable-index (0, pos 0)).1 (in_range-at c.args.cs.now c.loop-variable.variable-index c.loop-variable-test.true c.requires) in
    let fit = ap in_range c.in-Some.ensures.1 ∙ c.in-Some.ensures.0 in
    let total = number_back c.in-Some.total fit in
    record {
      kept = scaled_kept (to_z w128 (of_z w128 c.args.factor)) c.loop-variable.all c.args.cs.now _ _ c.loop-variable.variable-index _ c.loop-variable-test.true (total ∙ c.in-Some.ensures.1 ∙ ap (λ m. to_z w128 (of_z w128 c.args.factor) *ℤ m) number) c.loop-variable.invariant.kept c.in_ok-push_nonzero.ensures;
      fits = in_range-both c.loop-variable.all _ _ c.in_ok-push_nonzero.ensures c.loop-variable.invariant.fits (in_range-before (get_or c.args.cs.now c.loop-variable.variable-index (0, pos 0)).0 (to_z w128 (of_z w128 c.in-Some.total)) (ap in_range total ∙ fit));
    }

pub returns-clause-ok : goal.returns-clause-ok
returns-clause-ok c =
    let factor : to_z w128 (of_z w128 c.args.factor) ≡ c.args.factor = to_z-of_z w128 c.args.factor c.ranges.factor in
    sym (append-nil c.loop-variable.all) ∙ sym (ap (λ xs. c.loop-variable.all ++ xs) (ap (scaled (to_z w128 (of_z w128 c.args.factor))) (drop_all c.loop-variable.variable-index c.args.cs.now c.loop-variable-test.false) ∙ scaled-nil _)) ∙ c.loop-variable.invariant.kept ∙ ap (λ k. scaled k c.args.cs.now) factor

use Rattle.std.proofs.Common.{sym, ap, ◌∙◌, ◌≡◌, length}
use Rattle.sy_terms.specs.Values.{Whole}
use Rattle.sy_terms.specs.Denoted.{expr_of, expr_of-App}
use Rattle.sy_terms.specs.declared.op.Op.TheVariants as ops
use Rattle.sy_lower.specs.Stored.{progress_in}
use Rattle.sy_lower.proofs.Making.{reduced_is, reduced_stays}
use Rattle.sy_lower.proofs.applied.reduced.Goals as goal

pub returns-then-pair-ne2 : goal.returns-then-pair-ne2
returns-then-pair-ne2 c = reduced_stays (progress_in c.args.progress.now) c.args.terms.items.items _ (λ e. c.if-pair-ne2.true (ap length c.as_slice-pair.ensures ∙ e)) (expr_of-App Whole ops.Mod c.args.terms)

pub returns : goal.returns
returns c =
    let two : length c.args.terms.items.items ≡ 2 = sym (ap length c.as_slice-pair.ensures) ∙ c.if-pair-ne2.false in
    reduced_is (progress_in c.args.progress.now) _ c.args.terms.items.items c.index-pair-0.result c.index-pair-1.result (expr_of Whole c.in_ok-dividend.dividend) _ two (rw c.as_slice-pair.ensures at c.index-pair-0.is) (rw c.as_slice-pair.ensures at c.index-pair-1.is) c.in_ok-dividend.ensures
    c.in_ok-remainder.ensures

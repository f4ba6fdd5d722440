use Rattle.std.proofs.Common.{sym, ap, ◌∙◌, ◌≡◌, length}
use Rattle.sy_terms.specs.Values.{Whole}
use Rattle.sy_terms.specs.Denoted.{expr_of, expr_of-App}
use Rattle.sy_terms.specs.declared.op.Op.TheVariants as ops
use Rattle.sy_lower.specs.Stored.{progress_in}
use Rattle.sy_lower.proofs.Making.{unsigned_is, unsigned_stays, absolute_is}
use Rattle.sy_lower.proofs.applied.unsigned.Goals as goal

pub returns-then-only-ne1 : goal.returns-then-only-ne1
returns-then-only-ne1 c = unsigned_stays (progress_in c.args.progress.now) c.args.terms.items.items _ (λ e. c.if-only-ne1.true (ap length c.as_slice-only.ensures ∙ e)) (expr_of-App Whole ops.Abs c.args.terms)

pub returns : goal.returns
returns c =
    let one : length c.args.terms.items.items ≡ 1 = sym (ap length c.as_slice-only.ensures) ∙ c.if-only-ne1.false in
    unsigned_is (progress_in c.args.progress.now) _ c.args.terms.items.items c.index-only-0.result (expr_of Whole c.in_ok-term.term) _ one (rw c.as_slice-only.ensures at c.index-only-0.is) c.in_ok-term.ensures
    (absolute_is (progress_in c.args.progress.now) _ (expr_of Whole c.in_ok-term.term) (expr_of Whole c.in_ok-variable.variable) _ c.in_ok-variable.ensures c.in_ok-found.ensures)

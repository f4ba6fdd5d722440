use Rattle.std.proofs.Common.{◌≡◌, ◌∙◌, ◌++◌, ap, arith, length, sym}
use Rattle.std.proofs.Math.Seq.{take-append_seam}
use Rattle.std.proofs.lemmas.Result.{IfOk-from_err}
use Rattle.sy_terms.specs.Denoted.{vals_of}
use Rattle.sy_terms.specs.Pairs.{IsFirstUnfit}
use Rattle.sy_bank_columns.specs.declared.ends.RowEnd.TheVariants.{Want}
use Rattle.sy_bank_columns.proofs.Forms.{handed_on, loss-at}
use Rattle.sy_bank_columns.proofs.apply.pair_row.Goals as goal

pub returns-in_err-found-clause-lost : goal.returns-in_err-found-clause-lost
returns-in_err-found-clause-lost g c = handed_on _ c.from_residual.result Want c.from_residual.ensures.1 tt

pub returns-in_err-extend_from_slice-clause-lost : goal.returns-in_err-extend_from_slice-clause-lost
returns-in_err-extend_from_slice-clause-lost g c = handed_on _ c.from_residual-in_err-extend_from_slice.result Want c.from_residual-in_err-extend_from_slice.ensures.1 tt

pub apply_each-requires-clause-owned : goal.apply_each-requires-clause-owned
apply_each-requires-clause-owned g c =
    let same : c.as_mut_slice.result.now ≡ c.args.first.now = c.as_mut_slice.ensures.value ∙ c.in_ok-extend_from_slice.ensures.items ∙ ap (λ front. front ++ c.args.first.now) c.in_ok-found.ensures.items in
    λ place within. c.requires.owned place (omega (arith, within, ap length same))

pub apply_each-requires-clause-same : goal.apply_each-requires-clause-same
apply_each-requires-clause-same g c =
    let same : c.as_mut_slice.result.now ≡ c.args.first.now = c.as_mut_slice.ensures.value ∙ c.in_ok-extend_from_slice.ensures.items ∙ ap (λ front. front ++ c.args.first.now) c.in_ok-found.ensures.items in
    c.requires.same ∙ sym (ap length same)

pub apply_each-requires-clause-sorted : goal.apply_each-requires-clause-sorted
apply_each-requires-clause-sorted g c =
    let same : c.as_mut_slice.result.now ≡ c.args.first.now = c.as_mut_slice.ensures.value ∙ c.in_ok-extend_from_slice.ensures.items ∙ ap (λ front. front ++ c.args.first.now) c.in_ok-found.ensures.items in
    rw same c.requires.sorted

pub returns-in-None-clause-ok : goal.returns-in-None-clause-ok
returns-in-None-clause-ok g c =
    let same : c.as_mut_slice.result.now ≡ c.args.first.now = c.as_mut_slice.ensures.value ∙ c.in_ok-extend_from_slice.ensures.items ∙ ap (λ front. front ++ c.args.first.now) c.in_ok-found.ensures.items in
    let long : c.extend_from_slice.new.self.len ≡ length c.apply_each.new.values = omega (arith, c.as_mut_slice.ensures.len, c.apply_each.auto.values) in
    rw (long, take-append_seam) (rw same at c.in-None.ensures)

pub returns-in-Some-clause-lost : goal.returns-in-Some-clause-lost
returns-in-Some-clause-lost g c =
    let same : c.as_mut_slice.result.now ≡ c.args.first.now = c.as_mut_slice.ensures.value ∙ c.in_ok-extend_from_slice.ensures.items ∙ ap (λ front. front ++ c.args.first.now) c.in_ok-found.ensures.items in
    loss-at c.lost_at.result c.in-Some.place (IsFirstUnfit c.args.operator.now (vals_of g.T.Theory.denotes c.args.first.now) (vals_of g.T.Theory.denotes c.args.second.now)) c.lost_at.ensures (rw same at c.in-Some.ensures)

pub returns-in_err-found-clause-ok : goal.returns-in_err-found-clause-ok
returns-in_err-found-clause-ok g c = IfOk-from_err c.from_residual.result _ c.from_residual.ensures.0

pub returns-in_err-extend_from_slice-clause-ok : goal.returns-in_err-extend_from_slice-clause-ok
returns-in_err-extend_from_slice-clause-ok g c = IfOk-from_err c.from_residual-in_err-extend_from_slice.result _ c.from_residual-in_err-extend_from_slice.ensures.0

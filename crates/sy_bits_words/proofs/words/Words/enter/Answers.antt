use Rattle.std.proofs.Common.{◌≡◌, ◌∙◌, arith, ap, subst, sym, length}
use Rattle.std.proofs.lemmas.List.{append-nil}
use Rattle.std.proofs.lemmas.Result.{IfOk-from_err}
use Rattle.sy_gates.specs.Circuits.{word_number}
use Rattle.sy_bits_sums.specs.Polynomials.{total, Agree}
use Rattle.sy_bits_words.proofs.Tables.{all-entered}
use Rattle.sy_bits_words.proofs.words.Words.enter.Goals as goal

pub returns-clause-stand : goal.returns-clause-stand
returns-clause-stand c = λ circuit inside all.
    let at : c.len-place.result ≡ length c.args.self.now = grind (arith, c.self.view_is, c.len-place.ensures) in
    all-entered circuit c.args.self.now c.push.new.self c.args.word.now _ c.in_ok-push.ensures (c.in_ok-word.ensures.items ∙ append-nil c.args.word.now) (c.in_ok-other.ensures.items ∙ append-nil c.args.word.now) (sym c.in_ok-sum.ensures.width) inside
    (λ v values e. subst (λ k. Agree k (total values c.in_ok-sum.sum.monomials.items) (word_number v c.args.word.now)) (sym c.in_ok-sum.ensures.width) (c.in_ok-sum.ensures.value v values (ap values at ∙ e)))
    all

pub returns-in_err-sum-clause-stand : goal.returns-in_err-sum-clause-stand
returns-in_err-sum-clause-stand c = IfOk-from_err c.from_residual.result _ c.from_residual.ensures.0

pub returns-in_err-sum-clause-longer : goal.returns-in_err-sum-clause-longer
returns-in_err-sum-clause-longer c = IfOk-from_err c.from_residual.result _ c.from_residual.ensures.0

pub returns-in_err-sum-clause-kept : goal.returns-in_err-sum-clause-kept
returns-in_err-sum-clause-kept c = IfOk-from_err c.from_residual.result _ c.from_residual.ensures.0

pub returns-in_err-sum-clause-within : goal.returns-in_err-sum-clause-within
returns-in_err-sum-clause-within c = IfOk-from_err c.from_residual.result _ c.from_residual.ensures.0

pub returns-in_err-sum-clause-same : goal.returns-in_err-sum-clause-same
returns-in_err-sum-clause-same c = IfOk-from_err c.from_residual.result _ c.from_residual.ensures.0

pub returns-in_err-sum-clause-other : goal.returns-in_err-sum-clause-other
returns-in_err-sum-clause-other c = IfOk-from_err c.from_residual.result _ c.from_residual.ensures.0

pub returns-in_err-other-clause-stand : goal.returns-in_err-other-clause-stand
returns-in_err-other-clause-stand c = IfOk-from_err c.from_residual-in_err-other.result _ c.from_residual-in_err-other.ensures.0

pub returns-in_err-other-clause-longer : goal.returns-in_err-other-clause-longer
returns-in_err-other-clause-longer c = IfOk-from_err c.from_residual-in_err-other.result _ c.from_residual-in_err-other.ensures.0

pub returns-in_err-other-clause-kept : goal.returns-in_err-other-clause-kept
returns-in_err-other-clause-kept c = IfOk-from_err c.from_residual-in_err-other.result _ c.from_residual-in_err-other.ensures.0

pub returns-in_err-other-clause-within : goal.returns-in_err-other-clause-within
returns-in_err-other-clause-within c = IfOk-from_err c.from_residual-in_err-other.result _ c.from_residual-in_err-other.ensures.0

pub returns-in_err-other-clause-same : goal.returns-in_err-other-clause-same
returns-in_err-other-clause-same c = IfOk-from_err c.from_residual-in_err-other.result _ c.from_residual-in_err-other.ensures.0

pub returns-in_err-other-clause-other : goal.returns-in_err-other-clause-other
returns-in_err-other-clause-other c = IfOk-from_err c.from_residual-in_err-other.result _ c.from_residual-in_err-other.ensures.0

pub returns-in_err-word-clause-stand : goal.returns-in_err-word-clause-stand
returns-in_err-word-clause-stand c = IfOk-from_err c.from_residual-in_err-word.result _ c.from_residual-in_err-word.ensures.0

pub returns-in_err-word-clause-longer : goal.returns-in_err-word-clause-longer
returns-in_err-word-clause-longer c = IfOk-from_err c.from_residual-in_err-word.result _ c.from_residual-in_err-word.ensures.0

pub returns-in_err-word-clause-kept : goal.returns-in_err-word-clause-kept
returns-in_err-word-clause-kept c = IfOk-from_err c.from_residual-in_err-word.result _ c.from_residual-in_err-word.ensures.0

pub returns-in_err-word-clause-within : goal.returns-in_err-word-clause-within
returns-in_err-word-clause-within c = IfOk-from_err c.from_residual-in_err-word.result _ c.from_residual-in_err-word.ensures.0

pub returns-in_err-word-clause-same : goal.returns-in_err-word-clause-same
returns-in_err-word-clause-same c = IfOk-from_err c.from_residual-in_err-word.result _ c.from_residual-in_err-word.ensures.0

pub returns-in_err-word-clause-other : goal.returns-in_err-word-clause-other
returns-in_err-word-clause-other c = IfOk-from_err c.from_residual-in_err-word.result _ c.from_residual-in_err-word.ensures.0

pub returns-in_err-push-clause-stand : goal.returns-in_err-push-clause-stand
returns-in_err-push-clause-stand c = IfOk-from_err c.from_residual-in_err-push.result _ c.from_residual-in_err-push.ensures.0

pub returns-in_err-push-clause-longer : goal.returns-in_err-push-clause-longer
returns-in_err-push-clause-longer c = IfOk-from_err c.from_residual-in_err-push.result _ c.from_residual-in_err-push.ensures.0

pub returns-in_err-push-clause-kept : goal.returns-in_err-push-clause-kept
returns-in_err-push-clause-kept c = IfOk-from_err c.from_residual-in_err-push.result _ c.from_residual-in_err-push.ensures.0

pub returns-in_err-push-clause-within : goal.returns-in_err-push-clause-within
returns-in_err-push-clause-within c = IfOk-from_err c.from_residual-in_err-push.result _ c.from_residual-in_err-push.ensures.0

pub returns-in_err-push-clause-same : goal.returns-in_err-push-clause-same
returns-in_err-push-clause-same c = IfOk-from_err c.from_residual-in_err-push.result _ c.from_residual-in_err-push.ensures.0

pub returns-in_err-push-clause-other : goal.returns-in_err-push-clause-other
returns-in_err-push-clause-other c = IfOk-from_err c.from_residual-in_err-push.result _ c.from_residual-in_err-push.ensures.0

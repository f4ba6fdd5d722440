use Rattle.std.proofs.Common.{◌+◌, ◌-◌, ◌^◌, refl}
use Rattle.std.proofs.lemmas.Nat.{pow_pos}
use Rattle.std.proofs.lemmas.Result.{IfOk-from_err}
use Rattle.sy_bits_sums.specs.Polynomials.{total}
use Rattle.sy_bits_sums.proofs.Agreeing.{multiple-less}
use Rattle.sy_bits_words.proofs.Joining.{taken-away, one-more, both-numbers}
use Rattle.sy_bits_words.proofs.meets.either_sum.Goals as goal

pub returns-clause-value : goal.returns-clause-value
returns-clause-value c = λ values x y m n first second part e.
    taken-away c.args.width x y (m + n) (total values c.in_ok-added.added.monomials.items) (total values c.args.both.now.monomials.items) (total values c.in_ok-either.either.monomials.items) (2 ^ c.args.width - 1)
    (one-more c.args.width (2 ^ c.args.width - 1) (pow_pos c.args.width) refl) e
    (both-numbers c.args.width m n _ _ _ first second (c.in_ok-added.ensures.value values)) part (multiple-less c.args.width _ _ _ _ refl (c.in_ok-either.ensures.value values))

pub returns-in_err-added-clause-width : goal.returns-in_err-added-clause-width
returns-in_err-added-clause-width c = IfOk-from_err c.from_residual.result _ c.from_residual.ensures.0

pub returns-in_err-added-clause-value : goal.returns-in_err-added-clause-value
returns-in_err-added-clause-value c = IfOk-from_err c.from_residual.result _ c.from_residual.ensures.0

pub returns-in_err-either-clause-width : goal.returns-in_err-either-clause-width
returns-in_err-either-clause-width c = IfOk-from_err c.from_residual-in_err-either.result _ c.from_residual-in_err-either.ensures.0

pub returns-in_err-either-clause-value : goal.returns-in_err-either-clause-value
returns-in_err-either-clause-value c = IfOk-from_err c.from_residual-in_err-either.result _ c.from_residual-in_err-either.ensures.0

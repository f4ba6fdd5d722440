use Rattle.std.proofs.Common.{◌-◌, ◌^◌, refl}
use Rattle.std.proofs.lemmas.Nat.{pow_pos}
use Rattle.std.proofs.lemmas.Result.{IfOk-from_err}
use Rattle.sy_bits_sums.specs.Polynomials.{total}
use Rattle.sy_bits_sums.proofs.Agreeing.{multiple-less}
use Rattle.sy_bits_words.proofs.Joining.{taken-away, one-more}
use Rattle.sy_bits_words.proofs.meets.without.Goals as goal

pub returns-then-taken-clause-value : goal.returns-then-taken-clause-value
returns-then-taken-clause-value c = λ values x y z all part e.
    taken-away c.args.width x y z (total values c.args.whole.now.monomials.items) (total values c.args.part.monomials.items) (total values c.in_ok-rest.rest.monomials.items) (2 ^ c.args.width - 1)
    (one-more c.args.width (2 ^ c.args.width - 1) (pow_pos c.args.width) refl) (rw c.if-taken.true at e) all part (multiple-less c.args.width _ _ _ _ refl (c.in_ok-rest.ensures.value values))

pub returns-in_err-rest-clause-width : goal.returns-in_err-rest-clause-width
returns-in_err-rest-clause-width c = IfOk-from_err c.from_residual.result _ c.from_residual.ensures.0

pub returns-in_err-rest-clause-value : goal.returns-in_err-rest-clause-value
returns-in_err-rest-clause-value c = IfOk-from_err c.from_residual.result _ c.from_residual.ensures.0

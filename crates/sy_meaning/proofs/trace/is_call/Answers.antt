use Rattle.std.proofs.Common.{◌≡◌, sym, ap, ◌∙◌, nat_eq, ◌&&◌, Bool, true, arith}
use Rattle.sy_terms_operators.proofs.Traced.{test_is}
use Rattle.sy_meaning.proofs.trace.is_call.Goals as goal

then_and : (b r s : Bool) → b ≡ true → r ≡ s → r ≡ (b && s)
then_and b r s yes_is e = e ∙ ap (λ x. x && s) (sym yes_is)

pub returns-then-call-function : goal.returns-then-call-function
returns-then-call-function g c =
    let same = rw (c.as_slice.ensures) at c.same_values.ensures in
    let function : nat_eq c.args.call.now.0 c.args.function ≡ true = grind (arith, c.if-call-function.true) in
    then_and _ _ _ function (test_is _ _ _ same)

use Rattle.std.proofs.Common.{refl}
use Rattle.sy_terms.specs.Denoted.{val_of, expr_of-App, expr_of-Const}
use Rattle.sy_bank.proofs.ConstantSizes.{literal-negative, literal-plain}
use Rattle.sy_bank.proofs.leaf.literal.Goals as goal

pub returns-in_ok-push-in-Some : goal.returns-in_ok-push-in-Some
returns-in_ok-push-in-Some g c =
    let number = g.T.Theory.denotes in
    let found = rw c.in-Some.is at c.opposite.ensures in
    rw (expr_of-App, c.in_ok-push-in-Some.ensures.ok, c.new-arguments.ensures, expr_of-Const, literal-negative (val_of number c.args.value) (number c.in-Some.positive) found) refl

pub returns-in-None : goal.returns-in-None
returns-in-None g c =
    let number = g.T.Theory.denotes in
    let found = rw c.in-None.is at c.opposite.ensures in
    rw (expr_of-Const, literal-plain (val_of number c.args.value) found) refl

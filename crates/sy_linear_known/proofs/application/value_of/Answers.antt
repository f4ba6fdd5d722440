use Rattle.std.specs.Prelude.{◌≡◌, IfOk}
use Rattle.std.proofs.Common.{ap, subst, ◌∙◌}
use Rattle.std.proofs.lemmas.Result.{IfOk-from_err}
use Rattle.sy_linear_known.specs.Sights.{told}
use Rattle.sy_linear_known.proofs.Applied as applied
use Rattle.sy_linear_known.proofs.application.value_of.Goals as goal

pub returns-in-And : goal.returns-in-And
returns-in-And c = c.told.ensures ∙ ap told c.all_of.ensures ∙ applied.applied-and c.args.path.now c.args.operator.now c.args.sights.now c.in-And.is

pub returns-in-Or : goal.returns-in-Or
returns-in-Or c = c.told-in-Or.ensures ∙ ap told c.any_of.ensures ∙ applied.applied-or c.args.path.now c.args.operator.now c.args.sights.now c.in-Or.is

pub returns-in-Not : goal.returns-in-Not
returns-in-Not c = subst (λ m. IfOk c.evaluated.result (λ n. n ≡ m)) (applied.applied-not c.args.path.now c.args.operator.now c.args.sights.now c.in-Not.is) c.evaluated.ensures

pub returns-in-Xor : goal.returns-in-Xor
returns-in-Xor c = subst (λ m. IfOk c.evaluated-in-Xor.result (λ n. n ≡ m)) (applied.applied-xor c.args.path.now c.args.operator.now c.args.sights.now c.in-Xor.is) c.evaluated-in-Xor.ensures

pub returns-in-Implies : goal.returns-in-Implies
returns-in-Implies c = subst (λ m. IfOk c.evaluated-in-Implies.result (λ n. n ≡ m)) (applied.applied-implies c.args.path.now c.args.operator.now c.args.sights.now c.in-Implies.is) c.evaluated-in-Implies.ensures

pub returns-in-Ite : goal.returns-in-Ite
returns-in-Ite c = subst (λ m. IfOk c.chosen.result (λ n. n ≡ m)) (applied.applied-ite c.args.path.now c.args.operator.now c.args.sights.now c.in-Ite.is) c.chosen.ensures

pub returns-in-Neg : goal.returns-in-Neg
returns-in-Neg c = subst (λ m. IfOk c.negated.result (λ n. n ≡ m)) (applied.applied-neg c.args.path.now c.args.operator.now c.args.sights.now c.in-Neg.is) c.negated.ensures

pub returns-in-Add : goal.returns-in-Add
returns-in-Add c = subst (λ m. IfOk c.folded.result (λ n. n ≡ m)) (applied.applied-add c.args.path.now c.args.operator.now c.args.sights.now c.in-Add.is) c.folded.ensures

pub returns-in-Sub : goal.returns-in-Sub
returns-in-Sub c = subst (λ m. IfOk c.folded-in-Sub.result (λ n. n ≡ m)) (applied.applied-sub c.args.path.now c.args.operator.now c.args.sights.now c.in-Sub.is) c.folded-in-Sub.ensures

pub returns-in-Mul : goal.returns-in-Mul
returns-in-Mul c = subst (λ m. IfOk c.folded-in-Mul.result (λ n. n ≡ m)) (applied.applied-mul c.args.path.now c.args.operator.now c.args.sights.now c.in-Mul.is) c.folded-in-Mul.ensures

pub returns-in-Le : goal.returns-in-Le
returns-in-Le c = subst (λ m. IfOk c.in_row-in-Le.result (λ n. n ≡ m)) (applied.applied-le c.args.path.now c.args.operator.now c.args.sights.now c.in-Le.is) c.in_row-in-Le.ensures

pub returns-in-Lt : goal.returns-in-Lt
returns-in-Lt c = subst (λ m. IfOk c.in_row-in-Lt.result (λ n. n ≡ m)) (applied.applied-lt c.args.path.now c.args.operator.now c.args.sights.now c.in-Lt.is) c.in_row-in-Lt.ensures

pub returns-in-Ge : goal.returns-in-Ge
returns-in-Ge c = subst (λ m. IfOk c.in_row-in-Ge.result (λ n. n ≡ m)) (applied.applied-ge c.args.path.now c.args.operator.now c.args.sights.now c.in-Ge.is) c.in_row-in-Ge.ensures

pub returns-in-Gt : goal.returns-in-Gt
returns-in-Gt c = subst (λ m. IfOk c.in_row-in-Gt.result (λ n. n ≡ m)) (applied.applied-gt c.args.path.now c.args.operator.now c.args.sights.now c.in-Gt.is) c.in_row-in-Gt.ensures

pub returns-in_ok-compared-in-Equal : goal.returns-in_ok-compared-in-Equal
returns-in_ok-compared-in-Equal c = subst (λ m. IfOk c.by_truths_or.result (λ n. n ≡ m)) (applied.applied-equal c.args.path.now c.args.operator.now c.args.sights.now c.in_ok-compared-in-Equal.compared c.in-Equal.is c.in_ok-compared-in-Equal.ensures) c.by_truths_or.ensures

pub returns-in_ok-compared-in-Distinct : goal.returns-in_ok-compared-in-Distinct
returns-in_ok-compared-in-Distinct c = subst (λ m. IfOk c.by_truths_or-in-Distinct.result (λ n. n ≡ m)) (applied.applied-distinct c.args.path.now c.args.operator.now c.args.sights.now c.in_ok-compared-in-Distinct.compared c.in-Distinct.is c.in_ok-compared-in-Distinct.ensures) c.by_truths_or-in-Distinct.ensures

pub returns-in_default : goal.returns-in_default
returns-in_default c = c.unfit.ensures ∙ applied.applied-unfit c.args.path.now c.args.operator.now c.args.sights.now c.in_default.not-And c.in_default.not-Or c.in_default.not-Not c.in_default.not-Xor c.in_default.not-Implies c.in_default.not-Equal c.in_default.not-Distinct c.in_default.not-Ite c.in_default.not-Neg c.in_default.not-Add c.in_default.not-Sub c.in_default.not-Mul c.in_default.not-Le c.in_default.not-Lt c.in_default.not-Ge c.in_default.not-Gt

pub returns-in_err-compared-in-Equal : goal.returns-in_err-compared-in-Equal
returns-in_err-compared-in-Equal c = IfOk-from_err c.from_residual.result _ c.from_residual.ensures.0

pub returns-in_err-compared-in-Distinct : goal.returns-in_err-compared-in-Distinct
returns-in_err-compared-in-Distinct c = IfOk-from_err c.from_residual-in_err-compared-in-Distinct.result _ c.from_residual-in_err-compared-in-Distinct.ensures.0

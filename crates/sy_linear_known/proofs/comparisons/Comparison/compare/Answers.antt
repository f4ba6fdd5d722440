use Rattle.std.specs.Prelude.{◌≡◌, IfOk}
use Rattle.std.proofs.Common.{sym, subst}
use Rattle.sy_linear_known.specs.Operations.{comparison}
use Rattle.sy_linear_known.proofs.comparisons.Comparison.compare.Goals as goal

pub returns-in-AtMost : goal.returns-in-AtMost
returns-in-AtMost c = subst (λ o. IfOk c.at_most.result (λ n. n ≡ comparison o c.args.path.now c.args.f.now c.args.g.now)) (sym c.in-AtMost.is) c.at_most.ensures

pub returns-in-Less : goal.returns-in-Less
returns-in-Less c = subst (λ o. IfOk c.less.result (λ n. n ≡ comparison o c.args.path.now c.args.f.now c.args.g.now)) (sym c.in-Less.is) c.less.ensures

pub returns-in-AtLeast : goal.returns-in-AtLeast
returns-in-AtLeast c = subst (λ o. IfOk c.at_most-in-AtLeast.result (λ n. n ≡ comparison o c.args.path.now c.args.f.now c.args.g.now)) (sym c.in-AtLeast.is) c.at_most-in-AtLeast.ensures

pub returns-in-Greater : goal.returns-in-Greater
returns-in-Greater c = subst (λ o. IfOk c.less-in-Greater.result (λ n. n ≡ comparison o c.args.path.now c.args.f.now c.args.g.now)) (sym c.in-Greater.is) c.less-in-Greater.ensures

pub returns-in-Equal : goal.returns-in-Equal
returns-in-Equal c = subst (λ o. IfOk c.equal.result (λ n. n ≡ comparison o c.args.path.now c.args.f.now c.args.g.now)) (sym c.in-Equal.is) c.equal.ensures

pub returns-in-Distinct : goal.returns-in-Distinct
returns-in-Distinct c = subst (λ o. IfOk c.distinct.result (λ n. n ≡ comparison o c.args.path.now c.args.f.now c.args.g.now)) (sym c.in-Distinct.is) c.distinct.ensures

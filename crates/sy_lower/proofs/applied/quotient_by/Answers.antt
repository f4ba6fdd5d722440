use Rattle.std.proofs.Common.{◌≡◌, to_z, of_z, rules}
use Rattle.std.specs.Int.{w128}
use Rattle.std.proofs.lemmas.Int.{to_z-of_z}
use Rattle.sy_terms.specs.Values.{Whole}
use Rattle.sy_terms.specs.Denoted.{expr_of, expr_of-Var}
use Rattle.sy_lower.specs.Stored.{progress_in}
use Rattle.sy_lower.proofs.Making.{quotient_is, quotient_stays}
use Rattle.sy_lower.proofs.applied.quotient_by.Goals as goal

pub returns-in_ok-quotient-in-Some : goal.returns-in_ok-quotient-in-Some
returns-in_ok-quotient-in-Some c =
    let e : to_z w128 (of_z w128 c.in-Some.divisor) ≡ c.in-Some.divisor = to_z-of_z w128 c.in-Some.divisor (search rules) in
    quotient_is (progress_in c.args.progress.now) _ (expr_of Whole c.args.dividend) (expr_of Whole c.args.divided_by.now) _ c.in-Some.divisor _ c.in-Some.ensures (rw e at c.in_ok-quotient-in-Some.ensures) (expr_of-Var _ Whole _)

pub returns-in_ok-term-in-None : goal.returns-in_ok-term-in-None
returns-in_ok-term-in-None c =
    quotient_stays (progress_in c.args.progress.now) (expr_of Whole c.args.dividend) (expr_of Whole c.args.divided_by.now) (expr_of Whole c.in_ok-copy-in-None.copy) _ c.in-None.ensures c.in_ok-copy-in-None.ensures c.in_ok-term-in-None.ensures

use Rattle.std.proofs.Common.{◌≡◌, to_z, of_z}
use Rattle.std.specs.Int.{w128}
use Rattle.std.proofs.lemmas.Int.{to_z-of_z}
use Rattle.sy_terms.specs.Values.{Whole}
use Rattle.sy_terms.specs.Denoted.{expr_of}
use Rattle.sy_lower.specs.Stored.{progress_in}
use Rattle.sy_lower.proofs.Making.{met, not_met}
use Rattle.sy_lower.proofs.progress.Progress.divide.Goals as goal

pub returns-in-Some : goal.returns-in-Some
returns-in-Some c =
    let e : to_z w128 (of_z w128 c.args.divisor) ≡ c.args.divisor = to_z-of_z w128 c.args.divisor c.ranges.divisor in
    met (progress_in c.args.self.now) (expr_of Whole c.args.dividend) c.args.divisor c.in-Some.quotient (rw e at c.in-Some.ensures)

pub returns-in_ok-quotient-in-None : goal.returns-in_ok-quotient-in-None
returns-in_ok-quotient-in-None c =
    let e : to_z w128 (of_z w128 c.args.divisor) ≡ c.args.divisor = to_z-of_z w128 c.args.divisor c.ranges.divisor in
    not_met (progress_in c.args.self.now) _ (expr_of Whole c.args.dividend) c.args.divisor c.in_ok-quotient-in-None.quotient (rw e at c.in-None.ensures) (rw e at c.in_ok-quotient-in-None.ensures)

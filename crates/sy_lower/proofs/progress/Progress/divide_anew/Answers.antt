use Rattle.std.proofs.Common.{◌≡◌, to_z, of_z}
use Rattle.std.specs.Int.{w128}
use Rattle.std.proofs.lemmas.Int.{to_z-of_z}
use Rattle.sy_terms.specs.Values.{Whole}
use Rattle.sy_terms.specs.Denoted.{expr_of}
use Rattle.sy_lower.specs.Stored.{progress_in}
use Rattle.sy_lower.proofs.Making.{divides_same, pair_added}
use Rattle.sy_lower.proofs.progress.Progress.divide_anew.Goals as goal

pub returns : goal.returns
returns c =
    let e : to_z w128 (of_z w128 c.args.divisor) ≡ c.args.divisor = to_z-of_z w128 c.args.divisor c.ranges.divisor in
    divides_same (progress_in c.args.self.now) (expr_of Whole c.args.dividend) (expr_of Whole c.in_ok-copy.copy) c.args.divisor (to_z w128 (of_z w128 c.args.divisor)) c.in_ok-made.made.0 _ _ _ e c.in_ok-made.ensures.variables.0 c.in_ok-made.ensures.sorts c.in_ok-add_sides.ensures
    (pair_added _ _ _ c.in_ok-add.ensures) c.in_ok-copy.ensures

use Rattle.std.proofs.Common.{[], ◌∷◌, map}
use Rattle.std.proofs.lemmas.List.{map-append}
use Rattle.sy_terms.specs.Denoted.{vals_of}
use Rattle.sy_bank_level.proofs.Points.{points-more}
use Rattle.bench_parts.proofs.bank.points.Goals as goal

pub loop-preserved : goal.loop-preserved
loop-preserved g c =
    let number = g.T.Theory.denotes in
    let are_valid = rw c.in-Some.is at c.in_ok-point.ensures.valid in
    let sorted = rw c.in-Some.is at c.in_ok-point.ensures.sorts in
    rw (c.in_ok-push.ensures.ok, map-append)
    (points-more (c.args.sort ∷ c.args.sort ∷ c.args.sort ∷ c.args.sort ∷ []) (map (vals_of number) c.loop.points) (vals_of number c.in-Some.point) are_valid sorted c.loop.invariant)

use Rattle.std.specs.Prelude.{pos}
use Rattle.sy_simplex.proofs.Exact.{opposite_made, number_back, number_same}
use Rattle.sy_simplex.proofs.fractions.negated.Goals as goal

pub returns : goal.returns
returns c =
    opposite_made c.args.f.now c.in-Some.g _ _ c.in-Some.ensures.1 c.num.ensures.lowest
    (number_back c.num.result c.args.f.now.num c.num.ensures.value c.num.ensures.lowest.num_fits)
    (number_same c.den.result (pos c.args.f.now.den) c.den.ensures.value c.num.ensures.lowest.den_fits)

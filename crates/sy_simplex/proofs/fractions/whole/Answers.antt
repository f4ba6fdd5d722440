use Rattle.sy_simplex.proofs.Results.{whole_bits}
use Rattle.sy_simplex.proofs.fractions.whole.Goals as goal

pub returns : goal.returns
returns c = whole_bits c.args.number c.new.result c.ranges.number c.new.ensures

use Rattle.sy_bits_sums.proofs.Agreeing.{product-insert}
use Rattle.sy_bits_sums.proofs.monomial.add_factor.Goals as goal

pub returns : goal.returns
returns c = λ values. product-insert values c.args.factors.now.items c.insert.new.self.items c.partition_point-at.result c.args.place c.in_ok-insert.ensures.items

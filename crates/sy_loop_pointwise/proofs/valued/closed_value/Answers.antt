use Rattle.sy_loop_pointwise.proofs.valued.closed_value.Goals as goal

pub returns : goal.returns
returns g c = c.plain_value-value.ensures

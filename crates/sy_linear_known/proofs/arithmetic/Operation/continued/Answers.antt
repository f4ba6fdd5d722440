use Rattle.sy_linear_known.proofs.arithmetic.Operation.continued.Goals as goal

pub returns : goal.returns
returns c = c.combined-next.ensures

use Rattle.sy_intsolve_cuts.proofs.Layers.{grows, leads, inner-plugged}
use Rattle.sy_intsolve_cuts.proofs.laws.whole_trees.Goals as goal

pub returns-clause-grows : goal.returns-clause-grows
returns-clause-grows c order query path layers facts end = grows order query path layers facts end

pub returns-clause-leads : goal.returns-clause-leads
returns-clause-leads c order query path layers facts end to = leads order query path layers facts end to

pub returns-clause-inner : goal.returns-clause-inner
returns-clause-inner c layers end = inner-plugged layers end

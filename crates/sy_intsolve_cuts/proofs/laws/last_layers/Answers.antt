use Rattle.sy_intsolve_cuts.proofs.Layers.{plugged-last, inner_of-last, waiting-last, layers-more, layers-last}
use Rattle.sy_intsolve_cuts.proofs.laws.last_layers.Goals as goal

pub returns-clause-whole : goal.returns-clause-whole
returns-clause-whole c layers layer end = plugged-last layers layer end

pub returns-clause-inner : goal.returns-clause-inner
returns-clause-inner c layers layer = inner_of-last layers layer

pub returns-clause-waiting : goal.returns-clause-waiting
returns-clause-waiting c layers layer = waiting-last layers layer

pub returns-clause-more : goal.returns-clause-more
returns-clause-more c order query path layers facts layer fact = layers-more order query path layers facts layer fact

pub returns-clause-last : goal.returns-clause-last
returns-clause-last c order query path layers facts layer fact = layers-last order query path layers facts layer fact

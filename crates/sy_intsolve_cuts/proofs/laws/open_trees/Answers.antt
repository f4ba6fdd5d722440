use Rattle.sy_intsolve_cuts.proofs.Opening.{nodes_met, opens_at}
use Rattle.sy_intsolve_cuts.proofs.laws.open_trees.Goals as goal

pub returns-clause-nodes : goal.returns-clause-nodes
returns-clause-nodes c query layers facts = nodes_met query layers facts

pub returns-clause-opens : goal.returns-clause-opens
returns-clause-opens c query nodes layers facts = opens_at query nodes layers facts

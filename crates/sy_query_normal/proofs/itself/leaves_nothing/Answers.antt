use Rattle.sy_query_normal.proofs.Twice.{shift-nothing, urem-nothing, srem-nothing, smod-nothing}
use Rattle.sy_query_normal.proofs.itself.leaves_nothing.Goals as goal

pub returns-in-BvLshr : goal.returns-in-BvLshr
returns-in-BvLshr c = λ does. rw c.in-BvLshr.is shift-nothing

pub returns-in-BvUrem : goal.returns-in-BvUrem
returns-in-BvUrem c = λ does. rw c.in-BvUrem.is urem-nothing

pub returns-in-BvSrem : goal.returns-in-BvSrem
returns-in-BvSrem c = λ does. rw c.in-BvSrem.is srem-nothing

pub returns-in-BvSmod : goal.returns-in-BvSmod
returns-in-BvSmod c = λ does. rw c.in-BvSmod.is smod-nothing

use Rattle.std.proofs.Common.{◌-◌, length}
use Rattle.sy_cdcl.specs.Storing.{clauses_in}
use Rattle.sy_cdcl.specs.Watching.{list_at}
use Rattle.sy_cdcl.proofs.Visiting.{IsVisiting}
use Rattle.sy_cdcl.proofs.propagation.visit.Given as goal

abbrev pub invariant-loop-number : goal.invariant-loop-number
invariant-loop-number l =
    IsVisiting (clauses_in l.store) l.initial.trail l.trail l.watches l.initial.watches.head l.list l.place l.fn.entry

abbrev pub decreases-loop-number : goal.decreases-loop-number
decreases-loop-number l = length (list_at l.watches.lists.items l.list) - l.place

use Rattle.std.proofs.Common.{take}
use Rattle.sy_clauses.specs.Names.{names}
use Rattle.sy_clauses.specs.Needed.{IsEarlierNamed, IsMarked}
use Rattle.sy_clauses.proofs.marking.mark_named.Given as goal

abbrev pub invariant-loop-step : goal.invariant-loop-step
invariant-loop-step l = IsMarked
    (IsEarlierNamed l.formula l.place
    (names (record { first = l.line.first; steps = take l.step-index l.line.steps })))
    l.fn.needed l.needed

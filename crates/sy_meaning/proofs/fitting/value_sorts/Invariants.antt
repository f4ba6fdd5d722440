use Rattle.std.proofs.Common.{◌≡◌, take}
use Rattle.sy_terms.specs.Denoted.{AreValid, sorts_of}
use Rattle.sy_meaning.proofs.fitting.value_sorts.Given as goal

abbrev pub invariant-loop-value : goal.invariant-loop-value
invariant-loop-value g l =
    AreValid g.T.Theory.denotes (take l.value-index l.values) × (l.found.items ≡ sorts_of g.T.Theory.denotes (take l.value-index l.values))

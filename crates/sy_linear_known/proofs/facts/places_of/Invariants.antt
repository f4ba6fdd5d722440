use Rattle.std.proofs.Common.{take}
use Rattle.std.specs.Prelude.{nat_eq}
use Rattle.std.specs.HashMap.{get}
use Rattle.sy_linear_known.specs.Keyed.{EachIsKeyed}
use Rattle.sy_linear_known.proofs.facts.places_of.Given as goal

abbrev pub invariant-loop-fact : goal.invariant-loop-fact
invariant-loop-fact l = EachIsKeyed (get nat_eq l.places) (take l.fact-index l.facts)

use Rattle.std.proofs.Common.{◌≡◌, ◌++◌, drop}
use Rattle.sy_linear_known.specs.Trees.{forms}
use Rattle.sy_intsolve_cuts.proofs.forms.forms_of.Given as goal

abbrev pub invariant-loop-fact : goal.invariant-loop-fact
invariant-loop-fact l = l.all ++ forms (drop l.fact-index l.facts) ≡ forms l.facts

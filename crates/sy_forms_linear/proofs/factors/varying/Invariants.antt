use Rattle.std.proofs.Common.{◌≡◌, ◌+◌, ◌≤◌, drop}
use Rattle.sy_forms_items.specs.Meant.{phrases_of}
use Rattle.sy_forms_linear.specs.Linear as spec
use Rattle.sy_forms_linear.proofs.factors.varying.Given as goal

abbrev pub invariant-loop-factor : goal.invariant-loop-factor
invariant-loop-factor g l =
    (l.count + spec.varying_factors l.constants (phrases_of g.T.Theory.denotes (drop l.factor-index l.factors)) ≡ spec.varying_factors l.constants (phrases_of g.T.Theory.denotes l.factors))
    × (l.count ≤ l.factor-index)

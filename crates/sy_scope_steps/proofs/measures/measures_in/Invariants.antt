use Rattle.std.proofs.Common.{◌≡◌, drop}
use Rattle.sy_terms.specs.Definitions.{bodies}
use Rattle.sy_forms_items.specs.Measured.{measures_of}
use Rattle.sy_scope_steps.specs.Sizes.{measured_behind, measures_in}
use Rattle.sy_scope_steps.proofs.measures.measures_in.Given as goal

abbrev pub invariant-loop-def : goal.invariant-loop-def
invariant-loop-def g l = measured_behind (measures_of l.measures) (bodies g.T.Theory.denotes (drop l.def-index l.defs)) ≡ measures_in (bodies g.T.Theory.denotes l.defs)

use Rattle.std.proofs.Common.{◌≡◌, ◌++◌, drop}
use Rattle.sy_terms.specs.Values.{Whole}
use Rattle.sy_terms.specs.Denoted.{vals_of}
use Rattle.sy_intsolve_cuts.proofs.Wholes.{values_from}
use Rattle.sy_intsolve_cuts.proofs.values.values_of.Given as goal

abbrev pub invariant-loop-sort : goal.invariant-loop-sort
invariant-loop-sort l = record {
  kept : vals_of Whole l.values ++ values_from l.facts l.point l.number (drop l.sort-index l.vars) ≡ values_from l.facts l.point 0 l.vars;
  number : l.number ≡ l.sort-index;
}

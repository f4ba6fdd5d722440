use Rattle.std.proofs.Common.{◌≡◌, ◌++◌, true, drop}
use Rattle.sy_linear_known.specs.Seen.{variable_sights}
use Rattle.sy_linear_known.specs.Fitting.{all_fit}
use Rattle.sy_linear_known.proofs.queries.variable_sights.Given as goal

abbrev pub invariant-loop-sort : goal.invariant-loop-sort
invariant-loop-sort l = record {
  kept : l.names.items ++ variable_sights l.path l.number (drop l.sort-index l.vars) ≡ variable_sights l.path 0 l.vars;
  fits : all_fit l.names.items ≡ true;
  number : l.number ≡ l.sort-index;
}

use Rattle.std.proofs.Common.{◌≡◌, ◌++◌, true, drop}
use Rattle.sy_linear_known.specs.Forms.{scaled, all_in_range}
use Rattle.sy_linear_known.proofs.coefficients.scale.Given as goal

abbrev pub invariant-loop-variable : goal.invariant-loop-variable
invariant-loop-variable l = record {
  kept : l.all ++ scaled l.factor (drop l.variable-index l.cs) ≡ scaled l.factor l.cs;
  fits : all_in_range l.all ≡ true;
}

use Rattle.std.proofs.Common.{◌≡◌, true, take}
use Rattle.sy_linear_known.specs.Forms.{all_in_range}
use Rattle.sy_linear.proofs.nodes.copied.Given as goal

abbrev pub invariant-loop-coefficient : goal.invariant-loop-coefficient
invariant-loop-coefficient l = record {
  kept : l.coefs ≡ take l.coefficient-index l.coefficient-items;
  fits : all_in_range l.coefs ≡ true;
}

use Rattle.std.proofs.Common.{◌≡◌, ◌++◌, take, drop}
use Rattle.std.specs.Prelude.{All}
use Rattle.sy_frac.specs.Fraction.{IsLowest}
use Rattle.sy_proof.specs.Lists.{each_item, spaced}
use Rattle.sy_proof.specs.Numbers.{fraction_item}
use Rattle.sy_proof.proofs.tree_text.put_fractions.Given as goal

abbrev pub invariant-loop-fraction : goal.invariant-loop-fraction
invariant-loop-fraction l = record {
  text : l.out ++ spaced (each_item fraction_item (drop l.fraction-index l.fractions)) ≡ l.fn.out ++ spaced (each_item fraction_item l.fractions);
  lowest : All IsLowest (take l.fraction-index l.fractions);
}

use Rattle.std.proofs.Common.{length}
use Rattle.std.specs.Prelude.{All}
use Rattle.sy_text_items.specs.Items.{listed}
use Rattle.sy_forms_items.specs.Views.{items_in}
use Rattle.sy_frac.specs.Fraction.{IsLowest}
use Rattle.sy_proof.specs.Lists.{each_in}
use Rattle.sy_proof.specs.Numbers.{fraction_in}
use Rattle.sy_proof.proofs.Lists.{Onward}
use Rattle.sy_proof.proofs.wholes.fractions.Given as goal

abbrev pub invariant-loop-item : goal.invariant-loop-item
invariant-loop-item l = record {
  onward : Onward l.fractions (each_in fraction_in (items_in l.left)) (each_in fraction_in (items_in l.fn.items));
  lowest : All IsLowest l.fractions;
}

abbrev pub decreases-loop-item : goal.decreases-loop-item
decreases-loop-item l = length (listed (items_in l.left))

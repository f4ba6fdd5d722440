use Rattle.std.proofs.Common.{sym, subst}
use Rattle.std.specs.Prelude.{All}
use Rattle.std.proofs.lemmas.List.Elements.{All-push}
use Rattle.sy_text_items.specs.Views.{item_of}
use Rattle.sy_forms_items.specs.Views.{items_in}
use Rattle.sy_frac.specs.Fraction.{IsLowest}
use Rattle.sy_proof.specs.Lists.{each_in}
use Rattle.sy_proof.specs.Numbers.{fraction_in}
use Rattle.sy_proof.proofs.Lists.{finds_missing, onward_step}
use Rattle.sy_proof.proofs.wholes.fractions.Goals as goal

pub returns-in_default-fraction : goal.returns-in_default-fraction
returns-in_default-fraction c =
    finds_missing IsLowest fraction_in c.loop-item.fractions (items_in c.loop-item.left) (items_in c.in-Some.rest) (each_in fraction_in (items_in c.args.items)) (item_of c.in-Some.item.now) c.in-Some.ensures c.in_default-fraction.ensures
    c.loop-item.invariant.onward

pub loop-item-preserved : goal.loop-item-preserved
loop-item-preserved c = record {
  onward = onward_step fraction_in c.loop-item.fractions c.push.new.self (items_in c.loop-item.left) (items_in c.in-Some.rest) (each_in fraction_in (items_in c.args.items)) (item_of c.in-Some.item.now) c.in-Some-fraction.fraction c.in-Some.ensures
      (sym c.in-Some-fraction.ensures.0) c.in_ok-push.ensures.ok c.loop-item.invariant.onward;
  lowest = subst (All IsLowest) (sym c.in_ok-push.ensures.ok) (All-push IsLowest c.loop-item.fractions c.in-Some-fraction.fraction c.loop-item.invariant.lowest c.in-Some-fraction.ensures.1);
}

use Rattle.std.proofs.Common.{◌<◌, ◌∷◌, length, refl, subst, arith, List}
use Rattle.std.specs.Prelude.{All}
use Rattle.std.proofs.lemmas.List.{take_all}
use Rattle.std.proofs.lemmas.List.Elements.{All-more}
use Rattle.sy_frac.specs.Fraction.{Fraction, IsLowest}
use Rattle.sy_proof.specs.Lists.{each_item, spaced}
use Rattle.sy_text.specs.Spelling.{item_text}
use Rattle.sy_proof.specs.Numbers.{fraction_item}
use Rattle.sy_proof.proofs.Lists.{written_step}
use Rattle.sy_proof.proofs.tree_text.put_fractions.Goals as goal

pub loop-fraction-preserved : goal.loop-fraction-preserved
loop-fraction-preserved c =
    let within : c.loop-fraction.fraction-index < length c.args.fractions.now = omega arith in
    record {
      text = written_step (λ (fractions : List Fraction). spaced (each_item fraction_item fractions)) (λ (fraction : Fraction). 32 ∷ item_text (fraction_item fraction)) (λ fraction fractions. refl) c.args.fractions.now c.loop-fraction.fraction-index c.fraction-item.result c.fraction-item.result c.loop-fraction.out c.put_fraction.new.out _ within c.fraction-item.is c.in_ok-put_fraction.ensures.text c.loop-fraction.invariant.text;
      lowest = All-more IsLowest c.args.fractions.now c.loop-fraction.fraction-index c.fraction-item.result within c.loop-fraction.invariant.lowest (subst IsLowest c.fraction-item.is c.in_ok-put_fraction.ensures.lowest);
    }

pub returns-clause-lowest : goal.returns-clause-lowest
returns-clause-lowest c = subst (All IsLowest) (take_all c.loop-fraction.fraction-index c.args.fractions.now (omega arith)) c.loop-fraction.invariant.lowest

use Rattle.std.proofs.Common.{◌<◌, ◌∷◌, length, get_or, refl, subst, arith, List}
use Rattle.std.specs.Prelude.{All, pos}
use Rattle.std.proofs.lemmas.List.{take_all}
use Rattle.std.proofs.lemmas.List.Elements.{All-more}
use Rattle.sy_linear_known.specs.Forms.{Coefficient}
use Rattle.sy_proof.specs.Lists.{each_item, spaced}
use Rattle.sy_text.specs.Spelling.{item_text}
use Rattle.sy_proof.specs.Nodes.{pair_item, PairFits}
use Rattle.sy_proof.proofs.Lists.{written_step}
use Rattle.sy_proof.proofs.tree_text.put_pairs.Goals as goal

pub loop-pair-preserved : goal.loop-pair-preserved
loop-pair-preserved c =
    let zero : Coefficient = (0, pos 0) in
    let within : c.loop-pair.pair-index < length c.args.pairs.now = omega arith in
    record {
      text = written_step (λ (pairs : List Coefficient). spaced (each_item pair_item pairs)) (λ (pair : Coefficient). 32 ∷ item_text (pair_item pair)) (λ pair pairs. refl) c.args.pairs.now c.loop-pair.pair-index (get_or c.args.pairs.now c.loop-pair.pair-index zero) zero c.loop-pair.out c.put_pair.new.out _ within refl c.in_ok-put_pair.ensures.text c.loop-pair.invariant.text;
      fit = All-more PairFits c.args.pairs.now c.loop-pair.pair-index zero within c.loop-pair.invariant.fit c.in_ok-put_pair.ensures.fits;
    }

pub returns-clause-fit : goal.returns-clause-fit
returns-clause-fit c = subst (All PairFits) (take_all c.loop-pair.pair-index c.args.pairs.now (omega arith)) c.loop-pair.invariant.fit

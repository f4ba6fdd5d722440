use Rattle.std.proofs.Common.{◌≡◌, refl, ◌∙◌, ap, sym, false}
use Rattle.std.proofs.lemmas.List.{drop_all}
use Rattle.sy_terms.specs.Values.{Truth, truth}
use Rattle.sy_terms.specs.Denoted.{val_of}
use Rattle.sy_meaning_core.proofs.Lists.{odd_from, odd_from-step, beq-same, xor-odd}
use Rattle.sy_meaning_core.proofs.truths.exclusive.Goals as goal

pub loop-v-init : goal.loop-v-init
loop-v-init g c = refl

pub loop-v-preserved : goal.loop-v-preserved
loop-v-preserved g c =
    c.loop-v.invariant ∙ odd_from-step (λ v. truth (val_of g.N.Number.denotes v)) c.loop-v.odd c.args.values.now c.loop-v.v-index c.v-item.result c.is_true-odd.result _ c.loop-v-test.true c.v-item.is c.is_true-odd.ensures (beq-same c.loop-v.odd c.is_true-odd.result)

pub returns : goal.returns
returns g c =
    let done : odd_from (λ v. truth (val_of g.N.Number.denotes v)) false c.args.values.now ≡ c.loop-v.odd =
    c.loop-v.invariant ∙ ap (odd_from (λ v. truth (val_of g.N.Number.denotes v)) c.loop-v.odd) (drop_all c.loop-v.v-index c.args.values.now c.loop-v-test.false) in
    ap Truth (sym done) ∙ xor-odd (val_of g.N.Number.denotes) c.args.values.now c.requires.sort c.requires.fits

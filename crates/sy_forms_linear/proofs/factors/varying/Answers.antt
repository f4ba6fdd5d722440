use Rattle.std.proofs.Common.{◌≡◌, ◌+◌, arith, ap, drop}
use Rattle.std.proofs.lemmas.List.{at_drop_all}
use Rattle.sy_forms_items.specs.Meant.{phrase_of, phrases_of}
use Rattle.sy_forms_linear.specs.Linear.{varying_factors, factor_weight}
use Rattle.sy_forms_items.proofs.Lookups.{found_at, drop-at}
use Rattle.sy_forms_linear.proofs.factors.varying.Goals as goal

pub loop-factor-preserved : goal.loop-factor-preserved
loop-factor-preserved g c =
    let i = c.loop-factor.factor-index in
    let x = c.factor-item.result in
    let there = found_at i c.args.factors.now x (omega arith) c.factor-item.is in
    let next : varying_factors c.args.constants.now (phrases_of g.T.Theory.denotes (drop i c.args.factors.now))
    ≡ factor_weight c.args.constants.now (phrase_of g.T.Theory.denotes x) + varying_factors c.args.constants.now (phrases_of g.T.Theory.denotes (drop (i + 1) c.args.factors.now))
    = ap (λ fs. varying_factors c.args.constants.now (phrases_of g.T.Theory.denotes fs)) (drop-at i c.args.factors.now x there) in
    (omega (arith, next, c.weight-count.ensures.value, c.loop-factor.invariant.0), omega (arith, c.weight-count.ensures.small, c.loop-factor.invariant.1))

pub returns : goal.returns
returns g c =
    let none = at_drop_all (λ fs. varying_factors c.args.constants.now (phrases_of g.T.Theory.denotes fs)) c.args.factors.now c.loop-factor.factor-index (omega (arith, c.loop-factor-test.false)) in
    omega (arith, none, c.loop-factor.invariant.0)

use Rattle.std.proofs.Common.{◌∙◌, ◌-◌, sym, arith, map, nat_eq}
use Rattle.std.specs.HashSet.{contains}
use Rattle.std.proofs.lemmas.Result.{IfOk-from_err}
use Rattle.sy_terms.specs.Denoted.{val_of}
use Rattle.sy_grammar_sizes.proofs.Held.{held_one}
use Rattle.sy_grammar_sizes.proofs.Magnitudes.{greatest_one, greatest_counted, ones_more}
use Rattle.sy_grammar_sizes.proofs.chains_constants.largest_up_to.Goals as goal
use Rattle.sy_grammar_sizes.proofs.chains_constants.largest_up_to.Goals.{then-loop-magnitude-test+else-are_one, else-loop-magnitude-test}

pub loop-magnitude-preserved : goal.loop-magnitude-preserved
loop-magnitude-preserved g c =
    let pool = map (val_of g.T.Theory.denotes) c.args.pool.now in
    let magnitude = c.loop-magnitude.magnitude in
    let held = held_one c.args.sort magnitude pool (contains nat_eq c.in_ok-positive.positive) (contains nat_eq c.in_ok-negative.negative) c.in_ok-positive.ensures c.in_ok-negative.ensures c.loop-magnitude-test.true in
    let one = sym held ∙ sym c.are_one.ensures ∙ c.if-are_one.true in
    let bound = c.loop-magnitude.invariant.0 in
    (omega (arith, bound), ones_more pool c.args.sort c.args.top magnitude (magnitude - 1) (omega (arith, c.loop-magnitude-test.true)) one c.loop-magnitude.invariant.1)

pub returns-then-magnitude-eq0 : goal.returns-then-magnitude-eq0
returns-then-magnitude-eq0 g c =
    let zero = c.if-magnitude-eq0.true in
    greatest_one (map (val_of g.T.Theory.denotes) c.args.pool.now) c.args.sort c.args.top c.requires (λ m above le. c.loop-magnitude.invariant.1 m (omega (arith, zero, above)) le)

pub returns : goal.returns
returns g c =
    let pool = map (val_of g.T.Theory.denotes) c.args.pool.now in
    let magnitude = c.loop-magnitude.magnitude in
    rw (c.digits.ensures.is) (elim c.loop-magnitude-test.branch [
      | then-loop-magnitude-test+else-are_one w ↦
          let held = held_one c.args.sort magnitude pool (contains nat_eq c.in_ok-positive.positive) (contains nat_eq c.in_ok-negative.negative) c.in_ok-positive.ensures c.in_ok-negative.ensures w.loop-magnitude-test.true in
          greatest_counted pool c.args.sort c.args.top magnitude c.requires w.loop-magnitude-test.true c.loop-magnitude.invariant.0 (sym held ∙ sym w.are_one.ensures ∙ w.if-are_one.false) c.loop-magnitude.invariant.1
      | else-loop-magnitude-test w ↦ absurd (let below = w.loop-magnitude-test.false in let above = c.if-magnitude-eq0.false in above (omega (arith, below)))
    ])

pub returns-in_err-positive : goal.returns-in_err-positive
returns-in_err-positive g c = IfOk-from_err c.from_residual.result _ c.from_residual.ensures.0

pub returns-in_err-negative : goal.returns-in_err-negative
returns-in_err-negative g c = IfOk-from_err c.from_residual-in_err-negative.result _ c.from_residual-in_err-negative.ensures.0

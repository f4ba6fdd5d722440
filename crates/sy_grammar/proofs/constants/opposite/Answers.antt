use Rattle.std.proofs.Common.{◌≡◌, ◌<◌, ◌+◌, ap, ◌∙◌, sym, pos, arith, negsuc, ◌-ℤ◌}
use Rattle.std.specs.Prelude.{◌^◌}
use Rattle.std.specs.Int.Signed.{lt_z}
use Rattle.std.proofs.lemmas.Int.{to_z-of_z, ints}
use mir.Syntax.{w128}
use mir.Val.{to_z, of_z}
use Rattle.sy_grammar.proofs.Literals.{above_0, not_above, opposite_found}
use Rattle.sy_grammar.proofs.constants.opposite.Goals as goal

pub returns-then-whole-lt1 : goal.returns-then-whole-lt1
returns-then-whole-lt1 g c = λ less is numeric. not_above c.args.whole less (ap (λ z. lt_z z (pos 1)) (sym (to_z-of_z w128 c.args.whole c.ranges.whole)) ∙ c.if-whole-lt1.true) is

pub returns : goal.returns
returns g c =
    let same = to_z-of_z w128 c.args.whole c.ranges.whole in
    let above = above_0 c.args.whole (ap (λ z. lt_z z (pos 1)) (sym same) ∙ c.if-whole-lt1.false) in
    let fits : above.0 + 1 < 2 ^ 127 = omega (arith, ints, c.ranges.whole, above.1) in
    let minus : to_z w128 (of_z w128 (pos 0 -ℤ to_z w128 (of_z w128 c.args.whole))) ≡ negsuc above.0 = omega (arith, ints, c.ranges.whole, above.1) in
    opposite_found g.T.Theory.denotes _ c.args.whole _ above.0 c.of_number.result c.of_number.ensures above.1 minus fits

use Rattle.std.proofs.Common.{◌≡◌, ap, ◌∙◌, true, false, sym, pos, arith, negsuc, ◌-ℤ◌}
use Rattle.std.specs.Int.Signed.{lt_z}
use Rattle.std.proofs.lemmas.Int.{to_z-of_z, ints}
use mir.Syntax.{w128}
use mir.Val.{to_z, of_z}
use Rattle.sy_forms_items.proofs.Literals.{above_0, none_below, found_opposite}
use Rattle.sy_forms_items.proofs.written.opposite.Goals as goal

pub returns-then-whole-lt1 : goal.returns-then-whole-lt1
returns-then-whole-lt1 g c = sym (none_below c.args.whole (ap (λ z. lt_z z (pos 1)) (sym (to_z-of_z w128 c.args.whole c.ranges.whole)) ∙ c.if-whole-lt1.true))

pub returns : goal.returns
returns g c =
    let same = to_z-of_z w128 c.args.whole c.ranges.whole in
    let above = above_0 c.args.whole (ap (λ z. lt_z z (pos 1)) (sym same) ∙ c.if-whole-lt1.false) in
    let minus : to_z w128 (of_z w128 (pos 0 -ℤ to_z w128 (of_z w128 c.args.whole))) ≡ negsuc above.0 = omega (arith, ints, c.ranges.whole, above.1) in
    found_opposite g.T.Theory.denotes _ c.args.whole _ above.0 c.of_number.result c.of_number.ensures c.requires above.1 minus

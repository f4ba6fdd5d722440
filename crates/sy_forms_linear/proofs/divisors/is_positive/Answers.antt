use Rattle.std.proofs.Common.{ap, ◌∙◌, refl, rules, pos}
use Rattle.std.specs.Prelude.{int_lt}
use Rattle.std.proofs.lemmas.Int.{to_z-of_z}
use mir.Syntax.{w128}
use mir.Val.{SFits}
use Rattle.sy_forms_linear.proofs.divisors.is_positive.Goals as goal

pub returns-in-Truth : goal.returns-in-Truth
returns-in-Truth g c = rw (c.in-Truth.is) refl

pub returns-in-Num : goal.returns-in-Num
returns-in-Num g c =
    let fits : SFits w128 c.number.result = search rules in
    rw (c.in-Num.is) (c.is_above_zero.ensures ∙ ap (int_lt (pos 0)) (to_z-of_z w128 c.number.result fits ∙ c.number.ensures))

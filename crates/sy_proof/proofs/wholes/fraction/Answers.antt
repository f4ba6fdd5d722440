use Rattle.std.proofs.Common.{◌≡◌, ◌∙◌, refl, subst, rules}
use Rattle.std.proofs.lemmas.Int.{to_z-of_z}
use Rattle.sy_text_items.specs.Views.{item_of}
use Rattle.sy_frac.specs.Fraction.{IsQuotient}
use Rattle.sy_proof.specs.Numbers.{fraction_in}
use Rattle.sy_proof.proofs.Fractions.{fraction_other}
use Rattle.sy_proof.proofs.wholes.fraction.Goals as goal
use Rattle.sy_proof.proofs.wholes.fraction.Goals.{else-num-via-then-num+else-den, else-num-via-else-num}
use mir.Syntax.{w128}
use mir.Val.{to_z, of_z}

pub returns-else-num : goal.returns-else-num
returns-else-num c =
    let f = c.in_ok-fraction.fraction in
    let num : to_z w128 (of_z w128 c.in_ok-num.num) ≡ c.in_ok-num.num = to_z-of_z w128 c.in_ok-num.num (search rules) in
    let den : to_z w128 (of_z w128 c.in_ok-num.den) ≡ c.in_ok-num.den = to_z-of_z w128 c.in_ok-num.den (search rules) in
    let quotient : IsQuotient f c.in_ok-num.num c.in_ok-num.den =
    subst (λ d. IsQuotient f c.in_ok-num.num d) den (subst (λ n. IsQuotient f n (to_z w128 (of_z w128 c.in_ok-num.den))) num c.in_ok-fraction.ensures.1) in
    fraction_other c.in_ok-num.num c.in_ok-num.den (fraction_in (item_of c.args.item.now)) f c.in_ok-num.ensures quotient
    (λ same also. elim c.else-num.branch [
      | else-num-via-then-num+else-den w ↦ let here : w.den.result ≡ c.in_ok-num.den = w.den.ensures.value ∙ also in w.if-den.false (rw here refl)
      | else-num-via-else-num w ↦ let here : c.num.result ≡ c.in_ok-num.num = c.num.ensures.value ∙ same in w.if-num.false (rw here refl)
    ])

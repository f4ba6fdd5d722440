use Rattle.std.proofs.Common.{◌≡◌, refl, ap, ◌∙◌, true, false, sym, rules}
use Rattle.std.specs.Option.{option_map}
use Rattle.std.proofs.lemmas.Int.{to_z-of_z}
use mir.Syntax.{w128}
use mir.Val.{SFits}
use Rattle.sy_terms.specs.Sorts.{same_sort}
use Rattle.sy_terms.specs.Theories.{sort_of_value}
use Rattle.sy_terms.specs.Denoted.{val_of}
use Rattle.sy_terms.specs.declared.sort.Sort.TheVariants as sorts
use Rattle.sy_forms_items.specs.Measures.{minus_numeral}
use Rattle.sy_forms_items.proofs.Literals.{same_sort_is, int_negation, other_negation}
use Rattle.sy_forms_items.proofs.written.negation_of.Goals as goal

pub opposite-requires : goal.opposite-requires
opposite-requires g c =
    let number = g.T.Theory.denotes in
    let d = number c.in-Num.number in
    let sorted : same_sort (sort_of_value d) sorts.Int ≡ true = sym (c.same_sort.ensures ∙ ap (λ s. same_sort s sorts.Int) (c.value_sort.ensures ∙ ap (λ v. sort_of_value (val_of number v)) c.in-Num.is)) ∙ c.if-same_sort.true in
    sym (ap g.T.Theory.numeric (same_sort_is (sort_of_value d) sorts.Int sorted)) ∙ g.met.T.Theory.sorted c.in-Num.number

pub returns-in-Truth : goal.returns-in-Truth
returns-in-Truth g c = rw (c.in-Truth.is) refl

pub returns-in-Some : goal.returns-in-Some
returns-in-Some g c =
    let number = g.T.Theory.denotes in
    let d = number c.in-Num.number in
    let sorted : same_sort (sort_of_value d) sorts.Int ≡ true = sym (c.same_sort.ensures ∙ ap (λ s. same_sort s sorts.Int) (c.value_sort.ensures ∙ ap (λ v. sort_of_value (val_of number v)) c.in-Num.is)) ∙ c.if-same_sort.true in
    let fits : SFits w128 c.number.result = search rules in
    let whole = to_z-of_z w128 c.number.result fits ∙ c.number.ensures in
    rw (c.in-Num.is) (sym (ap (option_map number) c.in-Some.is) ∙ c.opposite.ensures ∙ ap minus_numeral whole ∙ sym (int_negation d sorted))

pub returns-in-None : goal.returns-in-None
returns-in-None g c =
    let number = g.T.Theory.denotes in
    let d = number c.in-Num.number in
    let sorted : same_sort (sort_of_value d) sorts.Int ≡ true = sym (c.same_sort.ensures ∙ ap (λ s. same_sort s sorts.Int) (c.value_sort.ensures ∙ ap (λ v. sort_of_value (val_of number v)) c.in-Num.is)) ∙ c.if-same_sort.true in
    let fits : SFits w128 c.number.result = search rules in
    let whole = to_z-of_z w128 c.number.result fits ∙ c.number.ensures in
    rw (c.in-Num.is) (sym (ap (option_map number) c.in-None.is) ∙ c.opposite.ensures ∙ ap minus_numeral whole ∙ sym (int_negation d sorted))

pub returns-else-same_sort : goal.returns-else-same_sort
returns-else-same_sort g c =
    let number = g.T.Theory.denotes in
    let d = number c.in-Num.number in
    let differs : same_sort (sort_of_value d) sorts.Int ≡ false = sym (c.same_sort.ensures ∙ ap (λ s. same_sort s sorts.Int) (c.value_sort.ensures ∙ ap (λ v. sort_of_value (val_of number v)) c.in-Num.is)) ∙ c.if-same_sort.false in
    rw (c.in-Num.is) (sym (other_negation d differs))

use Rattle.std.proofs.Common.{◌≡◌, ap, ◌∙◌, true, sym, None}
use Rattle.std.specs.Prelude.{if◌then◌else◌}
use Rattle.std.proofs.lemmas.Int.{to_z-of_z}
use Rattle.std.proofs.Common.{rules}
use mir.Syntax.{w128}
use mir.Val.{SFits}
use Rattle.sy_terms.specs.Sorts.{same_sort}
use Rattle.sy_terms.specs.Theories.{sort_of_value, value_at}
use Rattle.sy_terms.specs.Denoted.{val_of}
use Rattle.sy_grammar.proofs.Literals.{no_plain, same_sort_is}
use Rattle.sy_grammar.proofs.constants.plain.Goals as goal

pub returns-in-None : goal.returns-in-None
returns-in-None g c =
    let number = g.T.Theory.denotes in
    let d = number c.in-Num.number in
    let theory = g.met.T.Theory in
    let sorted : same_sort c.args.sort (sort_of_value d) ≡ true =
    sym (c.same_sort.ensures ∙ ap (same_sort c.args.sort) (c.value_sort.ensures ∙ ap (λ v. sort_of_value (val_of number v)) c.in-Num.is)) ∙ c.if-not-same_sort.false in
    let is_sort = same_sort_is c.args.sort (sort_of_value d) sorted in
    let fits : SFits w128 c.number-whole.result = search rules in
    let whole = to_z-of_z w128 c.number-whole.result fits ∙ c.number-whole.ensures in
    let none = c.in-None.ensures ∙ ap (λ z. if (g.T.Theory.numeric c.args.sort) then (value_at c.args.sort z) else None) whole in
    let numeric : g.T.Theory.numeric c.args.sort ≡ true = ap g.T.Theory.numeric is_sort ∙ theory.sorted c.in-Num.number in
    rw (c.in-Num.is) (λ v. no_plain d (g.T.Theory.numeric c.args.sort) c.args.sort v is_sort (theory.no_truth c.in-Num.number) numeric none)

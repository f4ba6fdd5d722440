use Rattle.std.proofs.Common.{◌≡◌, ap, ◌∙◌, true, false, sym}
use Rattle.std.proofs.lemmas.Int.{to_z-of_z}
use Rattle.std.proofs.Common.{rules}
use mir.Syntax.{w128}
use mir.Val.{SFits}
use Rattle.sy_terms.specs.Expr as expr
use Rattle.sy_terms.specs.Values.{Whole}
use Rattle.sy_terms.specs.Sorts.{same_sort}
use Rattle.sy_terms.specs.Theories.{sort_of_value}
use Rattle.sy_terms.specs.declared.sort.Sort.TheVariants as sorts
use Rattle.sy_terms.specs.Denoted.{val_of, expr_of-Const, expr_of-Var, expr_of-App, expr_of-Call, expr_of-Let}
use Rattle.sy_grammar.proofs.Literals.{whole_is, not_whole, same_sort_is}
use Rattle.sy_grammar.proofs.constants.whole_of.Goals as goal

pub returns-in-Truth : goal.returns-in-Truth
returns-in-Truth g c = rw (c.in-Const.is, expr_of-Const, c.in-Truth.is) (λ whole e. cc)

pub returns-then-same_sort : goal.returns-then-same_sort
returns-then-same_sort g c =
    let number = g.T.Theory.denotes in
    let d = number c.in-Num.number in
    let theory = g.met.T.Theory in
    let sorted : same_sort (sort_of_value d) sorts.Int ≡ true =
    sym (c.same_sort.ensures ∙ ap (λ s. same_sort s sorts.Int) (c.value_sort.ensures ∙ ap (λ v. sort_of_value (val_of number v)) c.in-Num.is)) ∙ c.if-same_sort.true in
    let fits : SFits w128 c.number.result = search rules in
    let whole = to_z-of_z w128 c.number.result fits ∙ c.number.ensures in
    rw (c.in-Const.is, expr_of-Const, c.in-Num.is) (ap expr.Constant (whole_is d sorted ∙ ap Whole (sym whole)), sym (ap g.T.Theory.numeric (same_sort_is (sort_of_value d) sorts.Int sorted)) ∙ theory.sorted c.in-Num.number)

pub returns-else-same_sort : goal.returns-else-same_sort
returns-else-same_sort g c =
    let number = g.T.Theory.denotes in
    let d = number c.in-Num.number in
    let differs : same_sort (sort_of_value d) sorts.Int ≡ false =
    sym (c.same_sort.ensures ∙ ap (λ s. same_sort s sorts.Int) (c.value_sort.ensures ∙ ap (λ v. sort_of_value (val_of number v)) c.in-Num.is)) ∙ c.if-same_sort.false in
    rw (c.in-Const.is, expr_of-Const, c.in-Num.is) (λ whole e. not_whole d whole differs (cc))

pub returns-in-Var : goal.returns-in-Var
returns-in-Var g c = rw (c.in-Var.is, expr_of-Var) (λ whole e. cc)

pub returns-in-App : goal.returns-in-App
returns-in-App g c = rw (c.in-App.is, expr_of-App) (λ whole e. cc)

pub returns-in-Call : goal.returns-in-Call
returns-in-Call g c = rw (c.in-Call.is, expr_of-Call) (λ whole e. cc)

pub returns-in-Let : goal.returns-in-Let
returns-in-Let g c = rw (c.in-Let.is, expr_of-Let) (λ whole e. cc)

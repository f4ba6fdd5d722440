use Rattle.std.proofs.Common.{ap, ◌∙◌, sym, subst}
use Rattle.std.proofs.lemmas.Int.{to_z-of_z}
use Rattle.std.proofs.Common.{rules}
use mir.Syntax.{w128}
use mir.Val.{SFits}
use Rattle.sy_grammar.specs.Rows.{IsOpposite}
use Rattle.sy_terms.specs.Expr as expr
use Rattle.sy_grammar.proofs.Literals.{negated, negated_made, one_term, first_term, only_term, whole_constant}
use Rattle.sy_grammar.proofs.constants.negated.Goals as goal

pub returns-then-not-same_sort : goal.returns-then-not-same_sort
returns-then-not-same_sort g c = λ v e. let n = negated c.args.sort _ v e in let h = n.sorted in let k = c.same_sort.ensures in let f = c.if-not-same_sort.true in cc

pub returns-then-len-ne1 : goal.returns-then-len-ne1
returns-then-len-ne1 g c = λ v e. let n = negated c.args.sort _ v e in c.if-len-ne1.true (c.len.ensures ∙ one_term g.T.Theory.denotes c.args.arguments.now.items.items _ n.is)

pub returns-in_default-whole_of : goal.returns-in_default-whole_of
returns-in_default-whole_of g c = λ v e.
    let n = negated c.args.sort _ v e in
    c.in_default-whole_of.ensures _ (first_term g.T.Theory.denotes c.args.arguments.now.items.items c.in-Some.term.now _ c.in-Some.ensures n.is)

pub returns-in-Some-opposite : goal.returns-in-Some-opposite
returns-in-Some-opposite g c =
    let fits : SFits w128 c.in-Some-whole_of.whole = search rules in
    let same = to_z-of_z w128 c.in-Some-whole_of.whole fits in
    let opposite = subst (λ z. IsOpposite z (g.T.Theory.denotes c.in-Some-opposite.number)) same c.in-Some-opposite.ensures in
    let is = c.in-Some-whole_of.ensures in
    let items = only_term g.T.Theory.denotes c.args.arguments.now.items.items c.in-Some.term.now (sym c.len.ensures ∙ c.if-len-ne1.false) c.in-Some.ensures in
    negated_made c.args.sort _ c.in-Some-whole_of.whole (g.T.Theory.denotes c.in-Some-opposite.number) (sym c.same_sort.ensures ∙ c.if-not-same_sort.false) (items ∙ ap (λ t. expr.more t expr.none) is.0) opposite

pub returns-in-None : goal.returns-in-None
returns-in-None g c = λ v e.
    let n = negated c.args.sort _ v e in
    let is = c.in-Some-whole_of.ensures in
    let first = first_term g.T.Theory.denotes c.args.arguments.now.items.items c.in-Some.term.now _ c.in-Some.ensures n.is in
    let fits : SFits w128 c.in-Some-whole_of.whole = search rules in
    let same = to_z-of_z w128 c.in-Some-whole_of.whole fits in
    c.in-None.ensures n.less (same ∙ whole_constant (sym is.0 ∙ first)) is.1

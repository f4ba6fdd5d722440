use Rattle.std.proofs.Common.{inl, inr}
use Rattle.sy_terms.specs.Denoted.{expr_of-Const, expr_of-Var, expr_of-App, expr_of-Call, expr_of-Let}
use Rattle.sy_grammar.proofs.Literals.{chosen, literal_form}
use Rattle.sy_grammar.proofs.constants.constant_of.Goals as goal

pub returns-in-Const : goal.returns-in-Const
returns-in-Const g c = rw (c.in-Const.is, expr_of-Const) (c.plain.ensures)

pub returns-in-Var : goal.returns-in-Var
returns-in-Var g c = rw (c.in-Var.is, expr_of-Var) (λ v e. let n = chosen c.args.sort _ v e in elim (literal_form v _ n.is) [ inl u ↦ let h = u.1 in cc | inr u ↦ let h = u.1 in cc ])

pub returns-then-equals : goal.returns-then-equals
returns-then-equals g c = let s = c.equals.ensures.0 c.if-equals.true in rw (c.in-App.is, expr_of-App, s) (c.negated.ensures)

pub returns-else-equals : goal.returns-else-equals
returns-else-equals g c = rw (c.in-App.is, expr_of-App) (λ v e. let n = chosen c.args.sort _ v e in elim (literal_form v _ n.is) [ inl u ↦ let h = u.1 in cc | inr u ↦ let h = u.1 in let s = c.equals.ensures.1 (cc) in let f = c.if-equals.false in cc ])

pub returns-in-Call : goal.returns-in-Call
returns-in-Call g c = rw (c.in-Call.is, expr_of-Call) (λ v e. let n = chosen c.args.sort _ v e in elim (literal_form v _ n.is) [ inl u ↦ let h = u.1 in cc | inr u ↦ let h = u.1 in cc ])

pub returns-in-Let : goal.returns-in-Let
returns-in-Let g c = rw (c.in-Let.is, expr_of-Let) (λ v e. let n = chosen c.args.sort _ v e in elim (literal_form v _ n.is) [ inl u ↦ let h = u.1 in cc | inr u ↦ let h = u.1 in cc ])

use Rattle.std.proofs.Common.{refl, sym}
use Rattle.sy_grammar.proofs.Factors.{linear_other}
use Rattle.sy_grammar.proofs.linear.is_linear.Goals as goal

pub returns-then-equals : goal.returns-then-equals
returns-then-equals g c = rw (c.equals.ensures.0 c.if-equals.true) (rw (← c.as_slice.ensures, ← c.varying.ensures) refl)

pub returns-else-equals : goal.returns-else-equals
returns-else-equals g c = sym (linear_other _ _ _ (λ same. let is = c.equals.ensures.1 same in let not = c.if-equals.false in cc))

use Rattle.std.proofs.Common.{sym, ◌∙◌, arith}
use Rattle.sy_grammar.proofs.Factors.{not_one, only_one}
use Rattle.sy_grammar.proofs.linear.is_one_constant.Goals as goal

pub returns-then-len-ne1 : goal.returns-then-len-ne1
returns-then-len-ne1 g c = sym (not_one g.T.Theory.denotes c.args.parts.now.items.items (λ one. c.if-len-ne1.true (c.len.ensures ∙ one)))

pub returns-in-Some : goal.returns-in-Some
returns-in-Some g c = c.is_constant.ensures ∙ sym (only_one g.T.Theory.denotes c.args.parts.now.items.items c.in-Some.part.now (sym c.len.ensures ∙ c.if-len-ne1.false) c.in-Some.ensures)

pub returns-in-None : goal.returns-in-None
returns-in-None g c = absurd (omega (arith, c.len.ensures, c.if-len-ne1.false, c.in-None.ensures))

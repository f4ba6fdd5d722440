use Rattle.std.proofs.Common.{refl, sym, ap, ◌∙◌, arith, length, slice_get}
use Rattle.std.proofs.lemmas.Option.{slice_get_read}
use Rattle.sy_grammar.proofs.Grammars.{rules_numbered, no_rules_more, full_more, closed, made}
use Rattle.sy_grammar.proofs.rows.next_step.Goals as goal

pub first_step-requires : goal.first_step-requires
first_step-requires g c =
    let items = c.as_slice-item-items.ensures ∙ c.nons.ensures in
    let i = c.loop-nonterminal.nonterminal in
    let at = slice_get_read c.as_slice-item-items.result.now _ i c.item-item.result refl c.loop-nonterminal-test.true c.item-item.is in
    rw (c.as_slice.ensures) (rules_numbered g.T.Theory.denotes c.args.grammar.now i c.item-item.result c.requires.numbered (ap (λ l. slice_get l i) (sym items) ∙ at))

pub returns-in-Some : goal.returns-in-Some
returns-in-Some g c =
    let items = c.as_slice-item-items.ensures ∙ c.nons.ensures in
    let i = c.loop-nonterminal.nonterminal in
    let at = slice_get_read c.as_slice-item-items.result.now _ i c.item-item.result refl c.loop-nonterminal-test.true c.item-item.is in (
      c.lacks.ensures.0 c.if-not-lacks.false,
      made g.T.Theory.denotes c.args.grammar.now _ _ _ i c.item-item.result _ _ c.in-Some.step (ap (λ l. slice_get l i) (sym items) ∙ at) (c.as_slice-arguments.ensures ∙ c.args-2.ensures) c.as_slice.ensures (rw c.in-Some.is at c.in_ok-made.ensures),
    )

pub loop-nonterminal-preserved-then-not-lacks : goal.loop-nonterminal-preserved-then-not-lacks
loop-nonterminal-preserved-then-not-lacks g c =
    full_more g.T.Theory.denotes c.args.grammar.now _ _ _ c.loop-nonterminal.nonterminal c.loop-nonterminal.invariant (λ empty. let h = c.lacks.ensures.1 empty in let f = c.if-not-lacks.true in cc)

pub loop-nonterminal-preserved : goal.loop-nonterminal-preserved
loop-nonterminal-preserved g c =
    let items = c.as_slice-item-items.ensures ∙ c.nons.ensures in
    let i = c.loop-nonterminal.nonterminal in
    let at = slice_get_read c.as_slice-item-items.result.now _ i c.item-item.result refl c.loop-nonterminal-test.true c.item-item.is in
    no_rules_more g.T.Theory.denotes c.args.grammar.now _ _ _ i c.item-item.result _ _ c.loop-nonterminal.invariant (ap (λ l. slice_get l i) (sym items) ∙ at) (c.as_slice-arguments.ensures ∙ c.args-2.ensures) c.as_slice.ensures (rw c.in_default.is at c.in_ok-made.ensures)

pub returns : goal.returns
returns g c =
    let items = c.as_slice-item-items.ensures ∙ c.nons.ensures in
    closed g.T.Theory.denotes c.args.grammar.now _ _ _ c.loop-nonterminal.nonterminal c.loop-nonterminal.invariant (omega (arith, c.loop-nonterminal-test.false, ap length items)) c.requires.sized

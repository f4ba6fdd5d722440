use Rattle.std.proofs.Common.{refl, ap, ◌∙◌, arith, map, Some}
use Rattle.std.proofs.lemmas.List.{length-map}
use Rattle.std.proofs.lemmas.Option.{slice_get_read}
use Rattle.sy_grammar_base.specs.Grown.{production_of}
use Rattle.sy_grammar_sizes.proofs.Lists.{mapped_at}
use Rattle.sy_grammar_sizes.proofs.Improved.{GivesNone, gives_none, rules_more, rules_done}
use Rattle.sy_grammar_sizes.proofs.table.improved_by.Goals as goal
use Rattle.sy_grammar_sizes.proofs.table.improved_by.Goals.{in-Some+else-exceeds, in_default}

pub loop-rule-preserved : goal.loop-rule-preserved
loop-rule-preserved g c =
    let number = g.T.Theory.denotes in
    let i = c.loop-rule.rule-index in
    let production = production_of number c.rule-item.result in
    let at = slice_get_read c.args.rules.now _ i c.rule-item.result refl c.loop-rule-test.true c.rule-item.is in
    let none : GivesNone production c.args.limit c.args.table.now c.args.known =
    elim c.match-rule_size.branch [
      | in-Some+else-exceeds w ↦
          let said = rw w.in-Some.is at c.rule_size.ensures in
          gives_none production c.args.limit c.args.table.now c.args.known said.0 w.in-Some.size said.1 said.2 (λ larger. let yes = w.exceeds.ensures.1 larger in let no = w.if-exceeds.false in cc)
      | in_default w ↦ λ pattern size is sized larger. (rw w.in_default.is at c.rule_size.ensures) pattern size is sized
    ] in
    rules_more (map (production_of number) c.args.rules.now) c.args.limit c.args.table.now c.args.known i production c.loop-rule.invariant (mapped_at (production_of number) c.args.rules.now i c.rule-item.result at) none

pub returns : goal.returns
returns g c =
    let number = g.T.Theory.denotes in
    let sized = length-map c.args.rules.now (production_of number) in
    rules_done (map (production_of number) c.args.rules.now) c.args.limit c.args.table.now c.args.known c.loop-rule.rule-index (omega (arith, sized, c.loop-rule-test.false)) c.loop-rule.invariant

pub returns-then-exceeds : goal.returns-then-exceeds
returns-then-exceeds g c =
    let number = g.T.Theory.denotes in
    let i = c.loop-rule.rule-index in
    let at = slice_get_read c.args.rules.now _ i c.rule-item.result refl c.loop-rule-test.true c.rule-item.is in
    let here = mapped_at (production_of number) c.args.rules.now i c.rule-item.result at in
    let said = rw c.in-Some.is at c.rule_size.ensures in
    record { rule = i; pattern = said.0; at = here ∙ ap Some said.1; is = said.2; larger = c.exceeds.ensures.0 c.if-exceeds.true }

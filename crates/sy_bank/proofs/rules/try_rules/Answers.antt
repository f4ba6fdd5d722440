use Rattle.std.proofs.Common.{◌≡◌, ◌∙◌, ap, subst, arith, length, slice_get, Some, List, get_or, map}
use Rattle.std.proofs.lemmas.List.{length-map}
use Rattle.sy_grammar_base.specs.Grown.{nonterminal_of, production_of}
use Rattle.sy_grammar_base.specs.declared.grammar.Non.{Non}
use Rattle.sy_grammar_base.proofs.Numbering.{numbered}
use Rattle.sy_bank_level.specs.Task.{world, level_state_of}
use Rattle.sy_bank_level.proofs.Keeping.{grows-on}
use Rattle.sy_bank_level.proofs.TriedLemmas.{rules-tried-more, all-rules}
use Rattle.sy_bank.proofs.PlacesLaws.{place, rule-place, few-rules}
use Rattle.sy_bank.proofs.rules.try_rules.Goals as goal

pub overflow_cast-number : goal.overflow_cast-number
overflow_cast-number g c =
    let number = g.T.Theory.denotes in
    let w = world g.T.Theory.owned number c.args.task.now in
    let nons = c.args.task.now.grammar.now.nons in
    let read = c.as_slice.result.now in
    let non = get_or read c.args.nonterminal c.index-as_slice-nonterminal.result in
    let same : read ≡ nons = c.as_slice.ensures ∙ c.nons.ensures in
    let at : slice_get w.syntax.nonterminals c.args.nonterminal ≡ Some (nonterminal_of number non) =
    subst (λ (list : List (Non g.row.T.Denot g.row.T-Num.Denot)). slice_get (map (nonterminal_of number) list) c.args.nonterminal ≡ Some (nonterminal_of number non)) same
    (place (nonterminal_of number) read c.args.nonterminal c.index-as_slice-nonterminal.result (omega (arith, c.requires.known, ap length same))) in
    let few = few-rules number w.syntax c.args.nonterminal non c.as_slice-rules.result.now (numbered g.T.Theory.numeric w.scope w.syntax c.requires.task.set.formed) at c.as_slice-rules.ensures in
    omega (arith, few, c.loop-number-test.true)

pub try_rule-requires-clause-rule : goal.try_rule-requires-clause-rule
try_rule-requires-clause-rule g c =
    let number = g.T.Theory.denotes in
    let w = world g.T.Theory.owned number c.args.task.now in
    let nons = c.args.task.now.grammar.now.nons in
    let read = c.as_slice.result.now in
    let non = get_or read c.args.nonterminal c.index-as_slice-nonterminal.result in
    let same : read ≡ nons = c.as_slice.ensures ∙ c.nons.ensures in
    let at : slice_get w.syntax.nonterminals c.args.nonterminal ≡ Some (nonterminal_of number non) =
    subst (λ (list : List (Non g.row.T.Denot g.row.T-Num.Denot)). slice_get (map (nonterminal_of number) list) c.args.nonterminal ≡ Some (nonterminal_of number non)) same
    (place (nonterminal_of number) read c.args.nonterminal c.index-as_slice-nonterminal.result (omega (arith, c.requires.known, ap length same))) in
    rule-place number w c.args.nonterminal c.loop-number.number non c.as_slice-rules.result.now c.index-rules-number.result at c.as_slice-rules.ensures c.loop-number-test.true c.index-rules-number.is

pub loop-number-preserved : goal.loop-number-preserved
loop-number-preserved g c =
    let number = g.T.Theory.denotes in
    let w = world g.T.Theory.owned number c.args.task.now in
    let first = level_state_of number c.args.filling.now in
    let s = level_state_of number c.loop-number.filling in
    let t = level_state_of number c.try_rule.new.filling in
    record {
      steady = c.in_ok-try_rule.ensures.steady;
      grows = grows-on w first s t c.loop-number.invariant.grows c.in_ok-try_rule.ensures.grows;
      tried = rules-tried-more w s t c.args.task.now.size c.args.nonterminal c.loop-number.number c.in_ok-try_rule.ensures.grows c.loop-number.invariant.tried c.in_ok-try_rule.ensures.tried;
    }

pub returns-clause-tried : goal.returns-clause-tried
returns-clause-tried g c =
    let number = g.T.Theory.denotes in
    let w = world g.T.Theory.owned number c.args.task.now in
    let s = level_state_of number c.loop-number.filling in
    let nons = c.args.task.now.grammar.now.nons in
    let read = c.as_slice.result.now in
    let non = get_or read c.args.nonterminal c.index-as_slice-nonterminal.result in
    let same : read ≡ nons = c.as_slice.ensures ∙ c.nons.ensures in
    let at : slice_get w.syntax.nonterminals c.args.nonterminal ≡ Some (nonterminal_of number non) =
    subst (λ (list : List (Non g.row.T.Denot g.row.T-Num.Denot)). slice_get (map (nonterminal_of number) list) c.args.nonterminal ≡ Some (nonterminal_of number non)) same
    (place (nonterminal_of number) read c.args.nonterminal c.index-as_slice-nonterminal.result (omega (arith, c.requires.known, ap length same))) in
    all-rules w s c.args.task.now.size c.args.nonterminal (nonterminal_of number non) at
    (λ r within. c.loop-number.invariant.tried r (omega (arith, within, c.loop-number-test.false, length-map non.rules (production_of number), ap length c.as_slice-rules.ensures)))

use Rattle.std.proofs.Common.{◌≡◌, ◌∙◌, sym, arith, length}
use Rattle.std.proofs.lemmas.List.{length-map}
use Rattle.sy_grammar_base.specs.Grown.{nonterminal_of}
use Rattle.sy_bank_level.specs.Task.{world, level_state_of, level_of}
use Rattle.sy_bank_level.proofs.TriedLemmas.{all-tried-on, filled-all}
use Rattle.sy_bank.proofs.rules.fill.Goals as goal

pub returns-clause-filled : goal.returns-clause-filled
returns-clause-filled g c =
    let number = g.T.Theory.denotes in
    let w = world g.T.Theory.owned number c.args.task.now in
    let s = level_state_of number c.try_all.new.filling in
    let t = level_state_of number c.pass_chains.new.filling in
    let sized : c.args.task.now.size ≡ length w.levels = c.requires.task.sized ∙ sym (length-map c.args.task.now.levels.now (level_of number)) in
    filled-all w t c.args.task.now.size c.in_ok-pass_chains.ensures.steady sized
    (λ n r within. all-tried-on w s t c.args.task.now.size (length c.args.task.now.grammar.now.nons) c.in_ok-pass_chains.ensures.grows c.in_ok-try_all.ensures.tried n r
    (omega (arith, within, length-map c.args.task.now.grammar.now.nons (nonterminal_of number))))
    (λ n r to entry at kept is. c.in_ok-pass_chains.ensures.done n r to at entry kept is)

use Rattle.sy_bank_level.specs.Task.{world, level_state_of}
use Rattle.sy_bank_level.proofs.TriedLemmas.{all-tried-more}
use Rattle.sy_bank.proofs.rules.try_all.Goals as goal

pub loop-nonterminal-preserved : goal.loop-nonterminal-preserved
loop-nonterminal-preserved g c =
    let number = g.T.Theory.denotes in
    record {
      steady = c.in_ok-try_rules.ensures.steady;
      tried = all-tried-more (world g.T.Theory.owned number c.args.task.now) (level_state_of number c.loop-nonterminal.filling) (level_state_of number c.try_rules.new.filling) c.args.task.now.size c.loop-nonterminal.nonterminal
          c.in_ok-try_rules.ensures.grows c.loop-nonterminal.invariant.tried c.in_ok-try_rules.ensures.tried;
    }

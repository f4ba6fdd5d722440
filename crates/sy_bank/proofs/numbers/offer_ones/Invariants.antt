use Rattle.std.proofs.Common.{Bool, pos}
use Rattle.sy_terms.specs.Values.{Truth}
use Rattle.sy_bank_level.specs.Filling.{IsSteady, LevelGrows}
use Rattle.sy_bank_level.specs.Task.{world, level_state_of}
use Rattle.sy_bank.specs.Leaves.{IsDoneFor, IsDoneAt}
use Rattle.sy_bank.proofs.Offered.{ArePooled}
use Rattle.sy_bank.proofs.numbers.offer_ones.Given as goal

abbrev pub invariant-loop-value : goal.invariant-loop-value
invariant-loop-value g l =
    let w = world g.T.Theory.owned g.T.Theory.denotes l.task in
    let s = level_state_of g.T.Theory.denotes l.filling in
    record {
      steady : IsSteady w s;
      grows : LevelGrows w (level_state_of g.T.Theory.denotes l.fn.filling) s;
      truths : (truth : Bool) → IsDoneFor w s l.rule.nonterminal l.rule.sort l.task.size (Truth truth);
      naught : IsDoneAt w s l.rule.nonterminal l.rule.sort l.task.size (pos 0);
      unit : IsDoneAt w s l.rule.nonterminal l.rule.sort l.task.size (pos 1);
      pooled : ArePooled g.T.Theory.denotes w s l.rule.nonterminal l.rule.sort l.task.size l.value-items l.value-index;
    }

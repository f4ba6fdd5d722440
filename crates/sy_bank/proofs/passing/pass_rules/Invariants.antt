use Rattle.std.proofs.Common.{◌≡◌}
use Rattle.sy_bank_level.specs.Filling.{IsSteady, LevelGrows}
use Rattle.sy_bank_level.specs.Task.{world, level_state_of}
use Rattle.sy_bank.proofs.Entries.{ArePassedBelow}
use Rattle.sy_bank.proofs.passing.pass_rules.Given as goal

abbrev pub invariant-loop-number : goal.invariant-loop-number
invariant-loop-number g l =
    let w = world g.T.Theory.owned g.T.Theory.denotes l.task in
    let r = level_state_of g.T.Theory.denotes l.fn.filling in
    let s = level_state_of g.T.Theory.denotes l.filling in
    record {
      steady : IsSteady w s;
      grows : LevelGrows w r s;
      done : r.count ≡ s.count → ArePassedBelow w s l.nonterminal l.task.size l.number;
    }

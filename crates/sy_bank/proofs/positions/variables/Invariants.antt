use Rattle.sy_bank_level.specs.Filling.{IsSteady, LevelGrows}
use Rattle.sy_bank_level.specs.Task.{world, level_state_of}
use Rattle.sy_bank.proofs.Offered.{AreArgued}
use Rattle.sy_bank.proofs.positions.variables.Given as goal

abbrev pub invariant-loop-position : goal.invariant-loop-position
invariant-loop-position g l =
    let w = world g.T.Theory.owned g.T.Theory.denotes l.task in
    let s = level_state_of g.T.Theory.denotes l.filling in
    record {
      steady : IsSteady w s;
      grows : LevelGrows w (level_state_of g.T.Theory.denotes l.fn.filling) s;
      done : AreArgued w s l.rule.nonterminal l.rule.sort l.task.size l.position;
    }

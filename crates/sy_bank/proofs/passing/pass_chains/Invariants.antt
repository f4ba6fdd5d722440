use Rattle.std.proofs.Common.{◌-◌}
use Rattle.sy_bank_level.specs.Filling.{IsSteady, LevelGrows}
use Rattle.sy_bank_level.specs.Task.{world, level_state_of}
use Rattle.sy_bank.proofs.passing.pass_chains.Given as goal

abbrev pub decreases-loop : goal.decreases-loop
decreases-loop g l = l.task.cap - l.filling.count

abbrev pub invariant-loop : goal.invariant-loop
invariant-loop g l =
    let w = world g.T.Theory.owned g.T.Theory.denotes l.task in
    let r = level_state_of g.T.Theory.denotes l.fn.filling in
    let s = level_state_of g.T.Theory.denotes l.filling in
    record {
      steady : IsSteady w s;
      grows : LevelGrows w r s;
    }

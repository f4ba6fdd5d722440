use Rattle.sy_bank_level.specs.Filling.{IsSteady, LevelGrows}
use Rattle.sy_bank_level.specs.Task.{world, level_state_of}
use Rattle.sy_bank_level.specs.Tried.{AreTried}
use Rattle.sy_bank.proofs.rules.try_rules.Given as goal

abbrev pub invariant-loop-number : goal.invariant-loop-number
invariant-loop-number g l = record {
  steady : IsSteady (world g.T.Theory.owned g.T.Theory.denotes l.task) (level_state_of g.T.Theory.denotes l.filling);
  grows : LevelGrows (world g.T.Theory.owned g.T.Theory.denotes l.task) (level_state_of g.T.Theory.denotes l.initial.filling) (level_state_of g.T.Theory.denotes l.filling);
  tried : AreTried (world g.T.Theory.owned g.T.Theory.denotes l.task) (level_state_of g.T.Theory.denotes l.filling) l.task.size l.nonterminal l.number;
}

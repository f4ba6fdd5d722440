use Rattle.sy_bank_level.specs.Filling.{IsSteady}
use Rattle.sy_bank_level.specs.Task.{world, level_state_of}
use Rattle.sy_bank_level.specs.Tried.{AllAreTried}
use Rattle.sy_bank.proofs.rules.try_all.Given as goal

abbrev pub invariant-loop-nonterminal : goal.invariant-loop-nonterminal
invariant-loop-nonterminal g l = record {
  steady : IsSteady (world g.T.Theory.owned g.T.Theory.denotes l.task) (level_state_of g.T.Theory.denotes l.filling);
  tried : AllAreTried (world g.T.Theory.owned g.T.Theory.denotes l.task) (level_state_of g.T.Theory.denotes l.filling) l.task.size l.nonterminal;
}

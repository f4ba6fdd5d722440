use Rattle.std.proofs.Common.{◌≤◌, ◌<◌, ◌-◌}
use Rattle.sy_terms.specs.Values.{Val}
use Rattle.sy_grammar_base.specs.Trees.{value_magnitude}
use Rattle.sy_bank_level.specs.Filling.{IsSteady, LevelGrows}
use Rattle.sy_bank_level.specs.Task.{world, level_state_of}
use Rattle.sy_bank.specs.Leaves.{IsDoneFor}
use Rattle.sy_bank.proofs.numbers.offer_counted.Given as goal

abbrev pub decreases-loop-magnitude : goal.decreases-loop-magnitude
decreases-loop-magnitude g l = l.end - l.magnitude

abbrev pub invariant-loop-magnitude : goal.invariant-loop-magnitude
invariant-loop-magnitude g l =
    let w = world g.T.Theory.owned g.T.Theory.denotes l.task in
    let s = level_state_of g.T.Theory.denotes l.filling in
    record {
      steady : IsSteady w s;
      grows : LevelGrows w (level_state_of g.T.Theory.denotes l.fn.filling) s;
      from : l.first ≤ l.magnitude;
      done : (value : Val) → l.first ≤ value_magnitude value → value_magnitude value < l.magnitude → IsDoneFor w s l.rule.nonterminal l.rule.sort l.task.size value;
    }

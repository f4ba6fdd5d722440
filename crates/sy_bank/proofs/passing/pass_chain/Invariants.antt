use Rattle.std.proofs.Common.{◌≡◌, []}
use Rattle.std.specs.Prelude.{slice_index_or}
use Rattle.sy_bank_level.specs.Filling.{IsSteady, LevelGrows}
use Rattle.sy_bank_level.specs.Task.{world, level_state_of}
use Rattle.sy_bank.proofs.Entries.{AreDoneBelow}
use Rattle.sy_bank.proofs.passing.pass_chain.Given as goal

abbrev pub invariant-loop-place : goal.invariant-loop-place
invariant-loop-place g l =
    let w = world g.T.Theory.owned g.T.Theory.denotes l.task in
    let r = level_state_of g.T.Theory.denotes l.fn.filling in
    let s = level_state_of g.T.Theory.denotes l.filling in
    record {
      steady : IsSteady w s;
      grows : LevelGrows w r s;
      done : r.count ≡ s.count → AreDoneBelow w (slice_index_or r.fresh l.chain.to []) s l.chain.nonterminal l.task.size l.place;
    }

use Rattle.std.proofs.Common.{◌≡◌, ◌*◌, ◌+◌, length, take, [], ◌∷◌, ◌++◌}
use Rattle.std.specs.Prelude.{All}
use Rattle.sy_grammar_base.specs.Written.{pattern_of}
use Rattle.sy_bank_level.specs.Stored.{entry_of, chosen_of}
use Rattle.sy_bank_level.specs.Filling.{IsSteady, LevelGrows}
use Rattle.sy_bank_level.specs.Task.{world, level_state_of}
use Rattle.sy_bank.specs.Choosing.{AreDoneFrom}
use Rattle.sy_bank.proofs.Begun.{AreDoneBelow}
use Rattle.sy_bank.proofs.choosing.+choose.Given as goal

abbrev pub decreases-choose_rest : goal.decreases-choose_rest
decreases-choose_rest g l = 2 * length l.places.now

abbrev pub decreases-choose_first : goal.decreases-choose_first
decreases-choose_first g l = 2 * length l.places.now + 1

abbrev pub invariant-choose_rest-loop-size : goal.invariant-choose_rest-loop-size
invariant-choose_rest-loop-size g l =
    let w = world g.T.Theory.owned g.T.Theory.denotes l.task in
    record {
      steady : IsSteady w (level_state_of g.T.Theory.denotes l.filling);
      grows : LevelGrows w (level_state_of g.T.Theory.denotes l.initial.filling) (level_state_of g.T.Theory.denotes l.filling);
      chosen : l.chosen.items ≡ l.initial.chosen.items;
      done : AreDoneBelow w (level_state_of g.T.Theory.denotes l.filling) l.template.nonterminal (pattern_of g.T.Theory.denotes l.template.part.now.value) (chosen_of g.T.Theory.denotes l.initial.chosen.items) l.first l.others l.left l.least l.size;
    }

abbrev pub invariant-choose_first-loop-term : goal.invariant-choose_first-loop-term
invariant-choose_first-loop-term g l =
    let w = world g.T.Theory.owned g.T.Theory.denotes l.task in
    record {
      steady : IsSteady w (level_state_of g.T.Theory.denotes l.filling);
      grows : LevelGrows w (level_state_of g.T.Theory.denotes l.initial.filling) (level_state_of g.T.Theory.denotes l.filling);
      chosen : l.chosen.items ≡ l.initial.chosen.items;
      done : All (λ term. AreDoneFrom w (level_state_of g.T.Theory.denotes l.filling) l.template.nonterminal (pattern_of g.T.Theory.denotes l.template.part.now.value) (chosen_of g.T.Theory.denotes l.initial.chosen.items ++ entry_of g.T.Theory.denotes term ∷ []) l.places l.left) (take l.term-index l.terms);
    }

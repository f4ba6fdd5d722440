-- The bank that a search goes beyond.
use Rattle.std.specs.Prelude.{◌≡◌, [], ◌∷◌}
use Rattle.sy_terms.specs.Meaning.{functions}
use Rattle.sy_grammar_base.specs.Questions.{Goal, Question}
use Rattle.sy_bank_level.specs.Banks.{Merged, IsHonestBank}

-- one function is to be found, and the bank is honest for its grammar
pub record IsOneBank (question : Question) (bank : Merged) : Type 0 where
  pub goal : Goal
  pub one : question.goals ≡ goal ∷ []
  pub honest : IsHonestBank goal.grammar (functions question.definitions) question.pool bank

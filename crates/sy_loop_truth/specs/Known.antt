-- What a search knows.
use Rattle.std.specs.Prelude.{ℕ, ◌+◌, ◌-◌, ◌≡◌, List, length, slice_get, Some}
use Rattle.sy_terms.specs.Values.{Val}
use Rattle.sy_meaning.specs.Calls.{IsCallOf}
use Rattle.sy_grammar_base.specs.Fits.{wanted_of}
use Rattle.sy_grammar_base.specs.Questions.{Question}
use Rattle.sy_grammar_base.specs.Solving.{AreValues}
use Rattle.sy_query_limits.specs.declared.Limits.{Limits}
use Rattle.sy_points.specs.Asked.{Asked, IsBounded}
use Rattle.sy_loop_spec.specs.declared.reach.Reach.{Reach}
use Rattle.sy_loop_spec.specs.Adding.{IsAsked, room}
use Rattle.sy_loop_spec.specs.Histories.{Counterexample, IsHonestHistory, IsMet}

-- the assignments have values of the variables, and each function has distinct tuples of its arguments, at most so many
pub record IsHeld (question : Question) (limits : Limits) (history : List Counterexample) (asked : Asked) : Type 0 where
  pub assigned : (place : ℕ) (c : Counterexample) → slice_get history place ≡ Some c → AreValues question.variables c.assignment
  pub limit : asked.limit ≡ limits.points
  pub functions : length asked.tuples ≡ length question.goals
  pub bounded : IsBounded asked
  pub taken : (function : ℕ) (tuple : List Val) → IsAsked asked function tuple → IsCallOf (wanted_of question) (function, tuple)

-- moreover the history is honest, and the tuples were met by it
pub record IsKnown (reach : Reach) (question : Question) (limits : Limits) (history : List Counterexample) (asked : Asked) : Type 0 where
  pub held : IsHeld question limits history asked
  pub honest : IsHonestHistory reach question limits.size limits.rounds history
  pub met : (function : ℕ) (tuple : List Val) → IsAsked asked function tuple → IsMet reach question limits.size history function tuple

-- how many rounds and tuples more there may be
abbrev pub left : Limits → List Counterexample → Asked → ℕ
left limits history asked = (limits.rounds - length history) + room asked

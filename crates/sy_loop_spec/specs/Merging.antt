-- What kept terms stand for: all bodies that agree with them.
use Rattle.std.specs.Prelude.{ℕ, ◌≡◌, ◌≤◌, List, [], ◌∷◌, length, slice_get, Some, ⊤}
use Rattle.sy_terms.specs.Expr.{Expr}
use Rattle.sy_terms.specs.Meaning.{functions}
use Rattle.sy_grammar_base.specs.Questions.{Goal, Question}
use Rattle.sy_grammar_base.specs.Solving.{AreWithin}
use Rattle.sy_points.specs.Asked.{Asked, of_function}
use Rattle.sy_bank_level.specs.Banks.{Entry, Merged, IsKept, IsHonestBank}
use Rattle.sy_bank_level.specs.Covering.{Covers, sizes, terms}
use Rattle.sy_loop_spec.specs.Agreeing.{BodiesAgree, AreComputable}

-- an honest bank of the function's grammar, over the function's tuples, which covers all derivations of sizes up to n
pub record IsCoveringOf (question : Question) (asked : Asked) (n function : ℕ) (bank : Merged) : Type 0 where
  pub goal : Goal
  pub at : slice_get question.goals function ≡ Some goal
  pub over : bank.points ≡ of_function asked function
  pub up : n ≤ bank.upto
  pub honest : IsHonestBank goal.grammar (functions question.definitions) question.pool bank
  pub covers : Covers goal.grammar (functions question.definitions) question.pool bank

-- one for each function to be found
pub record AreCovering (question : Question) (asked : Asked) (n : ℕ) (banks : List Merged) : Type 0 where
  pub each : (function : ℕ) (bank : Merged) → slice_get banks function ≡ Some bank → IsCoveringOf question asked n function bank
  pub all : length banks ≡ length question.goals

-- one kept term of each bank's start symbol
abbrev pub AreChosen : List Merged → List Entry → Type 0
AreChosen [] [] = ⊤
AreChosen [] (entry ∷ chosen) = ⊥
AreChosen (bank ∷ banks) [] = ⊥
AreChosen (bank ∷ banks) (entry ∷ chosen) = IsKept bank.levels 0 entry × AreChosen banks chosen

-- kept terms whose sizes sum to at most n, and which are members of these sizes, agree with the bodies; and they and the
-- bodies are computable at all tuples
pub record AreMerged (question : Question) (asked : Asked) (n : ℕ) (banks : List Merged) (bodies : List Expr) : Type 0 where
  pub chosen : List Entry
  pub kept : AreChosen banks chosen
  pub small : sizes chosen ≤ n
  pub members : AreWithin question.pool (sizes chosen) question.goals (terms chosen)
  pub agree : BodiesAgree question asked (terms chosen) bodies
  pub kept_computable : AreComputable question asked (terms chosen)
  pub computable : AreComputable question asked bodies

-- How a drill is answered: the one problem of a number's file.
use Rattle.std.specs.Prelude.{ℕ, ◌≡◌, List, [], ◌∷◌}
use Rattle.sy_grammar_base.specs.Questions.{Question}
use Rattle.sy_grammar_base.specs.Solving.{AreMembers, Solves}
use Rattle.sygus_drills.specs.Lines.{drill_line}
use Rattle.sygus_drills.specs.declared.line.DrillEnd.{DrillEnd}
use Rattle.sygus_drills.specs.declared.line.DrillEnd.TheVariants as ends
use Rattle.sygus_replies.specs.Replies.{Reply, Defined, Infeasible, Failed}

-- how the drill of a right reply ends: a definition meets each of the 1,000 examples
abbrev pub drill_end : Reply → DrillEnd
drill_end (Defined bodies) = ends.Met 1000
drill_end Infeasible = ends.Infeasible
drill_end (Failed name) = ends.Failed name

-- the bodies of a reply are members of the grammars, and solve the problem
abbrev pub HasSolution : Question → Reply → Type 0
HasSolution question (Defined bodies) = AreMembers question.goals bodies × Solves question bodies
HasSolution question Infeasible = Unit {0}
HasSolution question (Failed name) = Unit {0}

-- the problem has one answer, a right one, and this is written of the line that tells how the drill ended
pub record AnswersDrill {A : Type 0} (Right : Question → A → Type 0) (reply : A → Reply) (number : ℕ) (question : Question) (answers : List A) (Written : List ℕ → Type 0) : Type 0 where
  pub answer : A
  pub right : Right question answer
  pub one : answers ≡ answer ∷ []
  pub written : Written (drill_line number (drill_end (reply answer)))

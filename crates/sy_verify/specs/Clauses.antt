-- What clauses say of a problem and bodies, for a theory and a solver.
use Rattle.std.specs.Prelude.{ℕ, List, map}
use Rattle.sy_text_items.specs.Items.{Item}
use Rattle.sy_terms.specs.Denoted.{expr_of}
use Rattle.sy_terms.specs.declared.term.Term.{Term}
use Rattle.sy_terms.specs.declared.theory.Theory.{Ghosts as TheoryOf}
use Rattle.sy_grammar_base.specs.Questions.{question_of}
use Rattle.sy_grammar_base.specs.declared.problem.Problem.{Problem}
use Rattle.sy_query_limits.specs.declared.Limits.{Limits}
use Rattle.sy_query_base.specs.declared.decide.Decide.{Ghosts as DecideOf}
use Rattle.sy_verify.specs.Checking.{IsChecked}
use Rattle.sy_verify.specs.Posing.{Poses}
use Rattle.sy_verify.specs.Rechecking.{IsRechecked}
use Rattle.sy_verify.specs.Spelling.{IsSpelled}
use Rattle.sy_verify.specs.declared.checked.Checked.{Checked}
use Rattle.sy_verify.specs.declared.clause_writer.ClauseWriter.{Ghosts as WriterOf}
use Rattle.sy_verify.specs.declared.posed.Posed.{Posed}
use Rattle.sy_verify.specs.declared.proof_checker.ProofChecker.{Ghosts as CheckerOf}
use Rattle.sy_verify.specs.declared.rechecked.Rechecked.{Rechecked}
use Rattle.sy_verify.specs.declared.spelled.Spelled.{Spelled}

abbrev pub PosesFor : {T N : Type 0} → TheoryOf T N → Problem T N → ℕ → List (Term T N) → Posed T N → Type 0
PosesFor theory problem limit bodies =
    Poses theory.owned theory.numeric theory.denotes (question_of theory.denotes problem) limit (map (expr_of theory.denotes) bodies)

abbrev pub IsCheckedFor : {T N D P S : Type 0} → TheoryOf T N → DecideOf D T P S N → Problem T N → Limits → List (Term T N) → Checked T P S N → Type 0
IsCheckedFor theory solver problem limits bodies =
    IsChecked theory.owned theory.denotes solver.accepted solver.budget solver.shows (question_of theory.denotes problem) limits (map (expr_of theory.denotes) bodies)

abbrev pub IsRecheckedFor : {T N C : Type 0} → TheoryOf T N → CheckerOf C T N → Problem T N → ℕ → List (Term T N) → Item → Rechecked → Type 0
IsRecheckedFor theory checker problem limit bodies item =
    IsRechecked theory.owned checker.proves checker.fails checker.overflows (question_of theory.denotes problem) limit (map (expr_of theory.denotes) bodies) item

abbrev pub IsSpelledFor : {T N W : Type 0} → TheoryOf T N → WriterOf W T N → Problem T N → ℕ → List (Term T N) → Spelled → Type 0
IsSpelledFor theory writer problem limit bodies =
    IsSpelled theory.owned writer.spells writer.lacks (question_of theory.denotes problem) limit (map (expr_of theory.denotes) bodies)

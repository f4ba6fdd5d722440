-- Statements whose bodies fit their problems.
use Rattle.std.specs.Prelude.{List, [], ◌∷◌, ⊤}
use Rattle.sy_terms.specs.declared.theory.Theory.{Ghosts as TheoryOf}
use Rattle.sy_terms_operators.specs.Evaluation.{BodiesFit}
use Rattle.sy_grammar_base.specs.Questions.{signatures}
use Rattle.sy_grammar_base.specs.declared.problem.Problem.{Problem}
use Rattle.sy_reply.specs.declared.stated.Stated.{Stated}
use Rattle.sy_reply.specs.declared.stated.Stated.TheVariants as stated

-- a body for each function to be found, of its signature
abbrev pub IsStatedFor : {T N : Type 0} → TheoryOf T N → Problem T N → Stated T N → Type 0
IsStatedFor theory problem stated.Nothing = ⊤
IsStatedFor theory problem (stated.Bodies bodies proof) = BodiesFit theory.owned theory.denotes problem.defs bodies (signatures problem)

-- one statement for each problem, in order
abbrev pub AreStatedFor : {T N : Type 0} → TheoryOf T N → List (Problem T N) → List (Stated T N) → Type 0
AreStatedFor theory [] [] = ⊤
AreStatedFor theory (problem ∷ problems) (statement ∷ statements) = IsStatedFor theory problem statement × AreStatedFor theory problems statements
AreStatedFor theory _ _ = ⊥

-- What clauses say of a problem, for a theory.
use Rattle.std.specs.Prelude.{List}
use Rattle.sy_terms.specs.Expr.{Expr}
use Rattle.sy_terms.specs.declared.term.Term.{Term}
use Rattle.sy_terms.specs.declared.theory.Theory.{Ghosts as TheoryOf}
use Rattle.sy_terms_operators.specs.Evaluation.{BodiesFit}
use Rattle.sy_grammar_base.specs.Questions.{question_of, signatures}
use Rattle.sy_grammar_base.specs.declared.problem.Problem.{Problem}
use Rattle.sy_query_limits.specs.declared.Limits.{Limits}
use Rattle.sy_points.specs.Asked.{Asked, of_function}
use Rattle.sy_points.specs.declared.stored.Stored.{Stored}
use Rattle.sy_loop_spec.specs.Goods.{assignments_of}
use Rattle.sy_loop_spec.specs.Stored.{history_of}
use Rattle.sy_loop_truth.specs.Known.{IsHeld}
use Rattle.sy_loop_truth.specs.Rests.{AreAssigned, AreRests, IsRest}
use Rattle.sy_loop_truth.specs.Traces.{MeetAll, Widens}
use Rattle.sy_loop_truth.specs.declared.rest.Rest.{Rest}

module _ {T N : Type 0} (theory : TheoryOf T N) (problem : Problem T N) where
  -- one body for each function to be found, of its sort over its arguments
  abbrev pub FitAsBodies : List (Term T N) → Type 0
  FitAsBodies bodies = BodiesFit theory.owned theory.denotes problem.defs bodies (signatures problem)

  abbrev pub IsHeldFor : Limits → Stored T N → Asked → Type 0
  IsHeldFor limits stored = IsHeld (question_of theory.denotes problem) limits (history_of theory.denotes stored)

  abbrev pub WidensFor : Stored T N → List Expr → Asked → Asked → Type 0
  WidensFor stored = Widens (question_of theory.denotes problem) (history_of theory.denotes stored)

  abbrev pub MeetAllFor : Stored T N → List Expr → Type 0
  MeetAllFor stored = MeetAll (question_of theory.denotes problem) (history_of theory.denotes stored)

  -- the stored assignments have values of the problem's variables
  abbrev pub AreAssignedFor : Stored T N → Type 0
  AreAssignedFor stored = AreAssigned (question_of theory.denotes problem) (history_of theory.denotes stored)

  -- this is where each constraint rests at each stored assignment: on points of function 0 alone
  abbrev pub AreRestsFor : Stored T N → Asked → List Rest → Type 0
  AreRestsFor stored asked = AreRests (question_of theory.denotes problem) (assignments_of (history_of theory.denotes stored)) (of_function asked 0)

  abbrev pub IsRestFor : Stored T N → Asked → Rest → Type 0
  IsRestFor stored asked = IsRest (question_of theory.denotes problem) (assignments_of (history_of theory.denotes stored)) (of_function asked 0)

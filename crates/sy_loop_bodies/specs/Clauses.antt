-- What clauses say of bodies that are tried, for a theory and a solver.
use Rattle.std.specs.Prelude.{ℕ, ◌≡◌, List, [], ◌∷◌, map, All, Option, Some, IfSome, slice_get}
use Rattle.sy_terms.specs.Expr.{Expr}
use Rattle.sy_terms.specs.Denoted.{expr_of, vals_of}
use Rattle.sy_terms.specs.declared.sort.Value.{Value}
use Rattle.sy_terms.specs.declared.term.Term.{Term}
use Rattle.sy_terms.specs.declared.theory.Theory.{Ghosts as TheoryOf}
use Rattle.sy_grammar_base.specs.Questions.{question_of}
use Rattle.sy_grammar_base.specs.Solving.{AreValues, AreWithin}
use Rattle.sy_grammar_base.specs.declared.problem.Problem.{Problem}
use Rattle.sy_query_base.specs.declared.decide.Decide.{Ghosts as DecideOf}
use Rattle.sy_query_base.specs.declared.verdict.Verdict.{Verdict}
use Rattle.sy_query_base.specs.declared.verdict.Verdict.TheVariants.{Never, Model, Spent}
use Rattle.sy_points.specs.declared.stored.Stored.{Stored}
use Rattle.sy_bank_level.specs.Banks.{Entry}
use Rattle.sy_bank_level.specs.Bank.{merged_of}
use Rattle.sy_bank_level.specs.declared.bank.Bank.{Bank}
use Rattle.sy_query_base.specs.Solutions.{IsSolution}
use Rattle.sy_loop_bodies.specs.Banked.{IsOneBank}

module _ {T N : Type 0} (theory : TheoryOf T N) (problem : Problem T N) where
  -- one function is to be found, and the bank is honest for its grammar
  abbrev pub IsBankFor : Bank T N → Type 0
  IsBankFor bank = IsOneBank (question_of theory.denotes problem) (merged_of theory.denotes bank)

  -- each has values of the problem's variables
  abbrev pub AreAssignedFor : List (List (Value N)) → Type 0
  AreAssignedFor assignments = All (λ (values : List (Value N)). AreValues problem.vars (vals_of theory.denotes values)) assignments

  -- so has each stored assignment
  abbrev pub WereAssignedFor : Stored T N → Type 0
  WereAssignedFor stored =
      (place : ℕ) (pair : List (Value N) × List (Term T N)) → slice_get stored.items place ≡ Some pair → AreValues problem.vars (vals_of theory.denotes pair.0)

  -- the term is a member of the one grammar, of a size of at most the bound
  abbrev pub IsSmallFor : ℕ → Expr → Type 0
  IsSmallFor bound term = AreWithin (question_of theory.denotes problem).pool bound (question_of theory.denotes problem).goals (term ∷ [])

  abbrev pub AreSmallFor : ℕ → List Entry → Type 0
  AreSmallFor bound entries = All (λ (entry : Entry). IsSmallFor bound entry.term) entries

  -- the bodies are members of the grammars, of sizes within the bound
  abbrev pub AreWithinFor : ℕ → List (Term T N) → Type 0
  AreWithinFor bound bodies = AreWithin (question_of theory.denotes problem).pool bound (question_of theory.denotes problem).goals (map (expr_of theory.denotes) bodies)

module _ {T N D P S : Type 0} (theory : TheoryOf T N) (solver : DecideOf D T P S N) (problem : Problem T N) (bound : ℕ) where
  -- the bodies are members of sizes within the bound and solve the problem, and the proof is accepted for their query
  abbrev pub AreFoundFor : List (Term T N) → P → Type 0
  AreFoundFor bodies proof =
      IsSolution solver.accepted (question_of theory.denotes problem) (map (expr_of theory.denotes) bodies) proof
      × AreWithin (question_of theory.denotes problem).pool bound (question_of theory.denotes problem).goals (map (expr_of theory.denotes) bodies)

  -- so are those that are answered, if any are
  abbrev pub IsFoundFor : Option (List (Term T N) × P) → Type 0
  IsFoundFor found = IfSome found (λ solution. AreFoundFor solution.0 solution.1)

  -- what a solver answers to the query of the bodies says of them
  abbrev pub IsVerdictFor : List (Term T N) → Verdict T P S N → Type 0
  IsVerdictFor bodies (Never proof) = AreFoundFor bodies proof
  IsVerdictFor bodies (Model values) = AreValues problem.vars (vals_of theory.denotes values)
  IsVerdictFor bodies (Spent kept) = Unit {0}

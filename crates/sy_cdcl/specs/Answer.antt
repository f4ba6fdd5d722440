-- What the solver's answers mean.
use Rattle.std.specs.Prelude.{◌≡◌, ℕ, ◌≤◌, ◌<◌, ◌^◌, false, List, length, slice_index_or, Bool, Option, unwrap_or}
use Rattle.sy_clauses.specs.declared.Cnf.{Cnf}
use Rattle.sy_clauses.specs.declared.Log.{Log}
use Rattle.sy_clauses.specs.Clauses.{Refutes, IsModel}
use Rattle.sy_clauses.specs.New.{LearnsNew}
use Rattle.sy_cdcl.specs.declared.solver.End.{End}
use Rattle.sy_cdcl.specs.declared.solver.End.TheVariants as end
use Rattle.sy_cdcl.specs.declared.solver.Solved.{Solved}
use Rattle.sy_cdcl.specs.declared.solver.Solved.TheVariants.{Refuted, Model, Fuel}

abbrev pub or_false : Option Bool → Bool
or_false value = unwrap_or value false

-- the values are one for each variable, and make every clause true
pub record IsModelOf (cnf : Cnf) (values : List Bool) : Type 0 where
  pub long : length values ≡ cnf.vars
  pub model : IsModel (λ v. slice_index_or values v false) cnf.clauses

-- A refutation of at most `fuel` lines, or a value for each variable that makes every clause true, or
-- `fuel` learned clauses, each new to the clauses before it, which is fewer than there are sets of literals.
abbrev pub AnswersFormula : Cnf → ℕ → Solved → Type 0
AnswersFormula cnf fuel (Refuted log) = Refutes cnf log × (length log.lines ≤ fuel)
AnswersFormula cnf fuel (Model values) =
    (length values ≡ cnf.vars) × IsModel (λ v. slice_index_or values v false) cnf.clauses
AnswersFormula cnf fuel (Fuel log) = LearnsNew cnf log × (length log.lines ≡ fuel) × (fuel < 3 ^ cnf.vars)

-- not stopped by the number of clauses
abbrev pub IsUnstopped : Solved → Type 0
IsUnstopped (Refuted log) = Unit {0}
IsUnstopped (Model values) = Unit {0}
IsUnstopped (Fuel log) = ⊥

-- A refutation of at most `fuel` lines; fewer than `fuel` learned clauses, each new to the clauses
-- before it, and a model; or `fuel` such clauses, which is fewer than there are sets of literals.
abbrev pub IsRunEnd : Cnf → ℕ → Log → End → Type 0
IsRunEnd cnf fuel log end.Empty = Refutes cnf log × (length log.lines ≤ fuel)
IsRunEnd cnf fuel log (end.Model values) = IsModelOf cnf values × LearnsNew cnf log × (length log.lines < fuel)
IsRunEnd cnf fuel log end.Spent = LearnsNew cnf log × (length log.lines ≡ fuel) × (fuel < 3 ^ cnf.vars)

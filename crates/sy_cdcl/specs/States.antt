-- The solver's state between two conflicts.
use Rattle.std.specs.Prelude.{◌≡◌, ℕ, ◌+◌, ◌*◌, Some, List, [], map, length, vec_len}
use Rattle.sy_clauses.specs.declared.Cnf.{Cnf}
use Rattle.sy_clauses.specs.Clauses.{Clause, literals, known_clauses, all_clauses, IsEmpty}
use Rattle.sy_clauses.specs.Marking.{clause_of, MarksAreListed}
use Rattle.sy_clauses.specs.New.{EachNew}
use Rattle.sy_cdcl.specs.declared.solver.State.{State}
use Rattle.sy_cdcl.specs.Trails.{IsTrail, TrailIsReady, LevelsSettled, VarsBelow, kept_values}
use Rattle.sy_cdcl.specs.Status.{IsConflict}
use Rattle.sy_cdcl.specs.Watching.{IsWatching}
use Rattle.sy_cdcl.specs.Storing.{clauses_in, SpansFit}

-- the clauses that are known: the formula's, and those that were learned
abbrev pub clauses_known : Cnf → State → List Clause
clauses_known cnf s = known_clauses cnf.clauses s.derived.items

-- The assignment has its reasons, propagation was finished at the end of each level below, all clauses
-- are stored and watched, and the lines derive what was learned, each clause new to those before it.
pub record StateIsSound (cnf : Cnf) (s : State) : Type 0 where
  pub ready : TrailIsReady (clauses_known cnf s) s.trail
  pub levels : LevelsSettled (clauses_known cnf s) s.trail
  pub vars : VarsBelow cnf.vars (clauses_known cnf s)
  pub all : vec_len s.trail.values ≡ cnf.vars
  pub watching : IsWatching (clauses_known cnf s) s.trail s.watches
  pub stored : clauses_in s.store ≡ clauses_known cnf s
  pub fit : SpansFit s.store
  pub empty : IsEmpty (clause_of s.marks)
  pub listed : MarksAreListed s.marks
  pub numbered : all_clauses cnf record { lines = s.lines } ≡ Some (clauses_known cnf s)
  pub fresh : EachNew (length cnf.clauses) (clauses_known cnf s)
  pub count : length (clauses_known cnf s) ≡ length cnf.clauses + length s.lines

-- nothing was looked at yet
pub record IsFresh (cnf : Cnf) (s : State) : Type 0 where
  pub entries : s.trail.entries.items ≡ []
  pub lowest : s.trail.starts.items ≡ []
  pub vars : vec_len s.trail.values ≡ cnf.vars
  pub assignment : IsTrail s.trail
  pub pairs : s.watches.pairs.items ≡ []
  pub lists : length s.watches.lists.items ≡ 2 * cnf.vars
  pub head : s.watches.head ≡ 0
  pub empty : IsEmpty (clause_of s.marks)
  pub listed : MarksAreListed s.marks
  pub stored : clauses_in s.store ≡ map literals cnf.clauses
  pub fit : SpansFit s.store
  pub derived : s.derived.items ≡ []
  pub lines : s.lines ≡ []

-- the clause of this number is false without any decision
pub record IsFinalConflict (cnf : Cnf) (s : State) (number : ℕ) : Type 0 where
  pub ready : TrailIsReady (clauses_known cnf s) s.trail
  pub lowest : s.trail.starts.items ≡ []
  pub empty : IsEmpty (clause_of s.marks)
  pub listed : MarksAreListed s.marks
  pub derived : s.derived.items ≡ []
  pub conflict : IsConflict (clauses_known cnf s) (kept_values s.trail.values.items) number

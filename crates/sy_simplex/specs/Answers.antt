-- What each answer says of the forms, and of the run.
use Rattle.std.specs.Prelude.{◌≡◌, ℕ, List, length}
use Rattle.sy_linear_known.specs.declared.form.Form.{Form}
use Rattle.sy_linear_known.specs.Systems.{MeetsSystem, IsCorner, IsRefutation}
use Rattle.sy_simplex.specs.Rows.{AreLowest}
use Rattle.sy_simplex.specs.declared.answer.Feasible.{Feasible}
use Rattle.sy_simplex.specs.declared.answer.Feasible.TheVariants.{Point, Conflict, Pivots, Range}
use Rattle.sy_simplex.specs.Problems.{system_of, numbers}
use Rattle.sy_simplex.specs.States.{TableauState}
use Rattle.sy_simplex.specs.Runs.{IsPoint, AreRowMultipliers, EndsAt, EndsStuck, RunIsSpent, IsOutOfRange}

-- the point meets every form and is a corner of them; the multipliers, fractions in lowest terms, refute them
abbrev pub AnswerIsSound : ℕ → List Form → Feasible → Type 0
AnswerIsSound vars forms (Point p) = (length p ≡ vars) × MeetsSystem (system_of vars forms) (numbers p) × IsCorner (system_of vars forms) (numbers p)
AnswerIsSound vars forms (Conflict m) = (length m ≡ length forms) × IsRefutation (system_of vars forms) (numbers m) × AreLowest m
AnswerIsSound vars forms (Pivots run) = Unit {0}
AnswerIsSound vars forms (Range run) = Unit {0}

-- the run ends at the point, or at a row that can't be raised; or it is spent, or an operation doesn't fit
abbrev pub TellsFeasible : ℕ → List Form → ℕ → Feasible → Type 0
TellsFeasible vars forms pivots (Point p) = EndsAt vars forms pivots p
TellsFeasible vars forms pivots (Conflict m) = EndsStuck vars forms pivots
TellsFeasible vars forms pivots (Pivots run) = RunIsSpent vars forms pivots run.steps
TellsFeasible vars forms pivots (Range run) = IsOutOfRange vars forms pivots run.steps

-- the steps were spent
abbrev pub IsPivots : Feasible → Type 0
IsPivots (Pivots run) = Unit {0}
IsPivots _ = ⊥

-- the same answer: one point, or one list of steps; a conflict may have several multipliers
abbrev pub IsSameAnswer : Feasible → Feasible → Type 0
IsSameAnswer (Point p) (Point q) = p ≡ q
IsSameAnswer (Conflict m) (Conflict n) = Unit {0}
IsSameAnswer (Pivots r) (Pivots s) = r.steps ≡ s.steps
IsSameAnswer (Range r) (Range s) = r.steps ≡ s.steps
IsSameAnswer _ _ = ⊥

-- the answer is the point of this tableau, or the multipliers by its row
abbrev pub IsPointAnswer : TableauState → Feasible → Type 0
IsPointAnswer t (Point p) = IsPoint t p
IsPointAnswer t (Conflict m) = ⊥
IsPointAnswer t (Pivots run) = ⊥
IsPointAnswer t (Range run) = ⊥

abbrev pub IsConflictAnswer : TableauState → ℕ → Feasible → Type 0
IsConflictAnswer t r (Point p) = ⊥
IsConflictAnswer t r (Conflict m) = AreRowMultipliers t r m
IsConflictAnswer t r (Pivots run) = ⊥
IsConflictAnswer t r (Range run) = ⊥

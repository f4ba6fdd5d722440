-- The way to the place at which a search is, and what can be entered there.
use Rattle.std.specs.Prelude.{◌≡◌, ℕ, suc, ◌+◌, ◌*◌, ◌-◌, ◌<◌, ◌≤◌, ◌^◌, Bool, true, false, not, List, [], ◌∷◌, ◌++◌, length, ℤ, Option, Some, None, Result}
use Rattle.sy_frac.specs.Fraction.{Fraction}
use Rattle.sy_terms.specs.Expr.{nodes}
use Rattle.sy_terms.specs.declared.sort.Sort.{Sort}
use Rattle.sy_terms.specs.declared.sort.Sort.TheVariants as sorts
use Rattle.sy_linear_known.specs.declared.path.Fact.{Fact}
use Rattle.sy_linear_known.specs.declared.path.Test.{Test}
use Rattle.sy_linear_known.specs.declared.tree.CheckEnd.{CheckEnd}
use Rattle.sy_linear_known.specs.Right.{IsLinearQuery}
use Rattle.sy_linear_known.specs.Seen.{LinearQuery}
use Rattle.sy_linear_known.specs.Trees.{forms, IsOf, IsContradiction}
use Rattle.sy_linear.specs.Judging.{suits, opposite_fits, Adds, AnswersAt}
use Rattle.sy_simplex.specs.declared.answer.Feasible.{Feasible}
use Rattle.sy_simplex.specs.declared.answer.Feasible.TheVariants.{Point, Conflict, Pivots, Range}
use Rattle.sy_simplex.specs.Runs.{RunIsSpent, IsOutOfRange}
use Rattle.sy_intsolve_paths_laws.specs.Paths.{IsPath, TestIsOpen}
use Rattle.sy_intsolve_cuts.specs.Points.{IsPointOf, IsFirstBroken, ValuesAreWhole}
use Rattle.sy_intsolve_cuts.specs.declared.fork.Fork.{Fork}
use Rattle.sy_intsolve_cuts.specs.declared.fork.Fork.TheVariants as forks
use Rattle.sy_intsolve_cuts.specs.declared.step.Order.{Order}
use Rattle.sy_intsolve_cuts.specs.declared.step.Step.{Step}
use Rattle.sy_intsolve_cuts.specs.Growing.{GrownTree, Forked, Cut, Farkas, Shown, Unfinished, fork_fact, LeavesOpen, IsFork, IsGrowing, inner, is_closed}
use Rattle.sy_intsolve_cuts.specs.Steps.{Layer, Left, Right, Under, unbegun, inner_of, waiting, IsOtherSide, AreLayers}
use Rattle.sy_intsolve_cuts.specs.Stored.{layers_of}
use Rattle.sy_intsolve.specs.declared.way.Way.{Way}

-- ---- queries
-- a query of linear arithmetic whose nodes and variables can be numbered
pub record IsNumberedQuery (q : LinearQuery) : Type 0 where
  pub fits : IsLinearQuery q
  pub nodes : nodes q.body < 2 ^ 31
  pub vars : length q.vars < 2 ^ 31

-- ---- sides of a fork
-- both facts of the fork can be made
abbrev pub HasSides : List Sort → Fork → Type 0
HasSides vars (forks.Split t) = (suits vars t ≡ true) × (opposite_fits t ≡ true)
HasSides vars (forks.Branch i k) = IsOf sorts.Int vars i

-- both facts of the fork can be made, and the path stays one with either
abbrev pub CanTurn : List Sort → List Fact → Fork → Type 0
CanTurn vars path (forks.Split t) = TestIsOpen vars path t
CanTurn vars path (forks.Branch i k) = IsPath vars path × IsOf sorts.Int vars i

-- what a node gives is two facts, or want of memory
abbrev pub GivesTwoFacts : Result (Option (Fact × Fact)) CheckEnd → Type 0
GivesTwoFacts outcome = (facts : Fact × Fact) × AnswersAt 0 outcome (Adds facts)

abbrev pub is_unfinished : GrownTree → Bool
is_unfinished Unfinished = true
is_unfinished (Forked fork p left right) = false
is_unfinished (Cut ms d p below) = false
is_unfinished (Farkas ms) = false
is_unfinished Shown = false

-- ---- ways
-- the forks of the layers can be turned to their other sides
abbrev pub LayerTurns : List Sort → List Fact → Layer → Type 0
LayerTurns vars path (Left fork p right) = CanTurn vars path fork
LayerTurns vars path (Right fork p left) = CanTurn vars path fork
LayerTurns vars path (Under ms d p) = Unit {0}

unfoldable pub AllTurn : List Sort → List Fact → List Layer → List Fact → Type 0
AllTurn vars path [] facts = Unit {0}
AllTurn vars path (layer ∷ layers) [] = Unit {0}
AllTurn vars path (layer ∷ layers) (fact ∷ facts) = LayerTurns vars path layer × AllTurn vars (path ++ fact ∷ []) layers facts

-- layers from the root, which add these facts
pub record Stand (order : Order) (q : LinearQuery) (all : List Layer) (facts : List Fact) : Type 0 where
  pub layers : AreLayers order q [] all facts
  pub turns : AllTurn q.vars [] all facts

-- the way's steps stand, and its inner nodes are theirs and those of what stands at its end
pub record IsWay (order : Order) (q : LinearQuery) (way : Way) (end : GrownTree) : Type 0 where
  pub stand : Stand order q (layers_of way.steps.items) way.facts.items
  pub inner : way.inner ≡ inner_of (layers_of way.steps.items) + inner end

-- the way with a step more
pub record IsLonger (way : Way) (fact : Fact) (step : Step) (next : Way) : Type 0 where
  pub facts : next.facts.items ≡ way.facts.items ++ fact ∷ []
  pub steps : next.steps.items ≡ way.steps.items ++ step ∷ []
  pub inner : next.inner ≡ way.inner

-- an open leaf of a tree of at most so many inner nodes
pub record IsLeaf (order : Order) (q : LinearQuery) (nodes : ℕ) (to : Way) : Type 0 where
  pub way : IsWay order q to Unfinished
  pub path : IsPath q.vars to.facts.items
  pub within : to.inner ≤ nodes

-- a closed tree
pub record IsClosedTree (order : Order) (q : LinearQuery) (to : Way) (tree : GrownTree) : Type 0 where
  pub way : IsWay order q to tree
  pub grows : IsGrowing order q to.facts.items tree
  pub closed : is_closed tree ≡ true

-- a fork at the end of the way, one side of which can be entered: the other is this one, and the way's inner nodes are counted
-- with both
pub record GoesOn (order : Order) (q : LinearQuery) (way : Way) (last : Fork) (point : List Fraction) (left : Bool) (other : GrownTree) : Type 0 where
  pub stand : Stand order q (layers_of way.steps.items) way.facts.items
  pub fork : IsFork order q way.facts.items last point
  pub turns : CanTurn q.vars way.facts.items last
  pub beside : IsOtherSide order q (way.facts.items ++ fork_fact (not left) last ∷ []) other
  pub inner : way.inner ≡ inner_of (layers_of way.steps.items) + suc (inner other)

-- how many turns are left at most after one side is entered
abbrev pub room_after : ℕ → Way → GrownTree → ℕ
room_after nodes way other = 4 * (nodes - way.inner) + 2 * (waiting (layers_of way.steps.items) + unbegun other) + length way.steps.items + 2

-- ---- splits
-- a test that the order allows a split on, with either side of which the path stays one
pub record IsSplit (order : Order) (q : LinearQuery) (path : List Fact) (test : Test) : Type 0 where
  pub leaves : LeavesOpen order q path test
  pub turns : TestIsOpen q.vars path test

-- ---- points
-- a point of the path, multipliers that refute it, or a run that shows which budget was met
abbrev pub TellsPoint : List Sort → List Fact → ℕ → Feasible → Type 0
TellsPoint vars path pivots (Point p) = IsPointOf vars path p
TellsPoint vars path pivots (Conflict ms) = IsContradiction ms (forms path)
TellsPoint vars path pivots (Pivots run) = RunIsSpent (length vars) (forms path) pivots run.steps
TellsPoint vars path pivots (Range run) = IsOutOfRange (length vars) (forms path) pivots run.steps

-- the first value that isn't whole, of an integer variable; none where all are whole
abbrev pub IsBrokenIn : List Sort → List Fraction → Option (ℕ × ℤ) → Type 0
IsBrokenIn vars point None = ValuesAreWhole point
IsBrokenIn vars point (Some found) = IsFirstBroken point found.0 found.1 × IsOf sorts.Int vars found.0

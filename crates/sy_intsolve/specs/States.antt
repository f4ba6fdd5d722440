-- The states of a search, its turns and its answers.
use Rattle.std.specs.Prelude.{◌≡◌, ℕ, ◌+◌, ◌*◌, ◌-◌, ◌<◌, ◌≤◌, Bool, true, false, not, List, [], length, ℤ, IfSome}
use Rattle.sy_terms.specs.Values.{Truth, Whole}
use Rattle.sy_terms.specs.Denoted.{vals_of}
use Rattle.sy_terms.specs.Meaning.{meaning}
use Rattle.sy_terms.specs.declared.sort.Value.{Value}
use Rattle.sy_query_limits.specs.declared.Limits.{Limits}
use Rattle.sy_query_base.specs.declared.verdict.Verdict.{Verdict}
use Rattle.sy_query_base.specs.declared.verdict.Verdict.TheVariants as verdicts
use Rattle.sy_linear_known.specs.declared.tree.Tree.{Tree}
use Rattle.sy_linear_known.specs.Right.{Assigns}
use Rattle.sy_linear_known.specs.Seen.{LinearQuery}
use Rattle.sy_linear_known.specs.Stored.{tree_shape_of}
use Rattle.sy_linear_known.specs.Trees.{TreeRefutes}
use Rattle.sy_intsolve_cuts.specs.Points.{IsPointOf}
use Rattle.sy_intsolve_cuts.specs.declared.step.Order.{Order}
use Rattle.sy_intsolve_cuts.specs.declared.step.Order.TheVariants as orders
use Rattle.sy_intsolve_cuts.specs.declared.spent.IntSpent.{IntSpent}
use Rattle.sy_intsolve_cuts.specs.Budgets.{budget, Shows}
use Rattle.sy_intsolve_cuts.specs.Growing.{GrownTree, Unfinished}
use Rattle.sy_intsolve_cuts.specs.Steps.{Layer, side_layer, layer_waiting, waiting}
use Rattle.sy_intsolve_cuts.specs.Stored.{grown_tree_of, layer_of, layers_of}
use Rattle.sy_intsolve.specs.declared.way.Way.{Way}
use Rattle.sy_intsolve.specs.declared.state.State.{State}
use Rattle.sy_intsolve.specs.declared.state.State.TheVariants as states
use Rattle.sy_intsolve.specs.declared.state.Turn.{Turn}
use Rattle.sy_intsolve.specs.declared.state.Turn.TheVariants as turns
use Rattle.sy_intsolve.specs.declared.back.Beside.{Beside}
use Rattle.sy_intsolve.specs.declared.back.Beside.TheVariants as beside
use Rattle.sy_intsolve.specs.Ways.{IsLeaf, IsClosedTree}

-- ---- answers
-- values of the variables at which the query is true
abbrev pub IsModelOfQuery : LinearQuery → List (Value ℤ) → Type 0
IsModelOfQuery q values = Assigns q.vars (vals_of Whole values) × (meaning [] [] (vals_of Whole values) q.body ≡ Truth true)

-- what is left shows that a budget was met
abbrev pub IsSpentFor : LinearQuery → Limits → IntSpent → Type 0
IsSpentFor q limits spent = Shows q limits (budget spent) spent

-- the tree refutes the query, the values satisfy it, or a budget was met
abbrev pub AnswersQuery : {T : Type 0} → LinearQuery → Limits → Verdict T Tree IntSpent ℤ → Type 0
AnswersQuery q limits (verdicts.Never tree) = TreeRefutes q [] (tree_shape_of tree)
AnswersQuery q limits (verdicts.Model values) = IsModelOfQuery q values
AnswersQuery q limits (verdicts.Spent spent) = IsSpentFor q limits spent

abbrev pub is_spent : {T : Type 0} → Verdict T Tree IntSpent ℤ → Bool
is_spent (verdicts.Never tree) = false
is_spent (verdicts.Model values) = false
is_spent (verdicts.Spent spent) = true

-- the same where each split is on the first open test; else nothing is shown
abbrev pub IsSpentBy : Order → LinearQuery → Limits → IntSpent → Type 0
IsSpentBy orders.First q limits spent = IsSpentFor q limits spent
IsSpentBy orders.Free q limits spent = Unit {0}

-- how a search by the order ends
abbrev pub IsSearchEnd : {T : Type 0} → Order → LinearQuery → Limits → Verdict T Tree IntSpent ℤ → Type 0
IsSearchEnd order q limits (verdicts.Never tree) = TreeRefutes q [] (tree_shape_of tree)
IsSearchEnd order q limits (verdicts.Model values) = IsModelOfQuery q values
IsSearchEnd order q limits (verdicts.Spent spent) = IsSpentBy order q limits spent

-- ---- states
-- how many turns are left at most: four for each inner node that may be made, two for each side that isn't begun, and one for
-- each step of the way and for an open leaf
abbrev pub room_closed : ℕ → Way → ℕ
room_closed nodes way = 4 * (nodes - way.inner) + 2 * waiting (layers_of way.steps.items) + length way.steps.items

abbrev pub room_open : ℕ → Way → ℕ
room_open nodes way = room_closed nodes way + 1

abbrev pub nodes_left : ℕ → State → ℕ
nodes_left nodes (states.Open way point) = room_open nodes way
nodes_left nodes (states.Closed way tree) = room_closed nodes way

-- a state of a search for a tree of at most so many inner nodes
abbrev pub IsState : Order → LinearQuery → ℕ → State → Type 0
IsState order q nodes (states.Open way point) = IsLeaf order q nodes way × IfSome point (IsPointOf q.vars way.facts.items)
IsState order q nodes (states.Closed way tree) = IsClosedTree order q way (grown_tree_of tree) × (way.inner ≤ nodes)

-- a state with less room than this, or an end
abbrev pub IsTurn : Order → LinearQuery → Limits → ℕ → Turn → Type 0
IsTurn order q limits before (turns.On state) = IsState order q limits.nodes state × (nodes_left limits.nodes state < before)
IsTurn order q limits before (turns.Over verdict) = IsSearchEnd order q limits verdict

-- what a closed tree at the end of a layer makes: the layer's other side isn't begun, and this side of the fork is to be entered,
-- or it is begun, or there is none
abbrev pub ClosesLayer : Layer → GrownTree → Beside → Type 0
ClosesLayer layer below (beside.Side fork point left tree) = (layer ≡ side_layer (not left) fork point Unfinished) × (grown_tree_of tree ≡ below)
ClosesLayer layer below (beside.Whole step tree) = (layer_of step ≡ layer) × (grown_tree_of tree ≡ below) × (layer_waiting layer ≡ 0)

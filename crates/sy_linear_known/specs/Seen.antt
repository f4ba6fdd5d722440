-- What a path tells of a term and of a query: a walk through the live nodes, in preorder.
use Rattle.std.specs.Prelude.{ℕ, suc, ◌+◌, Bool, true, false, cond, not, ◌&&◌, List, [], ◌∷◌, ◌++◌, Option, Some, None, slice_get}
use Rattle.sy_terms.specs.Values.{Val, Truth, Whole, Bits}
use Rattle.sy_terms.specs.Expr.{Expr, Exprs, Constant, Variable, Apply, Invoke, Bind, none, more, nodes, nodes_of}
use Rattle.sy_terms.specs.declared.op.Op.{Op}
use Rattle.sy_terms.specs.declared.op.Op.TheVariants as ops
use Rattle.sy_terms.specs.declared.sort.Sort.{Sort}
use Rattle.sy_terms.specs.declared.sort.Sort.TheVariants as sorts
use Rattle.sy_linear_known.specs.Forms.{constant_form, variable_form}
use Rattle.sy_linear_known.specs.declared.path.Fact.{Fact}
use Rattle.sy_linear_known.specs.declared.path.Test.{Test}
use Rattle.sy_linear_known.specs.declared.path.Test.TheVariants as test
use Rattle.sy_linear_known.specs.declared.sight.Sight.{Sight}
use Rattle.sy_linear_known.specs.declared.sight.Sight.TheVariants.{Linear, Settled, Open}
use Rattle.sy_linear_known.specs.declared.sight.Node.{Node}
use Rattle.sy_linear_known.specs.declared.sight.Seen.{Seen}
use Rattle.sy_linear_known.specs.declared.sight.Found.{Found}
use Rattle.sy_linear_known.specs.declared.answer.Known.{Known}
use Rattle.sy_linear_known.specs.declared.answer.Known.TheVariants as known
use Rattle.sy_linear_known.specs.Paths.{given}
use Rattle.sy_linear_known.specs.Sights.{is_open, or_else, operator_applied}

-- ---- names
abbrev pub of_given : Option Bool → Sight
of_given (Some b) = Settled b
of_given None = Open

-- what a path tells of the variable of this number
abbrev pub variable_sight : List Fact → Sort → ℕ → Sight
variable_sight path sorts.Int i = Linear (variable_form i)
variable_sight path sorts.Bool i = of_given (given i path)
variable_sight path (sorts.Bits w) i = Open

-- of the variables from number i on
abbrev pub variable_sights : List Fact → ℕ → List Sort → List Sight
variable_sights path i [] = []
variable_sights path i (sort ∷ rest) = variable_sight path sort i ∷ variable_sights path (suc i) rest

abbrev pub or_open : Option Sight → Sight
or_open (Some s) = s
or_open None = Open

-- what is told of a name
abbrev pub sight_at : List Sight → ℕ → Sight
sight_at names i = or_open (slice_get names i)

abbrev pub is_truths : Option Sort → Bool
is_truths (Some sorts.Bool) = true
is_truths (Some sorts.Int) = false
is_truths (Some (sorts.Bits w)) = false
is_truths None = false

-- a variable of which the path doesn't tell whether it is true
abbrev pub variable_test : List Sort → Sight → ℕ → Option Test
variable_test vars s i = cond (is_open s && is_truths (slice_get vars i)) (Some (test.Holds i)) None

-- ---- live arguments
abbrev pub is_ite : Op → Bool
is_ite ops.Ite = true
is_ite _ = false

-- whether the next argument is live, by what is told of those before it: of a choice the condition,
-- and the branch that a known condition chooses
abbrev pub live : Bool → List Sight → Bool
live false before = true
live true [] = true
live true (Settled b ∷ []) = b
live true (Settled b ∷ s ∷ []) = not b
live true _ = false

-- ---- the walk
abbrev pub of_value : Val → Sight
of_value (Truth b) = Settled b
of_value (Whole z) = Linear (constant_form z)
of_value (Bits w n) = Open

abbrev pub seen_as : Sight → Seen
seen_as s = record { sight = s; unknown = None; misfit = None }

-- a vector is no term of linear arithmetic
abbrev pub value_seen : ℕ → Val → Seen
value_seen at (Truth b) = seen_as (Settled b)
value_seen at (Whole z) = seen_as (Linear (constant_form z))
value_seen at (Bits w n) = record { sight = Open; unknown = None; misfit = Some at }

-- nothing found in arguments yet
abbrev pub nothing_found : Found
nothing_found = record { sights = []; unknown = None; misfit = None }

-- with one argument more
abbrev pub with_next : Found → Seen → Found
with_next before s = record { sights = before.sights ++ s.sight ∷ []; unknown = or_else before.unknown s.unknown; misfit = or_else before.misfit s.misfit }

-- what is found at a node of this number and below it
abbrev pub node_noted : ℕ → Node → Found → Seen
node_noted at n below = record { sight = n.sight; unknown = or_else n.unknown below.unknown; misfit = or_else (cond n.fits None (Some at)) below.misfit }

-- what is found in bound terms and then in the term that they are bound in
abbrev pub after_bound : Found → Seen → Seen
after_bound below s = record { sight = s.sight; unknown = or_else below.unknown s.unknown; misfit = or_else below.misfit s.misfit }

abbrev pub variable_seen : List Sort → List Sight → ℕ → Seen
variable_seen vars names i = record { sight = sight_at names i; unknown = variable_test vars (sight_at names i) i; misfit = None }

unfoldable mutual
  -- what is found in a term, whose node has this number, by what is told of the names in force
  pub seen : List Sort → List Fact → List Sight → ℕ → Expr → Seen
  seen vars path names at (Constant value) = value_seen at value
  seen vars path names at (Variable i) = variable_seen vars names i
  seen vars path names at (Apply operator arguments) =
      let below : Found = all_seen vars path names (is_ite operator) (at + 1) nothing_found arguments in
      node_noted at (operator_applied path operator below.sights) below
  seen vars path names at (Invoke function arguments) = record { sight = Open; unknown = None; misfit = Some at }
  seen vars path names at (Bind bound inner) =
      let below : Found = all_seen vars path names false (at + 1) nothing_found bound in
      after_bound below (seen vars path (names ++ below.sights) (at + 1 + nodes_of bound) inner)

  -- in arguments after those before; the first node of those left has this number
  pub all_seen : List Sort → List Fact → List Sight → Bool → ℕ → Found → Exprs → Found
  all_seen vars path names choice at before none = before
  all_seen vars path names choice at before (more first rest) =
      all_seen vars path names choice (at + nodes first) (with_next before (cond (live choice before.sights) (seen vars path names at first) (seen_as Open))) rest

-- ---- queries
-- the sorts of the variables, and a truth value's term over them
pub record LinearQuery : Type 0 where
  pub vars : List Sort
  pub body : Expr

abbrev pub of_misfit : Option ℕ → Known → Known
of_misfit (Some n) otherwise = known.OutOfRange n
of_misfit None otherwise = otherwise

-- a query of linear arithmetic that isn't known has an open test
abbrev pub of_open : Option Test → Known
of_open (Some t) = known.Undecided t
of_open None = known.OutOfRange 0

abbrev pub of_sight : Sight → Known → Known
of_sight (Settled true) otherwise = known.True
of_sight (Settled false) otherwise = known.False
of_sight (Linear f) otherwise = otherwise
of_sight Open otherwise = otherwise

-- a node at which a form doesn't fit goes before the value, and the value before the first open test
abbrev pub known_of : Seen → Known
known_of s = of_misfit s.misfit (of_sight s.sight (of_open s.unknown))

-- what is found in the query
abbrev pub query_seen : LinearQuery → List Fact → Seen
query_seen q path = seen q.vars path (variable_sights path 0 q.vars) 0 q.body

-- what the path tells of the query
abbrev pub query_known : LinearQuery → List Fact → Known
query_known q path = known_of (query_seen q path)

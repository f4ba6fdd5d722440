-- What is told of a query is so at every assignment that meets the path.
use Rattle.std.specs.Prelude.{◌≡◌, Bool, true, false, List, [], ◌∷◌, Some}
use Rattle.std.specs.List.{list_all}
use Rattle.sy_terms.specs.Fitting.{sort_in}
use Rattle.sy_meaning_integers.specs.Lia.{owned}
use Rattle.sy_terms.specs.Values.{Val, Truth, Whole}
use Rattle.sy_terms.specs.Meaning.{meaning}
use Rattle.sy_terms.specs.declared.sort.Sort.{Sort}
use Rattle.sy_terms.specs.declared.sort.Sort.TheVariants as sorts
use Rattle.sy_linear_known.specs.declared.path.Fact.{Fact}
use Rattle.sy_linear_known.specs.declared.answer.Known.{Known}
use Rattle.sy_linear_known.specs.declared.answer.Known.TheVariants as known
use Rattle.sy_linear_known.specs.Paths.{MeetsPath}
use Rattle.sy_linear_known.specs.Seen.{LinearQuery, query_seen}

-- an assignment of whole numbers and truth values, each of its variable's sort
abbrev pub Assigns : List Sort → List Val → Type 0
Assigns [] [] = Unit {0}
Assigns (sorts.Int ∷ rest) (Whole z ∷ values) = Assigns rest values
Assigns (sorts.Bool ∷ rest) (Truth b ∷ values) = Assigns rest values
Assigns _ _ = ⊥

-- a query that is known true is true at every assignment that meets the path, and likewise false
abbrev pub KnownIsRight : LinearQuery → List Fact → Known → Type 0
KnownIsRight q path known.True = (values : List Val) → Assigns q.vars values → MeetsPath values path → meaning [] [] values q.body ≡ Truth true
KnownIsRight q path known.False = (values : List Val) → Assigns q.vars values → MeetsPath values path → meaning [] [] values q.body ≡ Truth false
KnownIsRight q path (known.Undecided t) = Unit {0}
KnownIsRight q path (known.OutOfRange n) = Unit {0}

-- ---- queries that fit
-- the sorts of linear arithmetic
abbrev pub is_linear_sort : Sort → Bool
is_linear_sort sorts.Bool = true
is_linear_sort sorts.Int = true
is_linear_sort (sorts.Bits w) = false

-- a truth value's term of the logic, which calls nothing, over integers and truth values
pub record IsLinearQuery (q : LinearQuery) : Type 0 where
  pub vars : list_all is_linear_sort q.vars ≡ true
  pub body : sort_in (record { owned = owned; defined = []; wanted = [] }) q.vars q.body ≡ Some sorts.Bool

-- an answer out of range names the first node at which a form doesn't fit
abbrev pub IsMisfit : LinearQuery → List Fact → Known → Type 0
IsMisfit q path (known.OutOfRange n) = (query_seen q path).misfit ≡ Some n
IsMisfit q path known.True = Unit {0}
IsMisfit q path known.False = Unit {0}
IsMisfit q path (known.Undecided t) = Unit {0}

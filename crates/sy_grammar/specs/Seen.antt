-- The sorts of arguments, as far as an operator's sort depends on them.
use Rattle.std.specs.Prelude.{Bool, false, ◌&&◌, List, [], ◌∷◌, Option, Some, None, if◌then◌else◌}
use Rattle.sy_terms.specs.Sorts.{sort_of, same_sort}
use Rattle.sy_terms.specs.Fitting.{given_by, same_sorts}
use Rattle.sy_terms.specs.declared.op.Op.{Op}
use Rattle.sy_terms.specs.declared.sort.Sort.{Sort}
use Rattle.sy_grammar.specs.declared.seen.Seen.{Seen}
use Rattle.sy_grammar.specs.declared.seen.Seen.TheVariants.{Nothing, One, Two, Three, Alike, Mixed}

-- with one argument more
abbrev pub with_argument : Seen → Sort → Seen
with_argument Nothing sort = One sort
with_argument (One a) sort = Two a sort
with_argument (Two a b) sort = Three a b sort
with_argument (Three a b c) sort = if same_sort a b && (same_sort a c && same_sort a sort) then Alike a else Mixed
with_argument (Alike a) sort = if same_sort a sort then Alike a else Mixed
with_argument Mixed sort = Mixed

-- with all of these
abbrev pub after_all : Seen → List Sort → Seen
after_all seen [] = seen
after_all seen (sort ∷ rest) = after_all (with_argument seen sort) rest

-- the sort of the operator's value
abbrev pub sort_by : Op → Seen → Option Sort
sort_by operator Nothing = given_by (sort_of operator [])
sort_by operator (One a) = given_by (sort_of operator (a ∷ []))
sort_by operator (Two a b) = given_by (sort_of operator (a ∷ b ∷ []))
sort_by operator (Three a b c) = given_by (sort_of operator (a ∷ b ∷ c ∷ []))
sort_by operator (Alike a) = given_by (sort_of operator (a ∷ a ∷ a ∷ a ∷ []))
sort_by operator Mixed = None

-- the sorts that a function takes
abbrev pub taken : List Sort → Option (List Sort) → Bool
taken wanted None = false
taken wanted (Some found) = same_sorts found wanted

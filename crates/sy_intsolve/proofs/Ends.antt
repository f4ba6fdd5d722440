-- What the ends of a search show, and the variables of its forks.
use Rattle.std.specs.Prelude.{◌≡◌, ℕ, zero, suc, ◌*◌, ◌<◌, ◌≤◌, Bool, true, false, ◌&&◌, List, [], ◌∷◌, length, slice_get, get_or, ℤ, pos, negsuc, ◌*ℤ◌, unsigned_abs, int_lt, Option, Some, None, Result, Ok, Err, IfOk, IfSome}
use Rattle.std.specs.List.{list_all}
use Rattle.std.proofs.Common.{refl, sym, ◌∙◌, ap, subst, arith}
use Rattle.std.proofs.lemmas.Nat.Gcd.{IsGcd-from_zero, IsGcd-swap, same_from_IsGcd}
use borrow.Author.Differences.{at_most_in}
use Rattle.sy_frac.specs.Fraction.{Fraction, IsLowest}
use Rattle.sy_frac.specs.Rational.{0ℚ, ◌*ℚ◌, over, value, is_negative_rational, over_negative, product_over_is, zero-*ℚ, zero_not_negative}
use Rattle.sy_query_limits.specs.declared.Limits.{Limits}
use Rattle.sy_query_base.specs.declared.verdict.Verdict.{Verdict}
use Rattle.sy_query_base.specs.declared.verdict.Verdict.TheVariants as verdicts
use Rattle.sy_terms.specs.declared.sort.Sort.{Sort}
use Rattle.sy_terms.specs.declared.sort.Sort.TheVariants as sorts
use Rattle.sy_linear_known.specs.declared.path.Fact.{Fact}
use Rattle.sy_linear_known.specs.declared.path.Path.{Path}
use Rattle.sy_linear_known.specs.declared.path.Test.{Test}
use Rattle.sy_linear_known.specs.declared.tree.Tree.{Tree}
use Rattle.sy_linear_known.specs.declared.answer.Known.TheVariants as known
use Rattle.sy_linear_known.specs.Right.{is_linear_sort}
use Rattle.sy_linear_known.specs.Seen.{LinearQuery, query_known, query_seen}
use Rattle.sy_linear_known.specs.Stored.{tree_shape_of}
use Rattle.sy_linear_known.specs.Trees.{forms, IsOf, TreeRefutes}
use Rattle.sy_linear.proofs.Accepting.{negative_times}
use Rattle.sy_simplex.specs.Problems.{numbers}
use Rattle.sy_simplex.specs.Runs.{RunIsSpent, IsOutOfRange}
use Rattle.sy_simplex.specs.declared.answer.Run.{Run}
use Rattle.sy_simplex.specs.Operations.{fraction_of_whole}
use Rattle.sy_simplex.specs.Rows.{at}
use Rattle.sy_intsolve_paths_laws.specs.Paths.{IsPath, TestIsOpen}
use Rattle.sy_intsolve_paths_laws.proofs.Paths.{asked}
use Rattle.sy_intsolve_order.proofs.Openings.{suits_is}
use Rattle.sy_intsolve_cuts.specs.Points.{IsPointOf, IsFirstBroken}
use Rattle.sy_intsolve_cuts.specs.declared.fork.Fork.TheVariants as forks
use Rattle.sy_intsolve_cuts.specs.declared.step.Order.{Order}
use Rattle.sy_intsolve_cuts.specs.declared.step.Order.TheVariants.{First, Free}
use Rattle.sy_intsolve_cuts.specs.declared.spent.IntSpent.{IntSpent}
use Rattle.sy_intsolve_cuts.specs.declared.spent.IntSpent.TheVariants as spent
use Rattle.sy_intsolve_cuts.specs.declared.spent.IntRange.TheVariants as range
use Rattle.sy_intsolve_cuts.specs.Budgets.{NodesMet, OpensAt}
use Rattle.sy_intsolve_cuts.specs.Growing.{GrownTree, Unfinished, IsFork, IsGrowing, inner}
use Rattle.sy_intsolve_cuts.specs.Steps.{Layer, plugged, inner_of, AreLayers}
use Rattle.sy_intsolve_cuts.specs.Stored.{grown_tree_of, layers_of}
use Rattle.sy_intsolve_cuts.proofs.Opening.{nodes_met, opens_at}
use Rattle.sy_intsolve_cuts.proofs.Refuting.{refutes, bare-grown_of}
use Rattle.sy_intsolve.specs.declared.way.Way.{Way}
use Rattle.sy_intsolve.specs.Ways.{IsWay, IsClosedTree, IsSplit}
use Rattle.sy_intsolve.specs.States.{is_spent, IsSearchEnd, IsSpentBy, AnswersQuery}

-- ---- refutations
no_layers : (order : Order) (q : LinearQuery) (facts : List Fact) (layers : List Layer) → layers ≡ [] → AreLayers order q [] layers facts → facts ≡ []
unfolding AreLayers
no_layers order q facts [] e h = h
no_layers order q facts (layer ∷ layers) e h = absurd cc

pub never : (order : Order) (q : LinearQuery) (way : Way) (tree : Tree) → IsClosedTree order q way (grown_tree_of tree) → way.steps.items ≡ [] → TreeRefutes q [] (tree_shape_of tree)
never order q way tree c e =
    let f : way.facts.items ≡ [] = no_layers order q way.facts.items (layers_of way.steps.items) (ap layers_of e) c.way.stand.layers in
    subst (TreeRefutes q []) (bare-grown_of tree) (refutes order q [] (grown_tree_of tree) (subst (λ fs. IsGrowing order q fs (grown_tree_of tree)) f c.grows) c.closed)

-- ---- spent budgets
counted : (way : Way) (q : LinearQuery) → IsWay First q way Unfinished → inner_of (layers_of way.steps.items) ≡ way.inner
unfolding inner
counted way q w = omega (arith, w.inner)

shows-nodes : (q : LinearQuery) (nodes : ℕ) (way : Way) (tree : GrownTree) → IsWay First q way Unfinished → way.inner ≡ nodes → tree ≡ plugged (layers_of way.steps.items) Unfinished → NodesMet q nodes tree
shows-nodes q nodes way tree w n e =
    subst (NodesMet q nodes) (sym e)
    (subst (λ k. NodesMet q k (plugged (layers_of way.steps.items) Unfinished)) (counted way q w ∙ n) (nodes_met q (layers_of way.steps.items) way.facts.items w.stand.layers))

opens : (q : LinearQuery) (nodes : ℕ) (way : Way) (tree : GrownTree) (facts : List Fact) → IsWay First q way Unfinished → way.inner ≤ nodes → tree ≡ plugged (layers_of way.steps.items) Unfinished → facts ≡ way.facts.items → OpensAt q nodes tree facts
opens q nodes way tree facts w n e f =
    subst (λ t. OpensAt q nodes t facts) (sym e)
    (subst (OpensAt q nodes (plugged (layers_of way.steps.items) Unfinished)) (sym f) (opens_at q nodes (layers_of way.steps.items) way.facts.items w.stand.layers (omega (arith, counted way q w, n))))

pub spent-nodes : (order : Order) (q : LinearQuery) (limits : Limits) (way : Way) (tree : Tree) → IsWay order q way Unfinished → way.inner ≡ limits.nodes → grown_tree_of tree ≡ plugged (layers_of way.steps.items) Unfinished → IsSpentBy order q limits (spent.Nodes tree)
spent-nodes First q limits way tree w n e = shows-nodes q limits.nodes way (grown_tree_of tree) w n e
spent-nodes Free q limits way tree w n e = tt

pub spent-pivots : (order : Order) (q : LinearQuery) (limits : Limits) (way : Way) (tree : Tree) (path : Path) (run : Run) → IsWay order q way Unfinished → way.inner ≤ limits.nodes → grown_tree_of tree ≡ plugged (layers_of way.steps.items) Unfinished → path.facts ≡ way.facts.items → RunIsSpent (length q.vars) (forms way.facts.items) limits.pivots run.steps → IsSpentBy order q limits (spent.Pivots tree path run)
spent-pivots First q limits way tree path run w n e f s = (opens q limits.nodes way (grown_tree_of tree) path.facts w n e f, subst (λ facts. RunIsSpent (length q.vars) (forms facts) limits.pivots run.steps) (sym f) s)
spent-pivots Free q limits way tree path run w n e f s = tt

pub spent-range : (order : Order) (q : LinearQuery) (limits : Limits) (way : Way) (tree : Tree) (path : Path) (run : Run) → IsWay order q way Unfinished → way.inner ≤ limits.nodes → grown_tree_of tree ≡ plugged (layers_of way.steps.items) Unfinished → path.facts ≡ way.facts.items → IsOutOfRange (length q.vars) (forms way.facts.items) limits.pivots run.steps → IsSpentBy order q limits (spent.Range tree (range.Simplex path run))
spent-range First q limits way tree path run w n e f s = (opens q limits.nodes way (grown_tree_of tree) path.facts w n e f, subst (λ facts. IsOutOfRange (length q.vars) (forms facts) limits.pivots run.steps) (sym f) s)
spent-range Free q limits way tree path run w n e f s = tt

pub spent-known : (order : Order) (q : LinearQuery) (limits : Limits) (way : Way) (tree : Tree) (path : Path) (node : ℕ) → IsWay order q way Unfinished → way.inner ≤ limits.nodes → grown_tree_of tree ≡ plugged (layers_of way.steps.items) Unfinished → path.facts ≡ way.facts.items → (query_seen q way.facts.items).misfit ≡ Some node → IsSpentBy order q limits (spent.Range tree (range.Known path node))
spent-known First q limits way tree path node w n e f s = (opens q limits.nodes way (grown_tree_of tree) path.facts w n e f, subst (λ facts. (query_seen q facts).misfit ≡ Some node) (sym f) s)
spent-known Free q limits way tree path node w n e f s = tt

-- ---- answers
-- the end of a search that met no budget is an answer, and any end of one that splits on the first open test
pub unspent-answers : {T : Type 0} (order : Order) (q : LinearQuery) (limits : Limits) (verdict : Verdict T Tree IntSpent ℤ) → IsSearchEnd order q limits verdict → is_spent verdict ≡ false → AnswersQuery q limits verdict
unspent-answers order q limits (verdicts.Never tree) end e = end
unspent-answers order q limits (verdicts.Model values) end e = end
unspent-answers order q limits (verdicts.Spent spent) end e = absurd cc

first-answers : {T : Type 0} (q : LinearQuery) (limits : Limits) (verdict : Verdict T Tree IntSpent ℤ) → IsSearchEnd First q limits verdict → AnswersQuery q limits verdict
first-answers q limits (verdicts.Never tree) end = end
first-answers q limits (verdicts.Model values) end = end
first-answers q limits (verdicts.Spent spent) end = end

pub first-end : {T E : Type 0} (q : LinearQuery) (limits : Limits) (end : Result (Verdict T Tree IntSpent ℤ) E) → IfOk end (IsSearchEnd First q limits) → IfOk end (AnswersQuery q limits)
first-end q limits (Ok verdict) end = first-answers q limits verdict end
first-end q limits (Err want) end = tt

-- ---- splits
-- a split at a point of the path
pub split-fork : (order : Order) (q : LinearQuery) (path : List Fact) (t : Test) (p : List Fraction) → IsSplit order q path t → IsPointOf q.vars path p → IsFork order q path (forks.Split t) p
split-fork order q path t p s a = (suits_is q.vars t s.turns.suits, s.leaves, a)

-- the first open test can be split on in either order
pub open-split : (order : Order) (q : LinearQuery) (path : List Fact) (t : Test) → IsPath q.vars path → query_known q path ≡ known.Undecided t → IsSplit order q path t
open-split First q path t h e = record { leaves = e; turns = asked q path t h e }
open-split Free q path t h e = record { leaves = tt; turns = asked q path t h e }

-- what opens both sides can be split on where any test may be
pub free-splits : (q : LinearQuery) (path : List Fact) (found : Option Test) → IfSome found (TestIsOpen q.vars path) → IfSome found (IsSplit Free q path)
free-splits q path (Some t) o = record { leaves = tt; turns = o }
free-splits q path None o = tt

-- ---- broken values are those of integer variables
disagree : true ≡ false → ⊥
disagree e = cc

-- a fraction of value 0 has the numerator 0
zero_over : (n : ℤ) (d : ℕ) → 0 < d → over n d ≡ 0ℚ → n ≡ pos 0
zero_over (pos zero) d p e = refl
zero_over (pos (suc k)) d p e =
    let h : int_lt (pos (suc k) *ℤ negsuc 0) (pos 0) ≡ true = negative_times (pos (suc k)) (negsuc 0) (at_most_in (pos 1) (pos (suc k)) (omega arith)) (omega arith) in
    absurd (disagree (sym h ∙ sym (over_negative (pos (suc k) *ℤ negsuc 0) (d * 1)) ∙ sym (ap is_negative_rational (product_over_is (pos (suc k)) (negsuc 0) d 1 p (omega arith))) ∙ ap (λ x. is_negative_rational (x *ℚ over (negsuc 0) 1)) e ∙ ap is_negative_rational (zero-*ℚ (over (negsuc 0) 1)) ∙ zero_not_negative))
zero_over (negsuc k) d p e = absurd (disagree (sym (over_negative (negsuc k) d) ∙ ap is_negative_rational e ∙ zero_not_negative))

zero_whole : (f : Fraction) → IsLowest f → value f ≡ 0ℚ → f.den ≡ 1
zero_whole f l e =
    let z : unsigned_abs f.num ≡ 0 = ap unsigned_abs (zero_over f.num f.den l.positive e) in
    same_from_IsGcd f.den (unsigned_abs f.num) f.den 1 (IsGcd-from_zero f.den (unsigned_abs f.num) z) (IsGcd-swap (unsigned_abs f.num) f.den 1 l.coprime)

get_same : (xs : List Fraction) (i : ℕ) (d e : Fraction) → i < length xs → get_or xs i d ≡ get_or xs i e
get_same [] i d e l = absurd (omega (arith, l))
get_same (x ∷ xs) zero d e l = refl
get_same (x ∷ xs) (suc i) d e l = get_same xs i d e (omega (arith, l))

-- what is read there is in lowest terms
pub lowest-at : (xs : List Fraction) (i : ℕ) (x : Fraction) → i < length xs → x ≡ get_or xs i x → IsLowest x → IsLowest (at xs i)
lowest-at xs i x l e h = subst IsLowest (e ∙ get_same xs i x (fraction_of_whole (pos 0)) l) h

and_parts : (a b : Bool) → (a && b) ≡ true → (a ≡ true) × (b ≡ true)
and_parts true b e = (refl, e)
and_parts false b e = absurd cc

get_none : (vars : List Sort) (i : ℕ) → slice_get vars i ≡ None → length vars ≤ i
get_none [] i e = omega arith
get_none (v ∷ vars) zero e = absurd cc
get_none (v ∷ vars) (suc i) e = omega (arith, get_none vars i e)

get_linear : (vars : List Sort) (i : ℕ) (s : Sort) → list_all is_linear_sort vars ≡ true → slice_get vars i ≡ Some s → is_linear_sort s ≡ true
get_linear [] i s h e = absurd cc
get_linear (v ∷ vars) zero s h e = let same : v ≡ s = cc in subst (λ t. is_linear_sort t ≡ true) same (and_parts (is_linear_sort v) (list_all is_linear_sort vars) h).0
get_linear (v ∷ vars) (suc i) s h e = get_linear vars i s (and_parts (is_linear_sort v) (list_all is_linear_sort vars) h).1 e

pub broken-int : (vars : List Sort) (path : List Fact) (point : List Fraction) (i : ℕ) (k : ℤ) → list_all is_linear_sort vars ≡ true → IsPointOf vars path point → IsFirstBroken point i k → IsLowest (at point i) → IsOf sorts.Int vars i
unfolding numbers
broken-int vars path point i k h a b l = by (slice_get vars i) refl
  where
    by : (o : Option Sort) → slice_get vars i ≡ o → slice_get vars i ≡ Some sorts.Int
    by None e = absurd (omega (arith, get_none vars i e, a.len, b.within))
    by (Some sorts.Int) e = e
    by (Some sorts.Bool) e = absurd (b.broken (zero_whole (at point i) l (a.truths i e)))
    by (Some (sorts.Bits w)) e = let no : is_linear_sort (sorts.Bits w) ≡ true = get_linear vars i (sorts.Bits w) h e in absurd cc

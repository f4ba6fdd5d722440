-- Kept terms in a row, the rows that say where they are true, and kept terms that stand for parts.
use Rattle.std.specs.Prelude.{ℕ, zero, suc, ◌+◌, ◌<◌, ◌≤◌, ◌≡◌, ◌⊎◌, false, List, [], ◌∷◌, ◌++◌, map, slice_get, slice_index_or, Some, refl}
use Rattle.std.proofs.Common.{arith, ap, sym, ◌∙◌, subst, ⊎_elim, inl, inr}
use Rattle.sy_terms.specs.Values.{Val, truth}
use Rattle.sy_terms.specs.Expr.{Expr}
use Rattle.sy_terms.specs.Meaning.{Function, meaning, value_at_position}
use Rattle.sy_grammar_base.specs.Trees.{Syntax, Tree}
use Rattle.sy_unify.specs.Rows.{holds_at}
use Rattle.sy_bank_level.specs.Rows.{IsRow}
use Rattle.sy_bank_level.specs.Banks.{Entry, Merged, IsKept, IsHonestBank, kept_at}
use Rattle.sy_bank_level.specs.Covering.{Covers}
use Rattle.sy_loop_spec.specs.Conditional.{IsPart}
use Rattle.sy_loop_spec.specs.Trees.{kept_below, truths}
use Rattle.sy_loop_spec.specs.Goods.{EntriesHaveRows}

-- what stands in two lists in a row
get_left : {X : Type 0} (xs ys : List X) (k : ℕ) (x : X) → slice_get xs k ≡ Some x → slice_get (xs ++ ys) k ≡ Some x
get_left [] ys k x at = absurd (cc)
get_left (first ∷ xs) ys zero x at = at
get_left (first ∷ xs) ys (suc k) x at = get_left xs ys k x at

get_right : {X : Type 0} (xs ys : List X) (k : ℕ) (x : X) → slice_get ys k ≡ Some x → (j : ℕ) × (slice_get (xs ++ ys) j ≡ Some x)
get_right [] ys k x at = (k, at)
get_right (first ∷ xs) ys k x at = let below = get_right xs ys k x at in (suc below.0, below.1)

get_either : {X : Type 0} (xs ys : List X) (k : ℕ) (x : X) → slice_get (xs ++ ys) k ≡ Some x → (slice_get xs k ≡ Some x) ⊎ ((j : ℕ) × (slice_get ys j ≡ Some x))
get_either [] ys k x at = inr (k, at)
get_either (first ∷ xs) ys zero x at = inl at
get_either (first ∷ xs) ys (suc k) x at = get_either xs ys k x at

less_or_same : (m k : ℕ) → m ≤ k → (m < k) ⊎ (m ≡ k)
less_or_same zero zero le = inr refl
less_or_same zero (suc k) le = inl (omega arith)
less_or_same (suc m) zero le = absurd (omega (arith, le))
less_or_same (suc m) (suc k) le = ⊎_elim (λ (less : m < k). inl (omega (arith, less))) (λ (same : m ≡ k). inr (ap suc same)) (less_or_same m k (omega (arith, le)))

-- what is kept at a size less than n is among what is kept below n
kept_there : {X : Type 0} (levels : List (List (List X))) (nonterminal size place : ℕ) (entry : X) (n : ℕ) → size < n → slice_get (kept_at levels nonterminal size) place ≡ Some entry →
    (k : ℕ) × (slice_get (kept_below levels nonterminal n) k ≡ Some entry)
kept_there levels nonterminal size place entry zero less at = absurd (omega (arith, less))
kept_there levels nonterminal size place entry (suc n) less at =
    let rows = kept_below levels nonterminal n in
    elim (less_or_same size n (omega (arith, less))) [
      | inl under ↦
          let found = kept_there levels nonterminal size place entry n under at in
          (found.0, get_left rows (kept_at levels nonterminal n) found.0 entry found.1)
      | inr same ↦
          get_right rows (kept_at levels nonterminal n) place entry (subst (λ s. slice_get (kept_at levels nonterminal s) place ≡ Some entry) same at)
    ]

-- and what is among it is kept at such a size
record IsKeptBelow (levels : List (List (List Entry))) (nonterminal n : ℕ) (entry : Entry) : Type 0 where
  pub size : ℕ
  pub less : size < n
  pub place : ℕ
  pub at : slice_get (kept_at levels nonterminal size) place ≡ Some entry

kept_only : (levels : List (List (List Entry))) (nonterminal n k : ℕ) (entry : Entry) → slice_get (kept_below levels nonterminal n) k ≡ Some entry → IsKeptBelow levels nonterminal n entry
kept_only levels nonterminal zero k entry at = absurd (cc)
kept_only levels nonterminal (suc n) k entry at =
    elim (get_either (kept_below levels nonterminal n) (kept_at levels nonterminal n) k entry at) [
      | inl earlier ↦
          let is = kept_only levels nonterminal n k entry earlier in
          let under = is.less in
          record { size = is.size; less = omega (arith, under); place = is.place; at = is.at }
      | inr here ↦ record { size = n; less = omega arith; place = here.0; at = here.1 }
    ]

-- so each is a part of its nonterminal
pub kept_is_part : (syntax : Syntax) (defined : List Function) (pool : List Val) (bank : Merged) → IsHonestBank syntax defined pool bank → (nonterminal n k : ℕ) (entry : Entry) →
    slice_get (kept_below bank.levels nonterminal (n + 1)) k ≡ Some entry → IsPart syntax pool nonterminal n entry.tree entry.term
kept_is_part syntax defined pool bank honest nonterminal n k entry at =
    let kept = kept_only bank.levels nonterminal (n + 1) k entry at in
    let sound = honest.each nonterminal kept.size kept.place entry kept.at in
    let sized = sound.1.sized in
    let is = sound.0 in
    let under = kept.less in
    record { derives = sound.1.derives; small = omega (arith, sized, is, under) }

-- and has its row
pub kept_have_rows : (syntax : Syntax) (defined : List Function) (pool : List Val) (bank : Merged) → IsHonestBank syntax defined pool bank → (nonterminal n : ℕ) → EntriesHaveRows defined bank.points (kept_below bank.levels nonterminal n)
kept_have_rows syntax defined pool bank honest nonterminal n place entry at =
    let kept = kept_only bank.levels nonterminal n place entry at in
    (honest.each nonterminal kept.size kept.place entry kept.at).1.row

-- an item through a map
mapped_item : {A B : Type 0} (f : A → B) (xs : List A) (k : ℕ) (x : A) (d : B) → slice_get xs k ≡ Some x → slice_index_or (map f xs) k d ≡ f x
mapped_item f [] k x d at = absurd (cc)
mapped_item f (first ∷ xs) zero x d at = let same : first ≡ x = cc in ap f same
mapped_item f (first ∷ xs) (suc k) x d at = mapped_item f xs k x d at

-- what a row of values says at a point
truth_there : (row : List Val) (x : ℕ) → slice_index_or (map truth row) x false ≡ truth (value_at_position row x)
truth_there [] zero = refl
truth_there [] (suc x) = refl
truth_there (value ∷ row) zero = refl
truth_there (value ∷ row) (suc x) = truth_there row x

pub truths_say : (kept : List Entry) (k x : ℕ) (entry : Entry) → slice_get kept k ≡ Some entry → holds_at (truths kept) k x ≡ truth (value_at_position entry.row x)
truths_say kept k x entry at = ap (λ row. slice_index_or row x false) (mapped_item (λ (e : Entry). map truth e.row) kept k entry [] at) ∙ truth_there entry.row x

-- a term's row has its values
value_mapped : {A : Type 0} (f : A → Val) (xs : List A) (k : ℕ) (x : A) → slice_get xs k ≡ Some x → value_at_position (map f xs) k ≡ f x
value_mapped f [] k x at = absurd (cc)
value_mapped f (first ∷ xs) zero x at = let same : first ≡ x = cc in ap f same
value_mapped f (first ∷ xs) (suc k) x at = value_mapped f xs k x at

pub row_says : (defined : List Function) (points : List (List Val)) (term : Expr) (row : List Val) (x : ℕ) (point : List Val) → IsRow defined points term row → slice_get points x ≡ Some point →
    value_at_position row x ≡ meaning defined [] point term
row_says defined points term row x point is at = ap (λ values. value_at_position values x) is.is ∙ value_mapped (λ p. meaning defined [] p term) points x point at

-- a kept term that stands for a part: it has the part's row, and its place among what is kept up to n
pub record IsTwin (defined : List Function) (points : List (List Val)) (levels : List (List (List Entry))) (nonterminal n : ℕ) (term : Expr) : Type 0 where
  pub entry : Entry
  pub kept : IsKept levels nonterminal entry
  pub small : entry.size ≤ n
  pub row : IsRow defined points term entry.row
  pub own : IsRow defined points entry.term entry.row
  pub place : ℕ
  pub at : slice_get (kept_below levels nonterminal (n + 1)) place ≡ Some entry

pub twin : (syntax : Syntax) (defined : List Function) (pool : List Val) (bank : Merged) (n : ℕ) → n ≤ bank.upto → IsHonestBank syntax defined pool bank → Covers syntax defined pool bank →
    (nonterminal : ℕ) (tree : Tree) (term : Expr) → IsPart syntax pool nonterminal n tree term → IsTwin defined bank.points bank.levels nonterminal n term
twin syntax defined pool bank n up honest covers nonterminal tree term part =
    let little = part.small in
    let found = covers nonterminal tree term part.derives (omega (arith, little, up)) in
    let sound = honest.each nonterminal found.kept.size found.kept.place found.entry found.kept.at in
    let small = found.small in
    let sized = sound.0 in
    let place = kept_there bank.levels nonterminal found.kept.size found.kept.place found.entry (n + 1) (omega (arith, little, small, sized)) found.kept.at in
    record {
      entry = found.entry;
      kept = found.kept;
      small = omega (arith, little, small);
      row = found.row;
      own = sound.1.row;
      place = place.0;
      at = place.1;
    }

-- at each point it has the part's value
pub twin_means : (defined : List Function) (points : List (List Val)) (levels : List (List (List Entry))) (nonterminal n : ℕ) (term : Expr) → (is : IsTwin defined points levels nonterminal n term) →
    (x : ℕ) (point : List Val) → slice_get points x ≡ Some point → meaning defined [] point is.entry.term ≡ meaning defined [] point term
twin_means defined points levels nonterminal n term is x point at =
    sym (row_says defined points is.entry.term is.entry.row x point is.own at) ∙ row_says defined points term is.entry.row x point is.row at

-- and its row of truths says where the part is true
pub twin_says : (defined : List Function) (points : List (List Val)) (levels : List (List (List Entry))) (nonterminal n : ℕ) (term : Expr) → (is : IsTwin defined points levels nonterminal n term) →
    (x : ℕ) (point : List Val) → slice_get points x ≡ Some point → truth (meaning defined [] point term) ≡ holds_at (truths (kept_below levels nonterminal (n + 1))) is.place x
twin_says defined points levels nonterminal n term is x point at =
    ap truth (sym (row_says defined points term is.entry.row x point is.row at)) ∙ sym (truths_say (kept_below levels nonterminal (n + 1)) is.place x is.entry is.at)

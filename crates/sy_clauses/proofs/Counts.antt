-- Counts of the lines that are left.
use Rattle.std.proofs.Common.{◌≡◌, ℕ, zero, suc, ◌+◌, ◌-◌, ◌<◌, ◌≤◌, ◌⊎◌, inl, inr, ⊎_elim, min, Bool, true, false, if◌then◌else◌, List, [], ◌∷◌, ◌++◌, refl, arith, ap, sym, ◌∙◌, length}
use Rattle.std.specs.Prelude.{slice_index_or}
use Rattle.sy_clauses.specs.declared.numbering.Numbering.{Numbering}
use Rattle.sy_clauses.specs.Needed.{needs}
use Rattle.sy_clauses.specs.Numbers.{count_left, new_number, number_in, CountsLeft}

pub count_yes : (left : ℕ → Bool) (n : ℕ) → left n ≡ true →
    count_left left (n + 1) ≡ count_left left n + 1
count_yes left n h =
    let e : count_left left (suc n) ≡ count_left left n + 1 =
    ap (λ (b : Bool). count_left left n + (if b then 1 else 0)) h in
    let s : n + 1 ≡ suc n = omega arith in
    ap (count_left left) s ∙ e

pub count_no : (left : ℕ → Bool) (n : ℕ) → left n ≡ false → count_left left (n + 1) ≡ count_left left n
count_no left n h =
    let e : count_left left (suc n) ≡ count_left left n + 0 =
    ap (λ (b : Bool). count_left left n + (if b then 1 else 0)) h in
    let s : n + 1 ≡ suc n = omega arith in
    let z : count_left left n + 0 ≡ count_left left n = omega arith in
    ap (count_left left) s ∙ e ∙ z

pub bool_cases : (b : Bool) → (b ≡ true) ⊎ (b ≡ false)
bool_cases true = inl refl
bool_cases false = inr refl

count_step : (left : ℕ → Bool) (n : ℕ) → (count_left left n ≤ count_left left (n + 1)) ×
    (count_left left (n + 1) ≤ count_left left n + 1)
count_step left n = ⊎_elim
    (λ (h : left n ≡ true). let e = count_yes left n h in (omega (arith, e), omega (arith, e)))
    (λ (h : left n ≡ false). let e = count_no left n h in (omega (arith, e), omega (arith, e)))
    (bool_cases (left n))

pub count_small : (left : ℕ → Bool) (n : ℕ) → count_left left n ≤ n
count_small left zero = omega arith
count_small left (suc n) =
    let s : n + 1 ≡ suc n = omega arith in
    let e : count_left left (n + 1) ≡ count_left left (suc n) = ap (count_left left) s in
    omega (arith, count_small left n, (count_step left n).1, e)

-- the count grows
pub count_grows : (left : ℕ → Bool) (m k : ℕ) → count_left left m ≤ count_left left (m + k)
count_grows left m zero = let e : m + 0 ≡ m = omega arith in rw e (omega arith)
count_grows left m (suc k) =
    let s : m + suc k ≡ (m + k) + 1 = omega arith in
    let e = ap (count_left left) s in
    omega (arith, e, count_grows left m k, (count_step left (m + k)).0)

-- behind the list none is marked
past_false : (needed : List Bool) (n : ℕ) → length needed ≤ n → needs needed n ≡ false
past_false [] n h = refl
past_false (b ∷ bs) zero h = absurd (omega arith)
past_false (b ∷ bs) (suc n) h = past_false bs n (omega arith)

count_past : (needed : List Bool) (k : ℕ) →
    count_left (needs needed) (length needed + k) ≡ count_left (needs needed) (length needed)
count_past needed zero = let e : length needed + 0 ≡ length needed = omega arith in ap (count_left (needs needed)) e
count_past needed (suc k) =
    let s : length needed + suc k ≡ (length needed + k) + 1 = omega arith in
    ap (count_left (needs needed)) s
    ∙ count_no (needs needed) (length needed + k) (past_false needed (length needed + k) (omega arith))
    ∙ count_past needed k

index_past : (xs : List ℕ) (n d : ℕ) → length xs ≤ n → slice_index_or xs n d ≡ d
index_past [] n d h = refl
index_past (x ∷ xs) zero d h = absurd (omega arith)
index_past (x ∷ xs) (suc n) d h = index_past xs n d (omega arith)

index_first : (xs : List ℕ) (x n d : ℕ) → n < length xs →
    slice_index_or (xs ++ x ∷ []) n d ≡ slice_index_or xs n d
index_first [] x n d h = absurd (omega arith)
index_first (y ∷ ys) x zero d h = refl
index_first (y ∷ ys) x (suc n) d h = index_first ys x n d (omega arith)

index_last : (xs : List ℕ) (x d : ℕ) → slice_index_or (xs ++ x ∷ []) (length xs) d ≡ x
index_last [] x d = refl
index_last (y ∷ ys) x d = index_last ys x d

pub below_or : (n m : ℕ) → n < m + 1 → (n < m) ⊎ (n ≡ m)
below_or zero zero h = inr refl
below_or zero (suc m) h = inl (omega arith)
below_or (suc n) zero h = absurd (omega arith)
below_or (suc n) (suc m) h =
    ⊎_elim (λ (l : n < m). inl (omega (arith, l))) (λ (e : n ≡ m). inr (ap suc e)) (below_or n m (omega arith))

-- one count more in the table
pub counts_more : (left : ℕ → Bool) (xs ys : List ℕ) (i all : ℕ) → length xs ≡ i →
    all ≡ count_left left i → ys ≡ xs ++ all ∷ [] →
    ((place d : ℕ) → place < i → slice_index_or xs place d ≡ count_left left place) →
    (place d : ℕ) → place < i + 1 → slice_index_or ys place d ≡ count_left left place
counts_more left xs ys i all long is more known place d h =
    ap (λ (zs : List ℕ). slice_index_or zs place d) more
    ∙ ⊎_elim
    (λ (l : place < i). index_first xs all place d (omega (arith, l, long)) ∙ known place d l)
    (λ (e : place ≡ i). let at : place ≡ length xs = omega (arith, e, long) in
    ap (λ (n : ℕ). slice_index_or (xs ++ all ∷ []) n d) at ∙ index_last xs all d ∙ is
    ∙ ap (count_left left) (sym e))
    (below_or place i h)

pub below_cases : (n m : ℕ) → (n < m) ⊎ (m ≤ n)
below_cases n zero = inr (omega arith)
below_cases zero (suc m) = inl (omega arith)
below_cases (suc n) (suc m) =
    ⊎_elim (λ (l : n < m). inl (omega (arith, l))) (λ (w : m ≤ n). inr (omega (arith, w))) (below_cases n m)

-- all counts are in the table
pub counts_all : (formula : ℕ) (needed : List Bool) (table : Numbering) → table.formula ≡ formula →
    length table.before.items ≡ length needed →
    table.all ≡ count_left (needs needed) (length needed) →
    ((place d : ℕ) → place < length needed →
    slice_index_or table.before.items place d ≡ count_left (needs needed) place) →
    CountsLeft formula (needs needed) table
counts_all formula needed table same long all known = record {
  formula_is = same;
  counts = λ place. ⊎_elim
      (λ (l : place < length needed). known place table.all l)
      (λ (w : length needed ≤ place).
      let e : place ≡ length needed + (place - length needed) = omega (arith, w) in
      index_past table.before.items place table.all (omega (arith, long, w)) ∙ all
      ∙ sym (ap (count_left (needs needed)) e ∙ count_past needed (place - length needed)))
      (below_cases place (length needed));
}

-- the table's number
pub table_number : (formula : ℕ) (left : ℕ → Bool) (table : Numbering) → CountsLeft formula left table →
    (n : ℕ) → number_in table n ≡ new_number formula left n
table_number formula left table c n =
    ap (λ (f : ℕ). min n f + slice_index_or table.before.items (n - f) table.all) c.formula_is
    ∙ ap (λ (k : ℕ). min n formula + k) (c.counts (n - formula))

pub table_small : (formula : ℕ) (left : ℕ → Bool) (table : Numbering) → CountsLeft formula left table →
    (place : ℕ) → slice_index_or table.before.items place table.all ≤ place
table_small formula left table c place = rw (c.counts place) (count_small left place)

-- the new number of a line
pub line_number : (formula : ℕ) (left : ℕ → Bool) (number : ℕ → ℕ) →
    ((n : ℕ) → number n ≡ new_number formula left n) →
    (place : ℕ) → number (formula + place) ≡ formula + count_left left place
line_number formula left number is place =
    let at : formula + place - formula ≡ place = omega arith in
    let first : min (formula + place) formula ≡ formula = omega arith in
    is (formula + place) ∙ ap (λ (k : ℕ). min (formula + place) formula + count_left left k) at
    ∙ ap (λ (k : ℕ). k + count_left left place) first

-- a clause of the formula keeps its number
pub formula_number : (formula : ℕ) (left : ℕ → Bool) (number : ℕ → ℕ) →
    ((n : ℕ) → number n ≡ new_number formula left n) →
    (n : ℕ) → n < formula → number n ≡ n
formula_number formula left number is n h =
    let at : n - formula ≡ 0 = omega (arith, h) in
    let first : min n formula + 0 ≡ n = omega (arith, h) in
    is n ∙ ap (λ (k : ℕ). min n formula + count_left left k) at ∙ first

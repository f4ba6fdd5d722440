-- Values of lists of terms with one more, and what stands at one point over rows.
use Rattle.std.proofs.Common.{◌≡◌, ℕ, zero, suc, ◌+◌, ◌<◌, List, [], ◌∷◌, ◌++◌, length, refl, ap, sym, ◌∙◌, Some, slice_get, map, arith, get_or, true, take, ◌⊎◌, inl, inr, subst}
use Rattle.std.specs.Option.{option_map}
use Rattle.std.proofs.lemmas.List.{take_more}
use Rattle.std.proofs.lemmas.Option.{slice_get-get_or, slice_get-map}
use Rattle.std.proofs.lemmas.List.Elements.{All-push}
use Rattle.std.proofs.lemmas.List.{length-map}
use Rattle.sy_terms.specs.Values.{Val}
use Rattle.sy_terms.specs.Expr as expr
use Rattle.sy_terms.specs.Expr.{Expr, Exprs, append}
use Rattle.sy_terms.specs.Operators.{op_value}
use Rattle.sy_terms.specs.Denoted.{val_of, vals_of}
use Rattle.sy_terms.specs.Theories.{sort_of_value, valid, fits}
use Rattle.sy_terms.specs.Fitting.{Scope, sort_in, sorts_in}
use Rattle.sy_terms.specs.Meaning.{Function, meaning, meanings, computable, all_computable, value_at_position}
use Rattle.sy_terms.specs.declared.op.Op.{Op}
use Rattle.sy_terms.specs.declared.sort.Sort.{Sort}
use Rattle.sy_terms.specs.declared.sort.Value.{Value}
use Rattle.sy_terms_operators.specs.Evaluation.{HasValue, HaveValues}
use Rattle.sy_terms_operators.proofs.Equations.{with_sort_Some, both_true}
use Rattle.sy_terms_operators.proofs.Steps.{map-both}
use Rattle.sy_bank_level.specs.Columns.{column, constants, AreSized, HasRow, HaveRows}
use Rattle.sy_bank_columns.specs.Found.{IsColumnOf}

sorts-last : (scope : Scope) (ss : List Sort) (terms : Exprs) (last : Expr) (found : List Sort) (s : Sort) → sorts_in scope ss terms ≡ Some found → sort_in scope ss last ≡ Some s → sorts_in scope ss (append terms (expr.more last expr.none)) ≡ Some (found ++ s ∷ [])
unfolding sorts_in
sorts-last scope ss expr.none last found s e h =
    let none_found : [] ≡ found = cc in
    rw (h, ← none_found) refl
sorts-last scope ss (expr.more t terms) last found s e h =
    let parts = with_sort_Some (sort_in scope ss t) (sorts_in scope ss terms) found e in
    rw (parts.first_is, sorts-last scope ss terms last parts.sorts s parts.rest_is h) (ap (λ (all : List Sort). Some (all ++ s ∷ [])) parts.whole_is)

computable-last : (defined : List Function) (values : List Val) (terms : Exprs) (last : Expr) → all_computable defined [] values terms ≡ true → computable defined [] values last ≡ true → all_computable defined [] values (append terms (expr.more last expr.none)) ≡ true
unfolding all_computable
computable-last defined values expr.none last e h = rw h refl
computable-last defined values (expr.more t terms) last e h =
    let both = both_true (computable defined [] values t) (all_computable defined [] values terms) e in
    rw (both.0) (computable-last defined values terms last both.1 h)

meanings-last : (defined : List Function) (values : List Val) (terms : Exprs) (last : Expr) → meanings defined [] values (append terms (expr.more last expr.none)) ≡ meanings defined [] values terms ++ meaning defined [] values last ∷ []
unfolding meanings
meanings-last defined values expr.none last = refl
meanings-last defined values (expr.more t terms) last = ap (λ (rest : List Val). meaning defined [] values t ∷ rest) (meanings-last defined values terms last)

map-last : (xs : List Val) (x : Val) → map sort_of_value (xs ++ x ∷ []) ≡ map sort_of_value xs ++ sort_of_value x ∷ []
map-last [] x = refl
map-last (y ∷ xs) x = ap (λ (rest : List Sort). sort_of_value y ∷ rest) (map-last xs x)

pub have-last : (scope : Scope) (defined : List Function) (values : List Val) (terms : Exprs) (last : Expr) (found : List Val) (value : Val) →
    HaveValues scope defined [] values terms found → HasValue scope defined [] values last value → HaveValues scope defined [] values (append terms (expr.more last expr.none)) (found ++ value ∷ [])
have-last scope defined values terms last found value have has = record {
  valid = All-push (λ v. valid v ≡ true) found value have.valid has.valid;
  sorts = sorts-last scope (map sort_of_value values) terms last (map sort_of_value found) (sort_of_value value) have.sorts has.sort ∙ ap Some (sym (map-last found value));
  computable = computable-last defined values terms last have.computable has.computable;
  meanings = ap (λ (rest : List Val). rest ++ value ∷ []) have.meanings ∙ ap (λ (v : Val). meanings defined [] values terms ++ v ∷ []) has.meaning ∙ sym (meanings-last defined values terms last);
}

pub column-last : (rows : List (List Val)) (row : List Val) (k : ℕ) → column (rows ++ row ∷ []) k ≡ column rows k ++ value_at_position row k ∷ []
column-last [] row k = refl
column-last (first ∷ rows) row k = ap (λ (rest : List Val). value_at_position first k ∷ rest) (column-last rows row k)

pub sized-last : (count : ℕ) (rows : List (List Val)) (row : List Val) → AreSized count rows → length row ≡ count → AreSized count (rows ++ row ∷ [])
sized-last count [] row sized is zero other at = let same : row ≡ other = cc in ap length (sym same) ∙ is
sized-last count [] row sized is (suc i) other at = absurd cc
sized-last count (first ∷ rows) row sized is zero other at = sized zero other at
sized-last count (first ∷ rows) row sized is (suc i) other at = sized-last count rows row (λ j r h. sized (suc j) r h) is i other at

-- rows of terms, with one more
pub rows-last : (scope : Scope) (defined : List Function) (points : List (List Val)) (terms : Exprs) (last : Expr) (rows : List (List Val)) (row : List Val) →
    HaveRows scope defined points terms rows → HasRow scope defined points last row → HaveRows scope defined points (append terms (expr.more last expr.none)) (rows ++ row ∷ [])
rows-last scope defined points terms last rows row have has = record {
  sized = sized-last (length points) rows row have.sized has.sized;
  each = λ k point at. rw (column-last rows row k) (have-last scope defined point terms last (column rows k) (value_at_position row k) (have.each k point at) (has.each k point at));
}

-- the value of a place
pub at-number : {N : Type 0} (number : N → Val) (row : List (Value N)) (k : ℕ) (v : Value N) → k < length row → v ≡ get_or row k v → value_at_position (vals_of number row) k ≡ val_of number v
at-number number [] k v within is = absurd (omega arith)
at-number number (first ∷ row) zero v within is = ap (val_of number) (sym is)
at-number number (first ∷ row) (suc k) v within is = at-number number row k v (omega arith) is

-- rows by what they are kept as, with one row more
mapped-last : {X Y : Type 0} (f : X → Y) (xs : List X) (x : X) → map f (xs ++ x ∷ []) ≡ map f xs ++ f x ∷ []
mapped-last f [] x = refl
mapped-last f (y ∷ xs) x = ap (λ rest. f y ∷ rest) (mapped-last f xs x)

pub column-next : {X : Type 0} (f : X → List Val) (rows : List X) (i : ℕ) (row : X) (k : ℕ) → i < length rows → row ≡ get_or rows i row →
    column (map f (take (i + 1) rows)) k ≡ column (map f (take i rows)) k ++ value_at_position (f row) k ∷ []
column-next f rows i row k within is = rw (take_more rows i row within, ← is, mapped-last f (take i rows) row, column-last (map f (take i rows)) (f row) k) refl

pub sized-item : {X : Type 0} (f : X → List Val) (rows : List X) (i : ℕ) (row : X) (count : ℕ) → AreSized count (map f rows) → i < length rows → row ≡ get_or rows i row → length (f row) ≡ count
sized-item f rows i row count sized within is =
    let at = slice_get-get_or rows i row within ∙ ap Some (sym is) in
    sized i (f row) (slice_get-map f rows i ∙ ap (option_map f) at)

-- a value more for an operator's row, and for any row
pub value-last : (row : List Val) (v : Val) → value_at_position (row ++ v ∷ []) (length row) ≡ v
value-last [] v = refl
value-last (first ∷ row) v = value-last row v

pub value-before : (row : List Val) (v : Val) (k : ℕ) → k < length row → value_at_position (row ++ v ∷ []) k ≡ value_at_position row k
value-before [] v k within = absurd (omega arith)
value-before (first ∷ row) v zero within = refl
value-before (first ∷ row) v (suc k) within = value-before row v k (omega arith)

pub length-last : (row : List Val) (v : Val) → length (row ++ v ∷ []) ≡ length row + 1
length-last [] v = refl
length-last (first ∷ row) v = omega (arith, length-last row v)

below_or : (j k : ℕ) → j < k + 1 → (j < k) ⊎ (j ≡ k)
below_or zero zero within = inr refl
below_or zero (suc k) within = inl (omega arith)
below_or (suc j) zero within = absurd (omega arith)
below_or (suc j) (suc k) within = elim (below_or j k (omega arith)) [ inl before ↦ inl (omega arith) | inr same ↦ inr (ap suc same) ]

pub applied-next : (operator : Op) (rows : List (List Val)) (k : ℕ) (row : List Val) (v : Val) → IsColumnOf operator rows k row →
    (valid v ≡ true) × (fits operator (column rows k) ≡ true) × (v ≡ op_value operator (column rows k)) → IsColumnOf operator rows (k + 1) (row ++ v ∷ [])
applied-next operator rows k row v found is = record {
  sized = length-last row v ∙ ap (λ n. n + 1) found.sized;
  each = λ j within. elim (below_or j k within) [
    | inl before ↦ let same = value-before row v j (omega (arith, found.sized)) in rw same (found.each j before)
    | inr last ↦ let same : value_at_position (row ++ v ∷ []) k ≡ v = ap (value_at_position (row ++ v ∷ [])) (sym found.sized) ∙ value-last row v in rw (last, same) is
  ];
}

-- the values of a place over rows, with one row more
pub fill-next : {N X : Type 0} (number : N → Val) (f : X → List (Value N)) (rows : List X) (i : ℕ) (row : X) (k : ℕ) (values : List (Value N)) (v : Value N) → i < length rows → row ≡ get_or rows i row → k < length (f row) → v ≡ get_or (f row) k v →
    vals_of number values ≡ column (map (λ r. vals_of number (f r)) (take i rows)) k → vals_of number (values ++ v ∷ []) ≡ column (map (λ r. vals_of number (f r)) (take (i + 1) rows)) k
fill-next number f rows i row k values v within is below at e =
    rw (map-both number values (v ∷ []), e, column-next (λ r. vals_of number (f r)) rows i row k within is, at-number number (f row) k v below at) refl

-- the length of a row of rows of one length
pub row-length : {N X : Type 0} (number : N → Val) (f : X → List (Value N)) (rows : List X) (i : ℕ) (row : X) (count : ℕ) → AreSized count (map (λ r. vals_of number (f r)) rows) → i < length rows → row ≡ get_or rows i row → length (f row) ≡ count
row-length number f rows i row count sized within is = sym (length-map (f row) (val_of number)) ∙ sized-item (λ r. vals_of number (f r)) rows i row count sized within is

-- one argument more at constants
pub constants-last : (values : List Val) (v : Val) → constants (values ++ v ∷ []) ≡ append (constants values) (expr.more (expr.Constant v) expr.none)
constants-last [] v = refl
constants-last (first ∷ values) v = ap (expr.more (expr.Constant first)) (constants-last values v)

-- an argument's values at the points, with one point more
pub argument-next : {N : Type 0} (number : N → Val) (points : List (List (Value N))) (i : ℕ) (point : List (Value N)) (position : ℕ) (row slice : List (Value N)) (v : Value N) → i < length points → point ≡ get_or points i point → slice ≡ point →
    v ≡ get_or slice position v → ((k : ℕ) (p : List (Value N)) → slice_get points k ≡ Some p → position < length p) →
    vals_of number row ≡ map (λ p. value_at_position (vals_of number p) position) (take i points) → vals_of number (row ++ v ∷ []) ≡ map (λ p. value_at_position (vals_of number p) position) (take (i + 1) points)
argument-next number points i point position row slice v within is same at long e =
    let here = long i point (slice_get-get_or points i point within ∙ ap Some (sym is)) in
    let value = at-number number point position v here (at ∙ ap (λ xs. get_or xs position v) same) in
    rw (map-both number row (v ∷ []), e, take_more points i point within, ← is, mapped-last (λ p. value_at_position (vals_of number p) position) (take i points) point, value) refl

-- what holds of each value of a row, with one value more
pub values-next : (P : ℕ → Val → Type 0) (row : List Val) (v : Val) (n : ℕ) → length row ≡ n → ((k : ℕ) → k < n → P k (value_at_position row k)) → P n v → (k : ℕ) → k < n + 1 → P k (value_at_position (row ++ v ∷ []) k)
values-next P row v n sized each last k within = elim (below_or k n within) [
  | inl before ↦ subst (P k) (sym (value-before row v k (omega (arith, sized, before)))) (each k before)
  | inr same ↦ subst (λ (j : ℕ). P j (value_at_position (row ++ v ∷ []) j)) (sym same) (subst (P n) (sym (ap (value_at_position (row ++ v ∷ [])) (sym sized) ∙ value-last row v)) last)
]

-- the point of a number
pub point-of : {N : Type 0} (number : N → Val) (points : List (List (Value N))) (k : ℕ) (point : List (Value N)) → k < length points → point ≡ get_or points k point → slice_get (map (vals_of number) points) k ≡ Some (vals_of number point)
point-of number points k point within is = slice_get-map (vals_of number) points k ∙ ap (option_map (vals_of number)) (slice_get-get_or points k point within ∙ ap Some (sym is))

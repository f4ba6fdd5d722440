-- Lists of terms under operators whose arguments may stand in any order, and the sorts of what terms mean.
use Rattle.std.proofs.Common.{◌≡◌, ℕ, zero, suc, ◌≤◌, true, false, List, [], ◌∷◌, ◌++◌, length, slice_get, get_or, take, drop, map, Option, Some, None, arith, refl, ap, sym, subst, ◌∙◌}
use Rattle.std.specs.Prelude.{IfSome}
use Rattle.std.specs.Option.{option_map}
use Rattle.std.proofs.lemmas.List.{take-append-drop}
use Rattle.sy_terms.specs.Values.{Val}
use Rattle.sy_terms.specs.Operators.{op_value}
use Rattle.sy_terms.specs.Theories.{sort_of_value}
use Rattle.sy_terms.specs.Sorts.{sort_of}
use Rattle.sy_terms.specs.Expr.{Expr, Exprs, Constant, Variable, Apply}
use Rattle.sy_terms.specs.Denoted.{expr_of, exprs_of}
use Rattle.sy_terms.specs.Meaning.{meaning, meanings, value_at_position}
use Rattle.sy_terms.specs.declared.op.Op.{Op}
use Rattle.sy_terms.specs.declared.sort.Sort.{Sort}
use Rattle.sy_terms.specs.declared.sorts.Sorted.TheVariants.{Is}
use Rattle.sy_terms.specs.declared.term.Term.{Term}
use Rattle.sy_terms_operators.proofs.OperatorSorts.{op_value-sort}
use Rattle.sy_rewrite_orders.specs.Sums.{BeginWithSorts, IsSameOver}
use Rattle.sy_query_normal.specs.Unordered.{cancels, GiveTheSame, IsUnordered}
use Rattle.sy_query_normal.proofs.Lists.{moved, gone, kept_once, one_more, several_more, stands_for, is_given}

-- what lists of terms mean

pub both_lists : {T N : Type 0} (number : N → Val) (values : List Val) (xs ys : List (Term T N)) → meanings [] [] values (exprs_of number (xs ++ ys)) ≡ meanings [] [] values (exprs_of number xs) ++ meanings [] [] values (exprs_of number ys)
unfolding meanings
both_lists number values [] ys = refl
both_lists number values (x ∷ xs) ys = ap (λ (rest : List Val). meaning [] [] values (expr_of number x) ∷ rest) (both_lists number values xs ys)

pub last_one : {T N : Type 0} (number : N → Val) (values : List Val) (xs : List (Term T N)) (x : Term T N) → meanings [] [] values (exprs_of number (xs ++ x ∷ [])) ≡ meanings [] [] values (exprs_of number xs) ++ meaning [] [] values (expr_of number x) ∷ []
unfolding meanings
last_one number values xs x = both_lists number values xs (x ∷ [])

pub as_many : {T N : Type 0} (number : N → Val) (values : List Val) (xs : List (Term T N)) → length (meanings [] [] values (exprs_of number xs)) ≡ length xs
unfolding meanings
as_many number values [] = refl
as_many number values (x ∷ xs) = ap suc (as_many number values xs)

-- around the term at a place
around : {T N : Type 0} (number : N → Val) (values : List Val) (xs : List (Term T N)) (i : ℕ) (term : Expr) → option_map (expr_of number) (slice_get xs i) ≡ Some term →
    meanings [] [] values (exprs_of number xs) ≡ meanings [] [] values (exprs_of number (take i xs)) ++ meaning [] [] values term ∷ meanings [] [] values (exprs_of number (drop (suc i) xs))
unfolding meanings
around number values [] i term at = cc
around number values (x ∷ xs) zero term at =
    let is : expr_of number x ≡ term = cc in
    ap (λ (e : Expr). meaning [] [] values e ∷ meanings [] [] values (exprs_of number xs)) is
around number values (x ∷ xs) (suc i) term at = ap (λ (rest : List Val). meaning [] [] values (expr_of number x) ∷ rest) (around number values xs i term at)

module _ {T N : Type 0} (number : N → Val) (sort : Sort) (operator : Op) (law : IsUnordered sort operator) (values : List Val) where
  -- a term put among others
  pub put_in : (xs new : List (Term T N)) (i : ℕ) (copy : Term T N) (term : Expr) → new ≡ take i xs ++ copy ∷ drop i xs → expr_of number copy ≡ term →
      GiveTheSame sort operator (meanings [] [] values (exprs_of number new)) (meaning [] [] values term ∷ meanings [] [] values (exprs_of number xs))
  unfolding meanings
  put_in xs new i copy term is same =
      let before : List Val = meanings [] [] values (exprs_of number (take i xs)) in
      let after : List Val = meanings [] [] values (exprs_of number (drop i xs)) in
      let found : meanings [] [] values (exprs_of number new) ≡ before ++ meaning [] [] values term ∷ after =
      ap (λ (terms : List (Term T N)). meanings [] [] values (exprs_of number terms)) is ∙ both_lists number values (take i xs) (copy ∷ drop i xs) ∙ ap (λ (e : Expr). before ++ meaning [] [] values e ∷ after) same in
      let whole : before ++ after ≡ meanings [] [] values (exprs_of number xs) =
      sym (both_lists number values (take i xs) (drop i xs)) ∙ ap (λ (terms : List (Term T N)). meanings [] [] values (exprs_of number terms)) (take-append-drop i xs) in
      λ first fits.
      ap (λ (list : List Val). op_value operator (first ∷ list)) found ∙ moved sort operator law first (meaning [] [] values term) before after ∙ ap (λ (list : List Val). op_value operator (first ∷ meaning [] [] values term ∷ list)) whole

  -- a term taken out, where it cancels another one
  pub taken_out : (xs new : List (Term T N)) (i : ℕ) (term : Expr) → new ≡ take i xs ++ drop (suc i) xs → option_map (expr_of number) (slice_get xs i) ≡ Some term → cancels operator ≡ true → sort_of_value (meaning [] [] values term) ≡ sort →
      GiveTheSame sort operator (meanings [] [] values (exprs_of number new)) (meaning [] [] values term ∷ meanings [] [] values (exprs_of number xs))
  taken_out xs new i term is at cancel sorted =
      let before : List Val = meanings [] [] values (exprs_of number (take i xs)) in
      let after : List Val = meanings [] [] values (exprs_of number (drop (suc i) xs)) in
      let found : meanings [] [] values (exprs_of number new) ≡ before ++ after =
      ap (λ (terms : List (Term T N)). meanings [] [] values (exprs_of number terms)) is ∙ both_lists number values (take i xs) (drop (suc i) xs) in
      λ first fits.
      ap (λ (list : List Val). op_value operator (first ∷ list)) found ∙ gone sort operator law (meaning [] [] values term) before after cancel sorted first fits
      ∙ ap (λ (list : List Val). op_value operator (first ∷ meaning [] [] values term ∷ list)) (sym (around number values xs i term at))

  -- a term left out, where another one stands for both
  pub left_out : (xs : List (Term T N)) (i : ℕ) (term : Expr) → option_map (expr_of number) (slice_get xs i) ≡ Some term → cancels operator ≡ false → sort_of_value (meaning [] [] values term) ≡ sort →
      GiveTheSame sort operator (meanings [] [] values (exprs_of number xs)) (meaning [] [] values term ∷ meanings [] [] values (exprs_of number xs))
  left_out xs i term at stay sorted =
      let before : List Val = meanings [] [] values (exprs_of number (take i xs)) in
      let after : List Val = meanings [] [] values (exprs_of number (drop (suc i) xs)) in
      let split : meanings [] [] values (exprs_of number xs) ≡ before ++ meaning [] [] values term ∷ after = around number values xs i term at in
      λ first fits.
      ap (λ (list : List Val). op_value operator (first ∷ list)) split ∙ kept_once sort operator law (meaning [] [] values term) before after stay sorted first fits
      ∙ ap (λ (list : List Val). op_value operator (first ∷ meaning [] [] values term ∷ list)) (sym split)

  -- the operator at terms stands for them
  pub application_stands : (term : Expr) (arguments : Exprs) (xs : List (Term T N)) → term ≡ Apply operator arguments → exprs_of number xs ≡ arguments → 1 ≤ length xs →
      (first : Val) → op_value operator (first ∷ meanings [] [] values (exprs_of number xs)) ≡ op_value operator (first ∷ meaning [] [] values term ∷ [])
  unfolding meaning
  application_stands term arguments xs is same some first =
      let many : 1 ≤ length (meanings [] [] values (exprs_of number xs)) = omega (arith, some, as_many number values xs) in
      stands_for sort operator law (meanings [] [] values (exprs_of number xs)) many first
      ∙ ap (λ (list : Exprs). op_value operator (first ∷ op_value operator (meanings [] [] values list) ∷ [])) same
      ∙ ap (λ (e : Expr). op_value operator (first ∷ meaning [] [] values e ∷ [])) (sym is)

-- no terms, where a term stands for none
pub none_stand : {T N : Type 0} (number : N → Val) (sort : Sort) (operator : Op) (found : Option (Term T N)) (xs : List (Term T N)) → length xs ≡ 0 →
    IfSome found (λ term. (values : List Val) → GiveTheSame sort operator (meaning [] [] values (expr_of number term) ∷ []) []) →
    IfSome found (λ term. IsUnordered sort operator → (values : List Val) → GiveTheSame sort operator (meaning [] [] values (expr_of number term) ∷ []) (meanings [] [] values (exprs_of number xs)))
unfolding meanings
none_stand number sort operator None xs many has = has
none_stand number sort operator (Some term) [] many has = λ law values. has values
none_stand number sort operator (Some term) (x ∷ xs) many has = absurd (omega (arith, many))

-- one term stands for itself
pub alone_stands : {T N : Type 0} (number : N → Val) (operator : Op) (values : List Val) (first : Val) (xs : List (Term T N)) (x : Term T N) (term : Expr) → xs ≡ x ∷ [] → expr_of number x ≡ term →
    op_value operator (first ∷ meanings [] [] values (exprs_of number xs)) ≡ op_value operator (first ∷ meaning [] [] values term ∷ [])
unfolding meanings
alone_stands number operator values first xs x term are is =
    ap (λ list. op_value operator (first ∷ meanings [] [] values (exprs_of number list))) are ∙ ap (λ (e : Expr). op_value operator (first ∷ meaning [] [] values e ∷ [])) is

pub one_stands : {T N : Type 0} (number : N → Val) (values : List Val) (xs : List (Term T N)) (x : Term T N) (term : Expr) → length xs ≡ 1 → x ≡ get_or xs 0 x → term ≡ expr_of number x → meaning [] [] values term ∷ [] ≡ meanings [] [] values (exprs_of number xs)
unfolding meanings
one_stands number values [] x term many at is = absurd (omega (arith, many))
one_stands number values (y ∷ []) x term many at is = ap (λ (e : Expr). meaning [] [] values e ∷ []) (is ∙ ap (expr_of number) at)
one_stands number values (y ∷ z ∷ rest) x term many at is = absurd (omega (arith, many))

-- a term that stands for the arguments of the operator means what it gives
pub gathered_same : {T N : Type 0} (number : N → Val) (sorts : List Sort) (sort : Sort) (operator : Op) → IsUnordered sort operator → (term : Expr) (xs flat ordered : List (Term T N)) → 1 ≤ length xs →
    ((values : List Val) → BeginWithSorts sorts values → sort_of_value (meaning [] [] values term) ≡ sort) →
    ((values : List Val) → BeginWithSorts sorts values → sort_of_value (op_value operator (meanings [] [] values (exprs_of number xs))) ≡ sort) →
    ((values : List Val) → GiveTheSame sort operator (meaning [] [] values term ∷ []) (meanings [] [] values (exprs_of number ordered))) →
    ((values : List Val) → BeginWithSorts sorts values → GiveTheSame sort operator (meanings [] [] values (exprs_of number ordered)) (meanings [] [] values (exprs_of number flat))) →
    ((values : List Val) (first : Val) → op_value operator (first ∷ meanings [] [] values (exprs_of number flat)) ≡ op_value operator (first ∷ meanings [] [] values (exprs_of number xs))) →
    IsSameOver sorts term (Apply operator (exprs_of number xs))
unfolding meaning
gathered_same number sorts sort operator law term xs flat ordered some sorted also stands puts joins values are =
    let many : 1 ≤ length (meanings [] [] values (exprs_of number xs)) = omega (arith, some, as_many number values xs) in
    is_given sort operator law (meaning [] [] values term) (meanings [] [] values (exprs_of number xs)) many (sorted values are) (also values are)
    (λ first fits. stands values first fits ∙ puts values are first fits ∙ joins values first)

-- the sorts of what terms mean

pub sort_at : (sorts : List Sort) (values : List Val) (i : ℕ) (sort : Sort) → map sort_of_value values ≡ sorts → slice_get sorts i ≡ Some sort → sort_of_value (value_at_position values i) ≡ sort
sort_at sorts [] i sort same at = absurd (nothing_at sorts i sort same at)
  where
    nothing_at : (sorts : List Sort) (i : ℕ) (sort : Sort) → [] ≡ sorts → slice_get sorts i ≡ Some sort → ⊥
    nothing_at [] i sort same at = cc
    nothing_at (s ∷ sorts) i sort same at = cc
sort_at sorts (v ∷ values) zero sort same at =
    let first : slice_get (sort_of_value v ∷ map sort_of_value values) 0 ≡ Some sort = subst (λ ss. slice_get ss 0 ≡ Some sort) (sym same) at in
    cc
sort_at sorts (v ∷ values) (suc i) sort same at =
    sort_at (map sort_of_value values) values i sort refl (subst (λ ss. slice_get ss (suc i) ≡ Some sort) (sym same) at)

no_sort : (sorts : List Sort) (i : ℕ) (sort : Sort) → [] ≡ sorts → slice_get sorts i ≡ Some sort → ⊥
no_sort [] i sort same at = cc
no_sort (s ∷ sorts) i sort same at = cc

value_behind : (sorts : List Sort) (first rest : List Val) (i : ℕ) (sort : Sort) → map sort_of_value first ≡ sorts → slice_get sorts i ≡ Some sort → value_at_position (first ++ rest) i ≡ value_at_position first i
value_behind sorts [] rest i sort same at = absurd (no_sort sorts i sort same at)
value_behind sorts (v ∷ first) rest zero sort same at = refl
value_behind sorts (v ∷ first) rest (suc i) sort same at =
    value_behind (map sort_of_value first) first rest i sort refl (subst (λ ss. slice_get ss (suc i) ≡ Some sort) (sym same) at)

pub constant_sorted : (ss : List Sort) (sort : Sort) (term : Expr) (value : Val) → term ≡ Constant value → sort ≡ sort_of_value value → (values : List Val) → BeginWithSorts ss values → sort_of_value (meaning [] [] values term) ≡ sort
unfolding meaning
constant_sorted ss sort term value is same values are = ap (λ (e : Expr). sort_of_value (meaning [] [] values e)) is ∙ sym same

pub variable_sorted : (ss : List Sort) (found : Option Sort) (term : Expr) (position : ℕ) → term ≡ Variable position → found ≡ slice_get ss position → IfSome found (λ sort. (values : List Val) → BeginWithSorts ss values → sort_of_value (meaning [] [] values term) ≡ sort)
unfolding meaning
variable_sorted ss None term position is at = tt
variable_sorted ss (Some sort) term position is at = λ values are.
    let same : value_at_position values position ≡ value_at_position are.first position =
    ap (λ (vs : List Val). value_at_position vs position) are.is ∙ value_behind ss are.first are.rest position sort are.are.sorted (sym at) in
    ap (λ (e : Expr). sort_of_value (meaning [] [] values e)) is ∙ (ap sort_of_value same ∙ sort_at ss are.first position sort are.are.sorted (sym at))

pub application_sorted : (ss : List Sort) (found : Option Sort) (term : Expr) (operator : Op) (arguments : Exprs) → term ≡ Apply operator arguments →
    IfSome found (λ sort. (values : List Val) → BeginWithSorts ss values → sort_of_value (op_value operator (meanings [] [] values arguments)) ≡ sort) →
    IfSome found (λ sort. (values : List Val) → BeginWithSorts ss values → sort_of_value (meaning [] [] values term) ≡ sort)
unfolding meaning
application_sorted ss None term operator arguments is has = has
application_sorted ss (Some sort) term operator arguments is has = λ values are. ap (λ (e : Expr). sort_of_value (meaning [] [] values e)) is ∙ has values are

pub operator_sorted : (operator : Op) (sort : Sort) (sorts : List Sort) (values : List Val) → sort_of operator sorts ≡ Is sort → map sort_of_value values ≡ sorts → sort_of_value (op_value operator values) ≡ sort
operator_sorted operator sort sorts values is same = op_value-sort operator values sort (ap (sort_of operator) same ∙ is)

pub next_sorted : {T N : Type 0} (number : N → Val) (values : List Val) (xs : List (Term T N)) (x : Term T N) (found : List Sort) (sort : Sort) → map sort_of_value (meanings [] [] values (exprs_of number xs)) ≡ found → sort_of_value (meaning [] [] values (expr_of number x)) ≡ sort →
    map sort_of_value (meanings [] [] values (exprs_of number (xs ++ x ∷ []))) ≡ found ++ sort ∷ []
unfolding meanings
next_sorted number values [] x found sort same is = ap (λ (s : Sort). s ∷ []) is ∙ ap (λ (ss : List Sort). ss ++ sort ∷ []) same
next_sorted number values (y ∷ xs) x [] sort same is = cc
next_sorted number values (y ∷ xs) x (s ∷ found) sort same is =
    let first : sort_of_value (meaning [] [] values (expr_of number y)) ≡ s = cc in
    let rest : map sort_of_value (meanings [] [] values (exprs_of number xs)) ≡ found = cc in
    let all = next_sorted number values xs x found sort rest is in
    cc

-- lists with more

module _ {T N : Type 0} (number : N → Val) (sort : Sort) (operator : Op) (law : IsUnordered sort operator) (values : List Val) where
  pub flat_more : (parts next done : List (Term T N)) (term : Term T N) →
      ((first : Val) → op_value operator (first ∷ meanings [] [] values (exprs_of number parts)) ≡ op_value operator (first ∷ meanings [] [] values (exprs_of number done))) →
      ((first : Val) → op_value operator (first ∷ meanings [] [] values (exprs_of number next)) ≡ op_value operator (first ∷ meaning [] [] values (expr_of number term) ∷ [])) →
      (first : Val) → op_value operator (first ∷ meanings [] [] values (exprs_of number (parts ++ next))) ≡ op_value operator (first ∷ meanings [] [] values (exprs_of number (done ++ term ∷ [])))
  flat_more parts next done term same stands first =
      ap (λ (list : List Val). op_value operator (first ∷ list)) (both_lists number values parts next)
      ∙ several_more sort operator law (meaning [] [] values (expr_of number term)) (meanings [] [] values (exprs_of number parts)) (meanings [] [] values (exprs_of number done)) (meanings [] [] values (exprs_of number next)) same stands first
      ∙ ap (λ (list : List Val). op_value operator (first ∷ list)) (sym (last_one number values done term))

  pub ordered_more : (parts new done : List (Term T N)) (term : Term T N) → sort_of_value (meaning [] [] values (expr_of number term)) ≡ sort →
      GiveTheSame sort operator (meanings [] [] values (exprs_of number parts)) (meanings [] [] values (exprs_of number done)) →
      GiveTheSame sort operator (meanings [] [] values (exprs_of number new)) (meaning [] [] values (expr_of number term) ∷ meanings [] [] values (exprs_of number parts)) →
      GiveTheSame sort operator (meanings [] [] values (exprs_of number new)) (meanings [] [] values (exprs_of number (done ++ term ∷ [])))
  ordered_more parts new done term sorted same put = λ first fits.
      one_more sort operator law (meaning [] [] values (expr_of number term)) (meanings [] [] values (exprs_of number parts)) (meanings [] [] values (exprs_of number done)) (meanings [] [] values (exprs_of number new)) sorted same put first fits
      ∙ ap (λ (list : List Val). op_value operator (first ∷ list)) (sym (last_one number values done term))

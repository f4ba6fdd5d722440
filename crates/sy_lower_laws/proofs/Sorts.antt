-- Sorts of terms and of what they mean.
use Rattle.std.specs.Prelude.{ℕ, zero, suc, Bool, true, false, ◌&&◌, nat_le, List, [], ◌∷◌, ◌++◌, ◌≡◌, refl, length, map, slice_get, All, Option, Some, if◌then◌else◌}
use Rattle.std.specs.List.{list_all}
use Rattle.std.proofs.Common.{ap, ◌∙◌, sym, subst}
use Rattle.std.proofs.lemmas.List.Elements.{All-nil, All-cons, All-head, All-tail, All-append}
use Rattle.sy_terms.specs.Values.{Val, Truth, Whole, Bits, whole}
use Rattle.sy_terms.specs.Sorts.{sort_of, same_sort, each_is, all_alike, choice}
use Rattle.sy_terms.specs.Theories.{sort_of_value, valid}
use Rattle.sy_terms.specs.Expr.{Expr, Exprs, Constant, Variable, Apply, Invoke, Bind, none, more, append}
use Rattle.sy_terms.specs.Fitting.{Scope, sort_in, sorts_in, applied_sort, with_sort}
use Rattle.sy_terms.specs.Meaning.{meaning, meanings, value_at_position}
use Rattle.sy_terms.specs.declared.op.Op.{Op}
use Rattle.sy_terms.specs.declared.op.Op.TheVariants as ops
use Rattle.sy_terms.specs.declared.sort.Sort.{Sort}
use Rattle.sy_terms.specs.declared.sort.Sort.TheVariants as kinds
use Rattle.sy_terms.specs.declared.sorts.Sorted.TheVariants.{Is, Mismatch}
use Rattle.sy_terms.specs.declared.term.Fun.{Fun}
use Rattle.sy_terms.specs.declared.term.Fun.TheVariants.{Defined, Wanted}
use Rattle.sy_terms_operators.specs.Plain.{is_plain, are_plain}
use Rattle.sy_terms_operators.proofs.Equations.{both_true, if_Some, applied_sort_Some, after_Some, with_sort_Some}
use Rattle.sy_terms_operators.proofs.OperatorSorts.{op_value-sort}
use Rattle.sy_grammar_base.specs.Formed.{is_known}
use Rattle.sy_grammar_base.specs.Solving.{AreValues}
use Rattle.sy_query_base.specs.Weights.{query_scope}
use Rattle.sy_meaning_integers.specs.Lia.{owned, numeric}
use Rattle.sy_lower_laws.specs.Laws.{is_integral, has_integers, have_integers}

-- what terms over whole numbers may name
abbrev pub integers : Scope
integers = query_scope owned

-- a truth value or a whole number
abbrev pub IsKnown : Sort → Type 0
IsKnown sort = is_known numeric sort ≡ true

-- values

-- the values at the first positions have these sorts
pub record HaveSorts (sorts : List Sort) (values : List Val) : Type 0 where
  pub at : (i : ℕ) (sort : Sort) → slice_get sorts i ≡ Some sort → sort_of_value (value_at_position values i) ≡ sort

sorts_at : (values : List Val) (i : ℕ) (sort : Sort) → slice_get (map sort_of_value values) i ≡ Some sort → sort_of_value (value_at_position values i) ≡ sort
sorts_at [] i sort e = cc
sorts_at (v ∷ values) zero sort e = cc
sorts_at (v ∷ values) (suc i) sort e = sorts_at values i sort e

pub have_sorts : (sorts : List Sort) (values : List Val) → AreValues sorts values → HaveSorts sorts values
have_sorts sorts values are = record { at = λ i sort e. sorts_at values i sort (ap (λ (ss : List Sort). slice_get ss i) are.sorted ∙ e) }

pub longer_get : {X : Type 0} (xs ys : List X) (i : ℕ) (x : X) → slice_get xs i ≡ Some x → slice_get (xs ++ ys) i ≡ Some x
longer_get [] ys i x e = cc
longer_get (y ∷ xs) ys zero x e = e
longer_get (y ∷ xs) ys (suc i) x e = longer_get xs ys i x e

pub fewer_sorts : (sorts others : List Sort) (values : List Val) → HaveSorts (sorts ++ others) values → HaveSorts sorts values
fewer_sorts sorts others values have = record { at = λ i sort e. have.at i sort (longer_get sorts others i sort e) }

pub valid_known : (value : Val) (sort : Sort) → sort_of_value value ≡ sort → IsKnown sort → valid value ≡ true
valid_known (Truth b) sort e known = refl
valid_known (Whole z) sort e known = refl
valid_known (Bits w n) sort e known = absurd (never (ap (is_known numeric) e ∙ known))
  where
    never : false ≡ true → ⊥
    never h = cc

pub is_whole : (value : Val) → sort_of_value value ≡ kinds.Int → value ≡ Whole (whole value)
is_whole (Whole z) e = refl
is_whole (Truth b) e = cc
is_whole (Bits w n) e = cc

map_append : (values others : List Val) → map sort_of_value (values ++ others) ≡ map sort_of_value values ++ map sort_of_value others
map_append [] others = refl
map_append (v ∷ values) others = ap (λ (rest : List Sort). sort_of_value v ∷ rest) (map_append values others)

pub more_values : (sorts others : List Sort) (values later : List Val) → AreValues sorts values → AreValues others later → AreValues (sorts ++ others) (values ++ later)
more_values sorts others values later are also = record {
  sorted = map_append values later ∙ (ap (λ (ss : List Sort). ss ++ map sort_of_value later) are.sorted ∙ ap (λ (ss : List Sort). sorts ++ ss) also.sorted);
  valid = All-append (λ v. valid v ≡ true) values later are.valid also.valid;
}

pub one_sorted : (sort : Sort) (value : Val) → sort_of_value value ≡ sort → IsKnown sort → AreValues (sort ∷ []) (value ∷ [])
one_sorted sort value e known = record {
  sorted = ap (λ (s : Sort). s ∷ []) e;
  valid = All-cons (λ v. valid v ≡ true) value [] (valid_known value sort e known) (All-nil (λ v. valid v ≡ true));
}

-- what a plain term means has its sort

is_same : (s t : Sort) → Is s ≡ Is t → s ≡ t
is_same s t e = cc

some_same : {X : Type 0} (x y : X) → Some x ≡ Some y → x ≡ y
some_same x y e = cc

pub cons_both : {X : Type 0} (x y : X) (xs ys : List X) → x ≡ y → xs ≡ ys → x ∷ xs ≡ y ∷ ys
cons_both x y xs ys e f = cc

mutual
  unfolding meaning meanings is_plain are_plain sort_in sorts_in

  pub sort_means : (count : ℕ) (sorts : List Sort) (values : List Val) → HaveSorts sorts values → (term : Expr) → is_plain count term ≡ true → (sort : Sort) → sort_in integers sorts term ≡ Some sort →
      sort_of_value (meaning [] [] values term) ≡ sort
  sort_means count sorts values have (Constant value) plain sort e = (if_Some (valid value) (sort_of_value value) sort e).1
  sort_means count sorts values have (Variable position) plain sort e = have.at position sort e
  sort_means count sorts values have (Apply operator arguments) plain sort e =
      let parts = applied_sort_Some integers operator (sorts_in integers sorts arguments) sort e in
      let are = sorts_mean count sorts values have arguments plain parts.sorts parts.is in
      op_value-sort operator (meanings [] [] values arguments) sort (ap (sort_of operator) are ∙ parts.fits)
  sort_means count sorts values have (Invoke function arguments) plain sort e = cc
  sort_means count sorts values have (Bind bound inner) plain sort e = cc

  pub sorts_mean : (count : ℕ) (sorts : List Sort) (values : List Val) → HaveSorts sorts values → (terms : Exprs) → are_plain count terms ≡ true → (found : List Sort) → sorts_in integers sorts terms ≡ Some found →
      map sort_of_value (meanings [] [] values terms) ≡ found
  sorts_mean count sorts values have none plain found e = some_same [] found e
  sorts_mean count sorts values have (more term terms) plain found e =
      let both = both_true (is_plain count term) (are_plain count terms) plain in
      let parts = with_sort_Some (sort_in integers sorts term) (sorts_in integers sorts terms) found e in
      cons_both _ _ _ _ (sort_means count sorts values have term both.0 parts.sort parts.first_is) (sorts_mean count sorts values have terms both.1 parts.sorts parts.rest_is) ∙ parts.whole_is

pub with_both : (first : Option Sort) (rest : Option (List Sort)) (sort : Sort) (sorts : List Sort) → first ≡ Some sort → rest ≡ Some sorts → with_sort first rest ≡ Some (sort ∷ sorts)
with_both first rest sort sorts e f = ap (λ (o : Option Sort). with_sort o rest) e ∙ ap (with_sort (Some sort)) f

-- a plain term has its sort where further values are in force

mutual
  unfolding is_plain are_plain sort_in sorts_in

  pub sort_stays : (count : ℕ) (sorts others : List Sort) (term : Expr) → is_plain count term ≡ true → (sort : Sort) → sort_in integers sorts term ≡ Some sort → sort_in integers (sorts ++ others) term ≡ Some sort
  sort_stays count sorts others (Constant value) plain sort e = e
  sort_stays count sorts others (Variable position) plain sort e = longer_get sorts others position sort e
  sort_stays count sorts others (Apply operator arguments) plain sort e =
      let parts = applied_sort_Some integers operator (sorts_in integers sorts arguments) sort e in
      let are = sorts_stay count sorts others arguments plain parts.sorts parts.is in
      ap (applied_sort integers operator) (are ∙ sym parts.is) ∙ e
  sort_stays count sorts others (Invoke function arguments) plain sort e = cc
  sort_stays count sorts others (Bind bound inner) plain sort e = cc

  pub sorts_stay : (count : ℕ) (sorts others : List Sort) (terms : Exprs) → are_plain count terms ≡ true → (found : List Sort) → sorts_in integers sorts terms ≡ Some found → sorts_in integers (sorts ++ others) terms ≡ Some found
  sorts_stay count sorts others none plain found e = e
  sorts_stay count sorts others (more term terms) plain found e =
      let both = both_true (is_plain count term) (are_plain count terms) plain in
      let parts = with_sort_Some (sort_in integers sorts term) (sorts_in integers sorts terms) found e in
      let first = sort_stays count sorts others term both.0 parts.sort parts.first_is in
      let rest = sorts_stay count sorts others terms both.1 parts.sorts parts.rest_is in
      with_both (sort_in integers (sorts ++ others) term) (sorts_in integers (sorts ++ others) terms) parts.sort parts.sorts first rest ∙ ap Some parts.whole_is

-- a list after another
pub sorts_append : (sorts : List Sort) (terms others : Exprs) (found later : List Sort) → sorts_in integers sorts terms ≡ Some found → sorts_in integers sorts others ≡ Some later → sorts_in integers sorts (append terms others) ≡ Some (found ++ later)
unfolding sorts_in
sorts_append sorts none others found later e f = f ∙ ap (λ (ss : List Sort). Some (ss ++ later)) (some_same [] found e)
sorts_append sorts (more term terms) others found later e f =
    let parts = with_sort_Some (sort_in integers sorts term) (sorts_in integers sorts terms) found e in
    with_both (sort_in integers sorts term) (sorts_in integers sorts (append terms others)) parts.sort (parts.sorts ++ later) parts.first_is (sorts_append sorts terms others parts.sorts later parts.rest_is f) ∙
    ap (λ (ss : List Sort). Some (ss ++ later)) parts.whole_is

-- terms over truth values and whole numbers have sorts of them

known_if : (b : Bool) (s t : Sort) → IsKnown s → (if b then Is s else Mismatch) ≡ Is t → IsKnown t
known_if true s t known e = ap (is_known numeric) (sym (is_same s t e)) ∙ known
known_if false s t known e = cc

each_known : (least : ℕ) (s value t : Sort) (ss : List Sort) → IsKnown value → each_is least s ss value ≡ Is t → IsKnown t
each_known least s value t ss known e = known_if (nat_le least (length ss) && list_all (same_sort s) ss) value t known e

alike_known : (ss : List Sort) (t : Sort) → all_alike ss ≡ Is t → IsKnown t
alike_known [] t e = cc
alike_known (s ∷ rest) t e = known_if (nat_le 1 (length rest) && list_all (same_sort s) rest) kinds.Bool t refl e

not_known : (ss : List Sort) (t : Sort) → sort_of ops.Not ss ≡ Is t → IsKnown t
unfolding sort_of
not_known [] t e = cc
not_known (kinds.Int ∷ rest) t e = cc
not_known (kinds.Bits w ∷ rest) t e = cc
not_known (kinds.Bool ∷ x ∷ rest) t e = cc
not_known (kinds.Bool ∷ []) t e = ap (is_known numeric) (sym (is_same kinds.Bool t e))

choice_known : (ss : List Sort) (t : Sort) → All IsKnown ss → choice ss ≡ Is t → IsKnown t
choice_known [] t all e = cc
choice_known (kinds.Int ∷ rest) t all e = cc
choice_known (kinds.Bits w ∷ rest) t all e = cc
choice_known (kinds.Bool ∷ []) t all e = cc
choice_known (kinds.Bool ∷ x ∷ []) t all e = cc
choice_known (kinds.Bool ∷ x ∷ y ∷ z ∷ rest) t all e = cc
choice_known (kinds.Bool ∷ x ∷ y ∷ []) t all e =
    known_if (same_sort x y) x t (All-head IsKnown x (y ∷ []) (All-tail IsKnown kinds.Bool (x ∷ y ∷ []) all)) e

two_known : (ss : List Sort) (t : Sort) → sort_of ops.Mod ss ≡ Is t → IsKnown t
unfolding sort_of
two_known [] t e = cc
two_known (kinds.Bool ∷ rest) t e = cc
two_known (kinds.Bits w ∷ rest) t e = cc
two_known (kinds.Int ∷ []) t e = cc
two_known (kinds.Int ∷ kinds.Bool ∷ rest) t e = cc
two_known (kinds.Int ∷ kinds.Bits w ∷ rest) t e = cc
two_known (kinds.Int ∷ kinds.Int ∷ x ∷ rest) t e = cc
two_known (kinds.Int ∷ kinds.Int ∷ []) t e = ap (is_known numeric) (sym (is_same kinds.Int t e))

one_known : (ss : List Sort) (t : Sort) → sort_of ops.Abs ss ≡ Is t → IsKnown t
unfolding sort_of
one_known [] t e = cc
one_known (kinds.Bool ∷ rest) t e = cc
one_known (kinds.Bits w ∷ rest) t e = cc
one_known (kinds.Int ∷ x ∷ rest) t e = cc
one_known (kinds.Int ∷ []) t e = ap (is_known numeric) (sym (is_same kinds.Int t e))

operator_known : (operator : Op) (ss : List Sort) (t : Sort) → owned operator ≡ true → All IsKnown ss → sort_of operator ss ≡ Is t → IsKnown t
unfolding sort_of
operator_known ops.Not ss t own all e = not_known ss t e
operator_known ops.And ss t own all e = each_known 1 kinds.Bool kinds.Bool t ss refl e
operator_known ops.Or ss t own all e = each_known 1 kinds.Bool kinds.Bool t ss refl e
operator_known ops.Xor ss t own all e = each_known 2 kinds.Bool kinds.Bool t ss refl e
operator_known ops.Implies ss t own all e = each_known 2 kinds.Bool kinds.Bool t ss refl e
operator_known ops.Equal ss t own all e = alike_known ss t e
operator_known ops.Distinct ss t own all e = alike_known ss t e
operator_known ops.Ite ss t own all e = choice_known ss t all e
operator_known ops.Neg ss t own all e = one_known ss t e
operator_known ops.Sub ss t own all e = each_known 2 kinds.Int kinds.Int t ss refl e
operator_known ops.Add ss t own all e = each_known 2 kinds.Int kinds.Int t ss refl e
operator_known ops.Mul ss t own all e = each_known 2 kinds.Int kinds.Int t ss refl e
operator_known ops.Div ss t own all e = each_known 2 kinds.Int kinds.Int t ss refl e
operator_known ops.Mod ss t own all e = two_known ss t e
operator_known ops.Abs ss t own all e = one_known ss t e
operator_known ops.Le ss t own all e = each_known 2 kinds.Int kinds.Bool t ss refl e
operator_known ops.Lt ss t own all e = each_known 2 kinds.Int kinds.Bool t ss refl e
operator_known ops.Ge ss t own all e = each_known 2 kinds.Int kinds.Bool t ss refl e
operator_known ops.Gt ss t own all e = each_known 2 kinds.Int kinds.Bool t ss refl e
operator_known operator ss t own all e = cc

constant_known : (value : Val) (t : Sort) → is_integral value ≡ true → sort_of_value value ≡ t → IsKnown t
constant_known (Truth b) t own e = ap (is_known numeric) (sym e)
constant_known (Whole z) t own e = ap (is_known numeric) (sym e)
constant_known (Bits w n) t own e = cc

at_known : (ss : List Sort) (i : ℕ) (t : Sort) → All IsKnown ss → slice_get ss i ≡ Some t → IsKnown t
at_known [] i t all e = cc
at_known (s ∷ ss) zero t all e = ap (is_known numeric) (sym (some_same s t e)) ∙ All-head IsKnown s ss all
at_known (s ∷ ss) (suc i) t all e = at_known ss i t (All-tail IsKnown s ss all) e

-- a query has no function to call
pub uncalled : {X : Type 0} (sorts : List Sort) (function : Fun) (arguments : Exprs) (sort : Sort) → sort_in integers sorts (Invoke function arguments) ≡ Some sort → X
unfolding sort_in
uncalled sorts (Defined f) arguments sort e = cc
uncalled sorts (Wanted f) arguments sort e = cc

mutual
  unfolding sort_in sorts_in has_integers have_integers

  pub sort_known : (sorts : List Sort) → All IsKnown sorts → (term : Expr) → has_integers term ≡ true → (sort : Sort) → sort_in integers sorts term ≡ Some sort → IsKnown sort
  sort_known sorts all (Constant value) own sort e = constant_known value sort own (if_Some (valid value) (sort_of_value value) sort e).1
  sort_known sorts all (Variable position) own sort e = at_known sorts position sort all e
  sort_known sorts all (Apply operator arguments) own sort e =
      let parts = applied_sort_Some integers operator (sorts_in integers sorts arguments) sort e in
      operator_known operator parts.sorts sort parts.owned (sorts_known sorts all arguments own parts.sorts parts.is) parts.fits
  sort_known sorts all (Invoke function arguments) own sort e = uncalled sorts function arguments sort e
  sort_known sorts all (Bind bound inner) own sort e =
      let both = both_true (have_integers bound) (has_integers inner) own in
      let parts = after_Some (sorts_in integers sorts bound) (λ found. sort_in integers (sorts ++ found) inner) sort e in
      let later = sorts_known sorts all bound both.0 parts.sorts parts.is in
      sort_known (sorts ++ parts.sorts) (All-append IsKnown sorts parts.sorts all later) inner both.1 sort parts.next_is

  pub sorts_known : (sorts : List Sort) → All IsKnown sorts → (terms : Exprs) → have_integers terms ≡ true → (found : List Sort) → sorts_in integers sorts terms ≡ Some found → All IsKnown found
  sorts_known sorts all none own found e = subst (All IsKnown) (some_same [] found e) (All-nil IsKnown)
  sorts_known sorts all (more term terms) own found e =
      let both = both_true (has_integers term) (have_integers terms) own in
      let parts = with_sort_Some (sort_in integers sorts term) (sorts_in integers sorts terms) found e in
      subst (All IsKnown) parts.whole_is (All-cons IsKnown parts.sort parts.sorts (sort_known sorts all term both.0 parts.sort parts.first_is) (sorts_known sorts all terms both.1 parts.sorts parts.rest_is))

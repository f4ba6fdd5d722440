-- The values of terms by those of their arguments.
use Rattle.std.specs.Prelude.{ℕ, zero, suc, ◌+◌, ◌<◌, length, Bool, true, false, ◌&&◌, List, [], ◌∷◌, ◌++◌, ◌≡◌, refl, map, All, slice_get, Option, Some, None, if◌then◌else◌}
use Rattle.std.proofs.Common.{ap, sym, ◌∙◌, subst, get_or, take, inl, inr}
use Rattle.std.proofs.lemmas.List.{map_push, take_more}
use Rattle.std.specs.List.{AllZip}
use Rattle.std.proofs.lemmas.Bool.{true≢false}
use Rattle.std.specs.Option.{is_some, option_map}
use Rattle.std.proofs.lemmas.Option.{none-some, slice_get-map, slice_get_within, get_or_from_slice_get}
use Rattle.std.proofs.lemmas.List.Elements.{All-nil, All-cons, All-head, All-tail, All-get_or, All-contains, Contains-push}
use Rattle.sy_terms.specs.Values.{Val, Truth}
use Rattle.sy_terms.specs.Expr.{Expr, Exprs, Constant, Variable, Apply, Invoke, none}
use Rattle.sy_terms.specs.Denoted.{val_of, vals_of, expr_of, exprs_of, expr_of-Const}
use Rattle.sy_terms.specs.Fitting.{Scope, applied_sort, called_sort, signature_of, sort_in, sorts_in, with_sort}
use Rattle.sy_terms.specs.Meaning.{Function, called, can_call, function_of, meaning, meanings, computable, all_computable, functions}
use Rattle.sy_terms.specs.Definitions.{bodies, scope_of}
use Rattle.sy_terms.specs.Operators.{op_value}
use Rattle.sy_terms.specs.Theories.{fits, sort_of_value, valid}
use Rattle.sy_terms.specs.declared.op.Op.{Op}
use Rattle.sy_terms.specs.declared.sort.Sort.{Sort}
use Rattle.sy_terms.specs.declared.sort.Value.{Value}
use Rattle.sy_terms.specs.declared.term.Def.{Def}
use Rattle.sy_terms.specs.declared.term.Fun.{Fun}
use Rattle.sy_terms.specs.declared.term.Term.{Term, Const}
use Rattle.sy_terms_operators.specs.Evaluation.{TermFits, TermsFit, HasValue, HaveValues, FitsWith, GivesValue}
use Rattle.sy_terms_operators.proofs.Equations.{with_sort_Some, applied_sort_Some, called_sort_Some, value_at_position_is}
use Rattle.sy_terms_operators.proofs.Lists.{HaveValues-none, HaveValues-last}
use Rattle.sy_loop_pointwise.specs.Shapes.{AreBelow, term_of, terms_of}
use Rattle.sy_loop_pointwise.proofs.Lists.{at_more}
use Rattle.sy_loop_pointwise.specs.Valued.{IsValued, AreValued, EachIsValued, AreConstants}

-- what holds of all items with one more holds of them, and of that one
first_of : {A : Type 0} (P : A → Type 0) (items : List A) (last : A) → All P (items ++ last ∷ []) → All P items
first_of P [] last all = All-nil P
first_of P (item ∷ items) last all = All-cons P item items (All-head P item (items ++ last ∷ []) all) (first_of P items last (All-tail P item (items ++ last ∷ []) all))

last_of : {A : Type 0} (P : A → Type 0) (items : List A) (last : A) → All P (items ++ last ∷ []) → P last
last_of P items last all = All-contains P (items ++ last ∷ []) last all (Contains-push items last)

-- two terms, each over its values, of the same sort, computability and meaning
record Alike (scope : Scope) (defined : List Function) (values others : List Val) (term other : Expr) : Type 0 where
  sorts : sort_in scope (map sort_of_value values) term ≡ sort_in scope (map sort_of_value others) other
  computes : computable defined [] values term ≡ computable defined [] others other
  means : meaning defined [] values term ≡ meaning defined [] others other

module _ {N : Type 0} (number : N → Val) (scope : Scope) (defined : List Function) where
  alike_valued : (values others : List Val) (term other : Expr) (value : Option (Value N)) → Alike scope defined values others term other → IsValued number scope defined values term value → IsValued number scope defined others other value
  alike_valued values others term other None alike unvalued = λ fit. sym alike.computes ∙ unvalued (record { sort = fit.sort; is = alike.sorts ∙ fit.is })
  alike_valued values others term other (Some value) alike has = record {
    valid = has.valid;
    sort = sym alike.sorts ∙ has.sort;
    computable = sym alike.computes ∙ has.computable;
    meaning = has.meaning ∙ alike.means;
  }

  -- an operator or a function at terms, and at others of the same values
  pub applied_valued : (operator : Op) (values others : List Val) (terms more_terms : Exprs) (found : List Val) (value : Option (Value N)) → HaveValues scope defined [] values terms found → HaveValues scope defined [] others more_terms found →
      IsValued number scope defined values (Apply operator terms) value → IsValued number scope defined others (Apply operator more_terms) value
  unfolding sort_in computable meaning
  applied_valued operator values others terms more_terms found value have too is =
      let same : meanings defined [] values terms ≡ meanings defined [] others more_terms = sym have.meanings ∙ too.meanings in
      alike_valued values others (Apply operator terms) (Apply operator more_terms) value (record {
        sorts = ap (applied_sort scope operator) (have.sorts ∙ sym too.sorts);
        computes = λ i. (have.computable ∙ sym too.computable) i && fits operator (same i);
        means = ap (op_value operator) same;
      }) is

  pub called_valued : (function : Fun) (values others : List Val) (terms more_terms : Exprs) (found : List Val) (value : Option (Value N)) → HaveValues scope defined [] values terms found → HaveValues scope defined [] others more_terms found →
      IsValued number scope defined values (Invoke function terms) value → IsValued number scope defined others (Invoke function more_terms) value
  unfolding sort_in computable meaning
  called_valued function values others terms more_terms found value have too is =
      let same : meanings defined [] values terms ≡ meanings defined [] others more_terms = sym have.meanings ∙ too.meanings in
      alike_valued values others (Invoke function terms) (Invoke function more_terms) value (record {
        sorts = ap (called_sort (signature_of scope function)) (have.sorts ∙ sym too.sorts);
        computes = λ i. (have.computable ∙ sym too.computable) i && can_call (function_of defined [] function) (same i);
        means = ap (called (function_of defined [] function)) same;
      }) is

  -- where an argument has no value, neither has the term
  pub applied_unvalued : (operator : Op) (values : List Val) (terms : Exprs) → (TermsFit scope values terms → all_computable defined [] values terms ≡ false) →
      TermFits scope values (Apply operator terms) → computable defined [] values (Apply operator terms) ≡ false
  unfolding sort_in computable
  applied_unvalued operator values terms unvalued fit =
      let below = applied_sort_Some scope operator (sorts_in scope (map sort_of_value values) terms) fit.sort fit.is in
      ap (λ (b : Bool). b && fits operator (meanings defined [] values terms)) (unvalued (record { sorts = below.sorts; is = below.is }))

  pub called_unvalued : (function : Fun) (values : List Val) (terms : Exprs) → (TermsFit scope values terms → all_computable defined [] values terms ≡ false) →
      TermFits scope values (Invoke function terms) → computable defined [] values (Invoke function terms) ≡ false
  unfolding sort_in computable
  called_unvalued function values terms unvalued fit =
      let below = called_sort_Some (signature_of scope function) (sorts_in scope (map sort_of_value values) terms) fit.sort fit.is in
      ap (λ (b : Bool). b && can_call (function_of defined [] function) (meanings defined [] values terms)) (unvalued (record { sorts = below.function.takes; is = below.takes }))

  -- a constant, whatever the values in force are
  pub constant_valued : (values others : List Val) (value : Val) (found : Option (Value N)) → IsValued number scope defined values (Constant value) found → IsValued number scope defined others (Constant value) found
  unfolding sort_in computable meaning
  constant_valued values others value found is = alike_valued values others (Constant value) (Constant value) found (record { sorts = refl; computes = refl; means = refl }) is

  -- where one of the terms has no value, not all have
  pub one_unvalued : (values : List Val) (terms : List Expr) (numbers : List ℕ) (place at : ℕ) → slice_get numbers place ≡ Some at → (TermFits scope values (term_of terms at) → computable defined [] values (term_of terms at) ≡ false) →
      TermsFit scope values (terms_of terms numbers) → all_computable defined [] values (terms_of terms numbers) ≡ false
  unfolding sorts_in all_computable
  one_unvalued values terms [] place at is unvalued fit = absurd (none-some at is)
  one_unvalued values terms (first ∷ numbers) zero at is unvalued fit =
      let same : first ≡ at = cc in
      let parts = with_sort_Some (sort_in scope (map sort_of_value values) (term_of terms first)) (sorts_in scope (map sort_of_value values) (terms_of terms numbers)) fit.sorts fit.is in
      let here : computable defined [] values (term_of terms first) ≡ false =
      subst (λ n. TermFits scope values (term_of terms n) → computable defined [] values (term_of terms n) ≡ false) (sym same) unvalued (record { sort = parts.sort; is = parts.first_is }) in
      ap (λ (b : Bool). b && all_computable defined [] values (terms_of terms numbers)) here
  one_unvalued values terms (first ∷ numbers) (suc place) at is unvalued fit =
      let parts = with_sort_Some (sort_in scope (map sort_of_value values) (term_of terms first)) (sorts_in scope (map sort_of_value values) (terms_of terms numbers)) fit.sorts fit.is in
      let rest = one_unvalued values terms numbers place at is unvalued (record { sorts = parts.sorts; is = parts.rest_is }) in
      ap (λ (b : Bool). computable defined [] values (term_of terms first) && b) rest ∙ both_false (computable defined [] values (term_of terms first))
    where
      both_false : (b : Bool) → (b && false) ≡ false
      both_false true = refl
      both_false false = refl

  -- where each of the terms has its value, all have
  pub all_valued : (values : List Val) (terms : List Expr) (numbers : List ℕ) (found : List (Value N)) → AllZip (λ at value. HasValue scope defined [] values (term_of terms at) (val_of number value)) numbers found →
      HaveValues scope defined [] values (terms_of terms numbers) (vals_of number found)
  unfolding sorts_in all_computable meanings
  all_valued values terms [] [] each = record { valid = All-nil (λ (v : Val). valid v ≡ true); sorts = refl; computable = refl; meanings = refl }
  all_valued values terms [] (value ∷ found) each = absurd each
  all_valued values terms (at ∷ numbers) [] each = absurd each
  all_valued values terms (at ∷ numbers) (value ∷ found) each =
      let rest = all_valued values terms numbers found each.1 in
      record {
        valid = All-cons (λ (v : Val). valid v ≡ true) (val_of number value) (vals_of number found) each.0.valid rest.valid;
        sorts = λ i. with_sort (each.0.sort i) (rest.sorts i);
        computable = λ i. each.0.computable i && rest.computable i;
        meanings = λ i. each.0.meaning i ∷ rest.meanings i;
      }

-- the value of a constant
constant_has : (scope : Scope) (defined wanted : List Function) (values : List Val) (value : Val) → valid value ≡ true → HasValue scope defined wanted values (Constant value) value
unfolding sort_in computable meaning
constant_has scope defined wanted values value is = record {
  valid = is;
  sort = ap (λ (b : Bool). if b then Some (sort_of_value value) else None) is;
  computable = refl;
  meaning = refl;
}

pub constants_none : (T : Type 0) {N : Type 0} (number : N → Val) → let terms : List (Term T N) = [] in AreConstants (exprs_of number terms) []
constants_none T number valid_all scope defined wanted at = HaveValues-none T number scope defined wanted at

pub constants_more : {T N : Type 0} (number : N → Val) (terms : List (Term T N)) (values : List (Value N)) (i : ℕ) (value : Value N) → i < length values → value ≡ get_or values i value →
    AreConstants (exprs_of number terms) (vals_of number (take i values)) → AreConstants (exprs_of number (terms ++ Const value ∷ [])) (vals_of number (take (i + 1) values))
constants_more {T} {N} number terms values i value within is constants =
    let taken : vals_of number (take (i + 1) values) ≡ vals_of number (take i values) ++ val_of number value ∷ [] =
    ap (vals_of number) (take_more values i value within) ∙ ap (λ (v : Value N). vals_of number (take i values ++ v ∷ [])) (sym is) ∙ map_push (val_of number) (take i values) value in
    subst (AreConstants (exprs_of number (terms ++ Const value ∷ []))) (sym taken) (λ all scope defined wanted at.
    let own : HasValue scope defined wanted at (Constant (val_of number value)) (val_of number value) = constant_has scope defined wanted at (val_of number value) (last_of (λ (v : Val). valid v ≡ true) (vals_of number (take i values)) (val_of number value) all) in
    HaveValues-last number terms (Const value) (constants (first_of (λ (v : Val). valid v ≡ true) (vals_of number (take i values)) (val_of number value) all) scope defined wanted at)
    (subst (λ e. HasValue scope defined wanted at e (val_of number value)) (sym (expr_of-Const T number value)) own))

-- the value of a variable
pub variable_has : (scope : Scope) (defined : List Function) (values : List Val) (position : ℕ) (value : Val) → slice_get values position ≡ Some value → All (λ v. valid v ≡ true) values → HasValue scope defined [] values (Variable position) value
unfolding sort_in computable meaning
variable_has scope defined values position value at all = record {
  valid = subst (λ v. valid v ≡ true) (get_or_from_slice_get values position value value at) (All-get_or (λ v. valid v ≡ true) values position value (slice_get_within values position value at) all);
  sort = slice_get-map sort_of_value values position ∙ ap (option_map sort_of_value) at;
  computable = refl;
  meaning = sym (value_at_position_is values position ∙ get_or_from_slice_get values position value (Truth false) at);
}

-- none stands beyond the end
pub variable_past : (scope : Scope) (defined : List Function) (values : List Val) (position : ℕ) → slice_get values position ≡ None → TermFits scope values (Variable position) → computable defined [] values (Variable position) ≡ false
unfolding sort_in
variable_past scope defined values position nowhere fit =
    let none_there : slice_get (map sort_of_value values) position ≡ None = slice_get-map sort_of_value values position ∙ ap (option_map sort_of_value) nowhere in
    absurd (none-some fit.sort (sym none_there ∙ fit.is))

-- what evaluation of a term without variables finds
module _ {T N : Type 0} (owned : Op → Bool) (defs slice : List (Def T N)) (same : slice ≡ defs) (term : Expr) where
  pub fits_where : (found : Option Sort) → found ≡ sort_in (scope_of owned slice) [] term → is_some found ≡ true → TermFits (scope_of owned defs) [] term
  fits_where None is some = absurd (true≢false (sym some))
  fits_where (Some sort) is some = subst (λ (ds : List (Def T N)). TermFits (scope_of owned ds) [] term) same (record { sort = sort; is = sym is })

  pub fits_not : (found : Option Sort) → found ≡ sort_in (scope_of owned slice) [] term → is_some found ≡ false → TermFits (scope_of owned defs) [] term → ⊥
  fits_not None is some fit = none-some fit.sort (is ∙ ap (λ (ds : List (Def T N)). sort_in (scope_of owned ds) [] term) same ∙ fit.is)
  fits_not (Some sort) is some fit = true≢false some

module _ {T N : Type 0} (owned : Op → Bool) (number : N → Val) (defs : List (Def T N)) (vs : List (Value N)) (nothing : vs ≡ []) (term : Expr) (fit : TermFits (scope_of owned defs) [] term) where
  pub fits_plain : let none_to_find : List (Term T N) = [] in FitsWith owned number defs none_to_find (vals_of number vs) term
  fits_plain = let none_to_find : List (Term T N) = [] in subst (λ all. FitsWith owned number defs none_to_find (vals_of number all) term) (sym nothing) (record { wanted = []; bodies = tt; fits = fit })

  pub gives_value : (value : Val) → (let none_to_find : List (Term T N) = [] in GivesValue owned number defs none_to_find (vals_of number vs) term value) → HasValue (scope_of owned defs) (functions (bodies number defs)) [] [] term value
  gives_value value gives = let none_to_find : List (Term T N) = [] in (subst (λ all. GivesValue owned number defs none_to_find (vals_of number all) term value) nothing gives) [] tt fit

-- the values so far, with one more
pub each_none : {N : Type 0} (number : N → Val) (scope : Scope) (defined : List Function) (values : List Val) (terms : List Expr) → let found : List (Option (Value N)) = [] in EachIsValued number scope defined values terms found
each_none number scope defined values terms place value at = absurd (none-some value at)

pub each_more : {N : Type 0} (number : N → Val) (scope : Scope) (defined : List Function) (values : List Val) (terms : List Expr) (found : List (Option (Value N))) (next : Option (Value N)) →
    EachIsValued number scope defined values terms found → IsValued number scope defined values (term_of terms (length found)) next → EachIsValued number scope defined values terms (found ++ next ∷ [])
each_more {N} number scope defined values terms found next each own place value at = elim (at_more found next place value at) [
  | inl before ↦ each place value before
  | inr end ↦ subst (λ (v : Option (Value N)). IsValued number scope defined values (term_of terms place) v) end.1 (subst (λ n. IsValued number scope defined values (term_of terms n) next) (sym end.0) own)
]

-- two lists, item by item, with one more
pub zip_more : {A B : Type 0} (R : A → B → Type 0) (items : List A) (others : List B) (i : ℕ) (default : A) (other : B) → i < length items → AllZip R (take i items) others → R (get_or items i default) other → AllZip R (take (i + 1) items) (others ++ other ∷ [])
zip_more {A} {B} R items others i default other within all own = subst (λ (xs : List A). AllZip R xs (others ++ other ∷ [])) (sym (take_more items i default within)) (push (take i items) others all)
  where
    push : (xs : List A) (ys : List B) → AllZip R xs ys → AllZip R (xs ++ get_or items i default ∷ []) (ys ++ other ∷ [])
    push [] [] each = (own, tt)
    push [] (y ∷ ys) each = absurd each
    push (x ∷ xs) [] each = absurd each
    push (x ∷ xs) (y ∷ ys) each = (each.0, push xs ys each.1)

-- the next subterm, by what is found of its arguments
module _ {N : Type 0} (number : N → Val) (scope : Scope) (defined : List Function) (values : List Val) where
  pub arguments_valued : (terms : List Expr) (entries : List (Option (Value N))) (numbers slice : List ℕ) (all : Option (List (Value N))) → slice ≡ numbers → EachIsValued number scope defined values terms entries → AreBelow (length entries) numbers →
      (EachIsValued number scope defined values terms entries → AreBelow (length entries) slice → AreValued number scope defined values (terms_of terms slice) all) → AreValued number scope defined values (terms_of terms numbers) all
  arguments_valued terms entries numbers slice all same each below told =
      subst (λ ns. AreValued number scope defined values (terms_of terms ns) all) same (told each (subst (AreBelow (length entries)) (sym same) below))

  pub applied_from : (operator : Op) (constants terms : Exprs) (found slice : List (Value N)) (value : Option (Value N)) → slice ≡ found → AreConstants constants (vals_of number slice) → HaveValues scope defined [] values terms (vals_of number found) →
      IsValued number scope defined [] (Apply operator constants) value → IsValued number scope defined values (Apply operator terms) value
  applied_from operator constants terms found slice value same known have is =
      applied_valued number scope defined operator [] values constants terms (vals_of number found) value (subst (λ (vs : List (Value N)). AreConstants constants (vals_of number vs)) same known have.valid scope defined [] []) have is

  pub called_from : (function : Fun) (constants terms : Exprs) (found slice : List (Value N)) (value : Option (Value N)) → slice ≡ found → AreConstants constants (vals_of number slice) → HaveValues scope defined [] values terms (vals_of number found) →
      IsValued number scope defined [] (Invoke function constants) value → IsValued number scope defined values (Invoke function terms) value
  called_from function constants terms found slice value same known have is =
      called_valued number scope defined function [] values constants terms (vals_of number found) value (subst (λ (vs : List (Value N)). AreConstants constants (vals_of number vs)) same known have.valid scope defined [] []) have is

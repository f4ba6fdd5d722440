-- Numbers of terms with their bindings written out.
use Rattle.std.proofs.Common.{◌≡◌, ℕ, zero, suc, ◌+◌, ◌<◌, ◌≤◌, List, [], ◌∷◌, ◌++◌, length, refl, ap, sym, ◌∙◌, subst, Some, None, slice_get, get_or, take, arith}
use Rattle.std.specs.Prelude.{false}
use Rattle.std.proofs.lemmas.Option.{none-some, slice_get_within, get_or_from_slice_get}
use Rattle.std.proofs.lemmas.List.{take_more, take_all}
use Rattle.std.proofs.lemmas.List.Elements.{All-append, All-push, All-get_or}
use Rattle.sy_terms.specs.Values.{Val, Truth}
use Rattle.sy_terms.specs.Expr.{Expr, Exprs, Constant, Variable, Apply, Invoke, Bind, none, more, append}
use Rattle.sy_terms.specs.Denoted.{expr_of, exprs_of, exprs_of-append}
use Rattle.sy_terms.specs.declared.op.Op.{Op}
use Rattle.sy_terms.specs.declared.sort.Sort.{Sort}
use Rattle.sy_terms.specs.declared.term.Fun.{Fun}
use Rattle.sy_terms.specs.declared.term.Term.{Term}
use Rattle.sy_loop_spec.specs.WrittenOut.{term_at, written, all_written, variables_from}
use Rattle.sy_loop_pointwise.specs.Shapes.{Shape, Fixed, Argument, Applied, Called, AreBelow, AreSubterms, ShapesExtend, IsNumberOf, AreNumbered, subterms, term_of, terms_of}
use Rattle.sy_loop_pointwise.proofs.Shaped.{all_stay, unchanged, extends_both, below_more, shape_is, shape_stays}

pub constant_numbered : (before after : List Shape) (names : List ℕ) (value : Val) (number : ℕ) → ShapesExtend before after → AreSubterms after → slice_get after number ≡ Some (Fixed value) →
    IsNumberOf before after names (Constant value) number
unfolding written
constant_numbered before after names value number extends are at = record {
  extends = extends;
  within = slice_get_within after number (Fixed value) at;
  is = shape_is after number (Fixed value) are at;
}

-- the term at a position among those of these numbers
named_is : (terms : List Expr) (names : List ℕ) (position number : ℕ) → slice_get names position ≡ Some number → term_at (terms_of terms names) position ≡ term_of terms number
named_is terms [] position number at = absurd (none-some number at)
named_is terms (name ∷ names) zero number at = let same : name ≡ number = cc in ap (term_of terms) same
named_is terms (name ∷ names) (suc position) number at = named_is terms names position number at

unnamed_is : (terms : List Expr) (names : List ℕ) (position : ℕ) → slice_get names position ≡ None → term_at (terms_of terms names) position ≡ Constant (Truth false)
unnamed_is terms [] position at = refl
unnamed_is terms (name ∷ names) zero at = absurd (none-some name (sym at))
unnamed_is terms (name ∷ names) (suc position) at = unnamed_is terms names position at

below_at : (count : ℕ) (names : List ℕ) (position number : ℕ) → AreBelow count names → slice_get names position ≡ Some number → number < count
below_at count names position number below at =
    subst (λ n. n < count) (get_or_from_slice_get names position number 0 at) (All-get_or (λ n. n < count) names position 0 (slice_get_within names position number at) below)

pub name_numbered : (shapes : List Shape) (names : List ℕ) (position number : ℕ) → AreBelow (length shapes) names → slice_get names position ≡ Some number → IsNumberOf shapes shapes names (Variable position) number
unfolding written
name_numbered shapes names position number below at = record {
  extends = unchanged shapes;
  within = below_at (length shapes) names position number below at;
  is = sym (named_is (subterms shapes) names position number at);
}

pub no_name_numbered : (before after : List Shape) (names : List ℕ) (position number : ℕ) → slice_get names position ≡ None → ShapesExtend before after → AreSubterms after → slice_get after number ≡ Some (Fixed (Truth false)) →
    IsNumberOf before after names (Variable position) number
unfolding written
no_name_numbered before after names position number nowhere extends are at = record {
  extends = extends;
  within = slice_get_within after number (Fixed (Truth false)) at;
  is = shape_is after number (Fixed (Truth false)) are at ∙ sym (unnamed_is (subterms before) names position nowhere);
}

pub apply_numbered : (before mid after : List Shape) (names : List ℕ) (operator : Op) (arguments : Exprs) (numbers : List ℕ) (number : ℕ) → AreNumbered before mid names arguments numbers → ShapesExtend mid after → AreSubterms after →
    slice_get after number ≡ Some (Applied operator numbers) → IsNumberOf before after names (Apply operator arguments) number
unfolding written
apply_numbered before mid after names operator arguments numbers number below extends are at = record {
  extends = extends_both before mid after below.extends extends;
  within = slice_get_within after number (Applied operator numbers) at;
  is = shape_is after number (Applied operator numbers) are at ∙ shape_stays mid after (Applied operator numbers) extends below.within ∙ ap (Apply operator) below.are;
}

pub call_numbered : (before mid after : List Shape) (names : List ℕ) (function : Fun) (arguments : Exprs) (numbers : List ℕ) (number : ℕ) → AreNumbered before mid names arguments numbers → ShapesExtend mid after → AreSubterms after →
    slice_get after number ≡ Some (Called function numbers) → IsNumberOf before after names (Invoke function arguments) number
unfolding written
call_numbered before mid after names function arguments numbers number below extends are at = record {
  extends = extends_both before mid after below.extends extends;
  within = slice_get_within after number (Called function numbers) at;
  is = shape_is after number (Called function numbers) are at ∙ shape_stays mid after (Called function numbers) extends below.within ∙ ap (Invoke function) below.are;
}

-- the terms of two lists of numbers in a row
pub terms_of-append : (terms : List Expr) (first second : List ℕ) → terms_of terms (first ++ second) ≡ append (terms_of terms first) (terms_of terms second)
terms_of-append terms [] second = refl
terms_of-append terms (number ∷ first) second = ap (more (term_of terms number)) (terms_of-append terms first second)

pub names_within : (before mid : List Shape) (names : List ℕ) (bound : Exprs) (numbers : List ℕ) → AreBelow (length before) names → AreNumbered before mid names bound numbers → AreBelow (length mid) (names ++ numbers)
names_within before mid names bound numbers below first = All-append (λ n. n < length mid) names numbers (below_more before mid names first.extends below) first.within

pub let_numbered : (before mid after : List Shape) (names : List ℕ) (bound : Exprs) (inner : Expr) (numbers : List ℕ) (number : ℕ) → AreBelow (length before) names → AreNumbered before mid names bound numbers →
    IsNumberOf mid after (names ++ numbers) inner number → IsNumberOf before after names (Bind bound inner) number
unfolding written
let_numbered before mid after names bound inner numbers number below first second = record {
  extends = extends_both before mid after first.extends second.extends;
  within = second.within;
  is =
      second.is ∙
      ap (λ known. written known inner)
      (terms_of-append (subterms mid) names numbers ∙ ap (λ known. append known (terms_of (subterms mid) numbers)) (all_stay before mid names first.extends below) ∙ ap (append (terms_of (subterms before) names)) first.are);
}

pub none_numbered : (T : Type 0) {N : Type 0} (number : N → Val) (shapes : List Shape) (names : List ℕ) → let terms : List (Term T N) = [] in AreNumbered shapes shapes names (exprs_of number terms) []
unfolding all_written
none_numbered T number shapes names = record { extends = unchanged shapes; within = λ k d within. absurd (omega (arith, within)); are = refl }

all_written-append : (known first second : Exprs) → all_written known (append first second) ≡ append (all_written known first) (all_written known second)
unfolding all_written
all_written-append known none second = refl
all_written-append known (more term first) second = ap (more (written known term)) (all_written-append known first second)

pub next_numbered : {T N : Type 0} (denotes : N → Val) (before mid after : List Shape) (names : List ℕ) (terms : List (Term T N)) (i : ℕ) (term : Term T N) (numbers : List ℕ) (number : ℕ) → i < length terms → term ≡ get_or terms i term →
    AreBelow (length before) names → AreNumbered before mid names (exprs_of denotes (take i terms)) numbers → IsNumberOf mid after names (expr_of denotes term) number →
    AreNumbered before after names (exprs_of denotes (take (i + 1) terms)) (numbers ++ number ∷ [])
unfolding all_written
next_numbered denotes before mid after names terms i term numbers number within is below first second =
    let known = terms_of (subterms before) names in
    let taken : exprs_of denotes (take (i + 1) terms) ≡ append (exprs_of denotes (take i terms)) (more (expr_of denotes term) none) =
    ap (exprs_of denotes) (take_more terms i term within) ∙ ap (λ (t : Term _ _). exprs_of denotes (take i terms ++ t ∷ [])) (sym is) ∙ exprs_of-append denotes (take i terms) (term ∷ []) in
    let here : term_of (subterms after) number ≡ written known (expr_of denotes term) = second.is ∙ ap (λ names_are. written names_are (expr_of denotes term)) (all_stay before mid names first.extends below) in
    record {
      extends = extends_both before mid after first.extends second.extends;
      within = All-push (λ n. n < length after) numbers number (below_more mid after numbers second.extends first.within) second.within;
      are =
          terms_of-append (subterms after) numbers (number ∷ []) ∙
          (λ j. append ((all_stay mid after numbers second.extends first.within ∙ first.are) j) (more (here j) none)) ∙
          sym (ap (all_written known) taken ∙ all_written-append known (exprs_of denotes (take i terms)) (more (expr_of denotes term) none));
    }

-- the names of variables, one after the other
pub record AreVariables (shapes : List Shape) (names : List ℕ) (count : ℕ) : Type 0 where
  pub within : AreBelow (length shapes) names
  pub are : (sorts : List Sort) → count ≤ length sorts → terms_of (subterms shapes) names ≡ variables_from 0 (take count sorts)

pub no_variables : (shapes : List Shape) → AreVariables shapes [] 0
no_variables shapes = record { within = λ k d within. absurd (omega (arith, within)); are = λ sorts some. refl }

one_variable : (first : ℕ) (sorts : List Sort) (sort : Sort) → variables_from first (sorts ++ sort ∷ []) ≡ append (variables_from first sorts) (more (Variable (first + length sorts)) none)
one_variable first [] sort = ap (λ n. more (Variable n) none) (omega arith)
one_variable first (s ∷ sorts) sort = ap (more (Variable first)) (one_variable (first + 1) sorts sort ∙ ap (λ n. append (variables_from (first + 1) sorts) (more (Variable n) none)) (omega arith))

item_at : {A : Type 0} (items : List A) (i : ℕ) → i < length items → (item : A) × (item ≡ get_or items i item)
item_at [] i within = absurd (omega (arith, within))
item_at (item ∷ items) zero within = (item, refl)
item_at (item ∷ items) (suc i) within = item_at items i (omega (arith, within))

taken_many : {A : Type 0} (count : ℕ) (items : List A) → count ≤ length items → length (take count items) ≡ count
taken_many zero items within = refl
taken_many (suc count) [] within = absurd (omega (arith, within))
taken_many (suc count) (item ∷ items) within = omega (arith, taken_many count items (omega (arith, within)))

pub more_variables : (before after : List Shape) (names : List ℕ) (count number : ℕ) → AreVariables before names count → ShapesExtend before after → AreSubterms after → slice_get after number ≡ Some (Argument count) →
    AreVariables after (names ++ number ∷ []) (count + 1)
more_variables before after names count number vars extends are at = record {
  within = All-push (λ n. n < length after) names number (below_more before after names extends vars.within) (slice_get_within after number (Argument count) at);
  are = λ sorts some.
      let item = item_at sorts count (omega (arith, some)) in
      let one = one_variable 0 (take count sorts) item.0 in
      let here : term_of (subterms after) number ≡ Variable (length (take count sorts)) = shape_is after number (Argument count) are at ∙ ap Variable (sym (taken_many count sorts (omega (arith, some)))) in
      terms_of-append (subterms after) names (number ∷ []) ∙
      (λ j. append ((all_stay before after names extends vars.within ∙ vars.are sorts (omega (arith, some))) j) (more (here j) none)) ∙
      sym (ap (variables_from 0) (take_more sorts count item.0 (omega (arith, some)) ∙ ap (λ (s : Sort). take count sorts ++ s ∷ []) (sym item.1)) ∙ one ∙ ap (λ n. append (variables_from 0 (take count sorts)) (more (Variable n) none)) (omega arith));
}

-- a term numbered over all variables is the term written out
pub all_variables : (before after : List Shape) (names : List ℕ) (count : ℕ) (term : Expr) (number : ℕ) (sorts : List Sort) → AreVariables before names count → IsNumberOf before after names term number → length sorts ≡ count →
    term_of (subterms after) number ≡ written (variables_from 0 sorts) term
all_variables before after names count term number sorts vars is many =
    is.is ∙ ap (λ known. written known term) (vars.are sorts (omega (arith, many)) ∙ ap (variables_from 0) (take_all count sorts (omega (arith, many))))

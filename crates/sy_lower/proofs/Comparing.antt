-- Comparisons of lists of terms, one term after the other.
use Rattle.std.specs.Prelude.{ℕ, ◌+◌, ◌<◌, ◌≤◌, Bool, true, false, ◌&&◌, List, [], ◌∷◌, ℤ, length, ◌≡◌, ◌≢◌, refl}
use Rattle.std.proofs.Common.{ap, ap₂, sym, ◌∙◌, arith, get_or, drop}
use Rattle.std.proofs.lemmas.List.{drop_all}
use Rattle.sy_terms.specs.Values.{Whole}
use Rattle.sy_terms.specs.Expr.{Expr, Exprs, Apply, none, more}
use Rattle.sy_terms.specs.Denoted.{expr_of, exprs_of}
use Rattle.sy_terms.specs.declared.op.Op.{Op}
use Rattle.sy_terms.specs.declared.term.Term.{Term}
use Rattle.sy_lower_laws.specs.Lowering.{same_code, operator_code, same_expr, same_exprs}
use Rattle.sy_lower.proofs.Lists.{dropped}

pub same_applied : (f g : Op) (us ws : Exprs) (result : Bool) → same_code (operator_code f) (operator_code g) ≡ true → result ≡ same_exprs us ws → result ≡ same_expr (Apply f us) (Apply g ws)
unfolding same_expr
same_applied f g us ws result is all = rw is all

pub other_applied : (f g : Op) (us ws : Exprs) → same_code (operator_code f) (operator_code g) ≡ false → false ≡ same_expr (Apply f us) (Apply g ws)
unfolding same_expr
other_applied f g us ws is = rw is refl

heads : (a b : Expr) (us ws : Exprs) → same_exprs (more a us) (more b ws) ≡ (same_expr a b && same_exprs us ws)
unfolding same_exprs
heads a b us ws = refl

ends : same_exprs none none ≡ true
unfolding same_exprs
ends = refl

false_and : (a b : Bool) → false ≡ b → false ≡ (a && b)
false_and true b e = e
false_and false b e = refl

pub lengths_differ : {T : Type 0} (xs ys : List (Term T ℤ)) → length xs ≢ length ys → false ≡ same_exprs (exprs_of Whole xs) (exprs_of Whole ys)
unfolding same_exprs
lengths_differ [] [] differ = absurd (differ refl)
lengths_differ [] (y ∷ ys) differ = refl
lengths_differ (x ∷ xs) [] differ = refl
lengths_differ (x ∷ xs) (y ∷ ys) differ = false_and (same_expr (expr_of Whole x) (expr_of Whole y)) (same_exprs (exprs_of Whole xs) (exprs_of Whole ys)) (lengths_differ xs ys (λ e. differ (omega (arith, e))))

left_at : {T : Type 0} (xs ys : List (Term T ℤ)) (i : ℕ) (x y : Term T ℤ) → i < length xs → x ≡ get_or xs i x → i < length ys → y ≡ get_or ys i y →
    same_exprs (exprs_of Whole (drop i xs)) (exprs_of Whole (drop i ys)) ≡ (same_expr (expr_of Whole x) (expr_of Whole y) && same_exprs (exprs_of Whole (drop (i + 1) xs)) (exprs_of Whole (drop (i + 1) ys)))
left_at xs ys i x y within is among also =
    ap₂ same_exprs (dropped xs i x within is) (dropped ys i y among also)
    ∙ heads (expr_of Whole x) (expr_of Whole y) (exprs_of Whole (drop (i + 1) xs)) (exprs_of Whole (drop (i + 1) ys))

pub next_same : {T : Type 0} (xs ys : List (Term T ℤ)) (i : ℕ) (x y : Term T ℤ) (all : Bool) → i < length xs → x ≡ get_or xs i x → i < length ys → y ≡ get_or ys i y → same_expr (expr_of Whole x) (expr_of Whole y) ≡ true →
    same_exprs (exprs_of Whole (drop i xs)) (exprs_of Whole (drop i ys)) ≡ all → same_exprs (exprs_of Whole (drop (i + 1) xs)) (exprs_of Whole (drop (i + 1) ys)) ≡ all
next_same xs ys i x y all within is among also same left =
    sym (ap (λ b. b && same_exprs (exprs_of Whole (drop (i + 1) xs)) (exprs_of Whole (drop (i + 1) ys))) same) ∙ sym (left_at xs ys i x y within is among also) ∙ left

pub here_differs : {T : Type 0} (xs ys : List (Term T ℤ)) (i : ℕ) (x y : Term T ℤ) (all : Bool) → i < length xs → x ≡ get_or xs i x → i < length ys → y ≡ get_or ys i y → same_expr (expr_of Whole x) (expr_of Whole y) ≡ false →
    same_exprs (exprs_of Whole (drop i xs)) (exprs_of Whole (drop i ys)) ≡ all → false ≡ all
here_differs xs ys i x y all within is among also differ left =
    sym (ap (λ b. b && same_exprs (exprs_of Whole (drop (i + 1) xs)) (exprs_of Whole (drop (i + 1) ys))) differ) ∙ sym (left_at xs ys i x y within is among also) ∙ left

pub all_are_same : {T : Type 0} (xs ys : List (Term T ℤ)) (i : ℕ) (all : Bool) → length xs ≤ i → length ys ≤ i → same_exprs (exprs_of Whole (drop i xs)) (exprs_of Whole (drop i ys)) ≡ all → true ≡ all
all_are_same {T} xs ys i all beyond also left =
    sym ends ∙ sym (ap₂ (λ (us ws : List (Term T ℤ)). same_exprs (exprs_of Whole us) (exprs_of Whole ws)) (drop_all i xs beyond) (drop_all i ys also)) ∙ left

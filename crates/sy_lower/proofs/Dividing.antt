-- Whether terms have divisions, node by node.
use Rattle.std.specs.Prelude.{ℕ, ◌+◌, ◌<◌, ◌≤◌, Bool, true, false, ◌||◌, List, ℤ, length, ◌≡◌, refl}
use Rattle.std.proofs.Common.{ap, sym, ◌∙◌, get_or, drop}
use Rattle.std.proofs.lemmas.List.{drop_all}
use Rattle.sy_terms.specs.Values.{Whole}
use Rattle.sy_terms.specs.Expr.{Expr, Exprs, Apply, Bind, none, more}
use Rattle.sy_terms.specs.Denoted.{expr_of, exprs_of}
use Rattle.sy_terms.specs.declared.op.Op.{Op}
use Rattle.sy_terms.specs.declared.term.Term.{Term}
use Rattle.sy_lower_laws.specs.Lowering.{step_of, is_lowered, has_divisions, have_divisions}
use Rattle.sy_lower.proofs.Lists.{dropped}

pub operator_has : (operator : Op) (arguments : Exprs) → is_lowered (step_of operator) ≡ true → true ≡ has_divisions (Apply operator arguments)
unfolding has_divisions
operator_has operator arguments is = rw is refl

pub arguments_have : (operator : Op) (arguments : Exprs) (has : Bool) → is_lowered (step_of operator) ≡ false → has ≡ have_divisions arguments → has ≡ has_divisions (Apply operator arguments)
unfolding has_divisions
arguments_have operator arguments has is all = rw is all

pub bound_have : (bound : Exprs) (inner : Expr) → have_divisions bound ≡ true → true ≡ has_divisions (Bind bound inner)
unfolding has_divisions
bound_have bound inner is = rw is refl

pub inner_has : (bound : Exprs) (inner : Expr) (has : Bool) → have_divisions bound ≡ false → has ≡ has_divisions inner → has ≡ has_divisions (Bind bound inner)
unfolding has_divisions
inner_has bound inner has is all = rw is all

next_or : (first : Expr) (rest : Exprs) → have_divisions (more first rest) ≡ (has_divisions first || have_divisions rest)
unfolding have_divisions
next_or first rest = refl

no_divisions : have_divisions none ≡ false
unfolding have_divisions
no_divisions = refl

-- the term at a place has one, or it hasn't
pub here : {T : Type 0} (terms : List (Term T ℤ)) (i : ℕ) (term : Term T ℤ) (all : Bool) → i < length terms → term ≡ get_or terms i term → has_divisions (expr_of Whole term) ≡ true → have_divisions (exprs_of Whole (drop i terms)) ≡ all → true ≡ all
here terms i term all within is has left =
    sym (ap (λ b. b || have_divisions (exprs_of Whole (drop (i + 1) terms))) has) ∙ sym (next_or (expr_of Whole term) (exprs_of Whole (drop (i + 1) terms))) ∙ sym (ap have_divisions (dropped terms i term within is)) ∙ left

pub later : {T : Type 0} (terms : List (Term T ℤ)) (i : ℕ) (term : Term T ℤ) (all : Bool) → i < length terms → term ≡ get_or terms i term → has_divisions (expr_of Whole term) ≡ false → have_divisions (exprs_of Whole (drop i terms)) ≡ all →
    have_divisions (exprs_of Whole (drop (i + 1) terms)) ≡ all
later terms i term all within is has left =
    sym (ap (λ b. b || have_divisions (exprs_of Whole (drop (i + 1) terms))) has) ∙ sym (next_or (expr_of Whole term) (exprs_of Whole (drop (i + 1) terms))) ∙ sym (ap have_divisions (dropped terms i term within is)) ∙ left

pub none_left : {T : Type 0} (terms : List (Term T ℤ)) (i : ℕ) (all : Bool) → length terms ≤ i → have_divisions (exprs_of Whole (drop i terms)) ≡ all → false ≡ all
none_left {T} terms i all beyond left = sym no_divisions ∙ sym (ap (λ (ts : List (Term T ℤ)). have_divisions (exprs_of Whole ts)) (drop_all i terms beyond)) ∙ left

-- Constant divisors, and side conditions of divisions.
use Rattle.std.specs.Prelude.{true, false, List, [], ◌∷◌, ℤ, length, ◌≡◌, ◌≢◌, refl, None}
use Rattle.std.proofs.Common.{ap, arith, get_or}
use Rattle.sy_terms.specs.Values.{Val, Truth, Whole, Bits}
use Rattle.sy_terms.specs.Expr.{Expr, Exprs, Constant, Variable, Apply, Invoke, Bind, none, more}
use Rattle.sy_terms.specs.Denoted.{expr_of, exprs_of}
use Rattle.sy_terms.specs.declared.op.Op.{Op}
use Rattle.sy_terms.specs.declared.term.Term.{Term}
use Rattle.sy_lower_laws.specs.Lowering.{divisor, negated_divisor, is_negation}
use Rattle.sy_lower.specs.Divisors.{value_nonzero, value_negated}

-- what is no list of one term is no negation's argument
negated_two : (a b : Expr) (rest : Exprs) → None ≡ negated_divisor (more a (more b rest))
negated_two (Constant (Truth truth)) b rest = refl
negated_two (Constant (Whole number)) b rest = refl
negated_two (Constant (Bits width number)) b rest = refl
negated_two (Variable position) b rest = refl
negated_two (Apply operator arguments) b rest = refl
negated_two (Invoke function arguments) b rest = refl
negated_two (Bind bound inner) b rest = refl

pub not_one : {T : Type 0} (terms : List (Term T ℤ)) → length terms ≢ 1 → None ≡ negated_divisor (exprs_of Whole terms)
not_one [] differ = refl
not_one (a ∷ []) differ = absurd (differ refl)
not_one (a ∷ b ∷ rest) differ = negated_two (expr_of Whole a) (expr_of Whole b) (exprs_of Whole rest)

-- a list of one term
pub only : {T : Type 0} (terms : List (Term T ℤ)) (term : Term T ℤ) → length terms ≡ 1 → term ≡ get_or terms 0 term → more (expr_of Whole term) none ≡ exprs_of Whole terms
only [] term one is = absurd (omega (arith, one))
only {T} (a ∷ []) term one is = ap (λ (t : Term T ℤ). more (expr_of Whole t) none) is
only (a ∷ b ∷ rest) term one is = absurd (omega (arith, one))

pub of_negated : (value : Val) → value_negated value ≡ negated_divisor (more (Constant value) none)
of_negated (Truth truth) = refl
of_negated (Whole number) = refl
of_negated (Bits width number) = refl

pub of_value : (value : Val) → value_nonzero value ≡ divisor (Constant value)
unfolding divisor
of_value (Truth truth) = refl
of_value (Whole number) = refl
of_value (Bits width number) = refl

pub of_negation : {T : Type 0} (operator : Op) (terms given : List (Term T ℤ)) → given ≡ terms → is_negation operator ≡ true → negated_divisor (exprs_of Whole given) ≡ divisor (Apply operator (exprs_of Whole terms))
unfolding divisor
of_negation operator terms given same is = rw is (ap (λ ts. negated_divisor (exprs_of Whole ts)) same)

pub of_other : (operator : Op) (arguments : Exprs) → is_negation operator ≡ false → None ≡ divisor (Apply operator arguments)
unfolding divisor
of_other operator arguments is = rw is refl

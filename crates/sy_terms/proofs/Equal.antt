-- Operators, and functions that a term calls, that compare as equal are the same.
use Rattle.std.proofs.Common.{◌≡◌, refl, sym, ap, ◌∙◌, ℕ, Bool, true, false, ◌&&◌, List, [], ◌∷◌, nat_eq}
use Rattle.std.proofs.lemmas.Bool.{eqb-true}
use Rattle.std.specs.Cmp.{first_so, second_so}
use mathlib.Core.Bool.{true≢false}
use mathlib.Core.Logic.{inl, inr}
use denote.Struct.Field.{Field}
use denote.Struct.Values.{Values}
use denote.Enum.Declared.{Choice, values_one}
use denote.Enum.Compared.{Each, by}
use Rattle.sy_terms.specs.declared.op.Op.{Op}
use Rattle.sy_terms.specs.contracts.op.Op as op
use Rattle.sy_terms.specs.contracts.op.OpPartialEq.TheImpl as ops
use Rattle.sy_terms.specs.contracts.op.OpEq.TheImpl.Laws.{laws-law as op_laws}
use Rattle.sy_terms.specs.declared.term.Fun.{Fun}
use Rattle.sy_terms.specs.contracts.term.Fun as fun
use Rattle.sy_terms.specs.contracts.term.FunPartialEq.TheImpl as funs
use Rattle.sy_terms.specs.contracts.term.FunEq.TheImpl.Laws.{laws-law as fun_laws}

-- at each variant, fields that compare as equal are the same
abbrev Exact : (fields : List (List Field)) → Each Bool fields → Type 0
Exact [] each = Unit {0}
Exact (f ∷ fields) each = ((x y : Values f) → each.0 x y ≡ true → x ≡ y) × Exact fields each.1

same_choice : (fields : List (List Field)) (each : Each Bool fields) → Exact fields each → (c d : Choice fields) → by false false fields each c d ≡ true → c ≡ d
same_choice [] each exact c d e = absurd c
same_choice (f ∷ fields) each exact (inl x) (inl y) e = ap inl (exact.0 x y e)
same_choice (f ∷ fields) each exact (inl x) (inr d) e = absurd (true≢false (sym e))
same_choice (f ∷ fields) each exact (inr c) (inl y) e = absurd (true≢false (sym e))
same_choice (f ∷ fields) each exact (inr c) (inr d) e = ap inr (same_choice fields each.1 exact.1 c d e)

bare : (x y : Unit {0}) → true ≡ true → x ≡ y
bare x y e = refl

one : (x y : ℕ × Unit {0}) → nat_eq x.0 y.0 ≡ true → x ≡ y
one x y e = let first = eqb-true x.0 y.0 e in λ i. (first i, tt)

two : (x y : ℕ × (ℕ × Unit {0})) → (nat_eq x.0 y.0 && nat_eq x.1.0 y.1.0) ≡ true → x ≡ y
two x y e =
    let first = eqb-true x.0 y.0 (first_so (nat_eq x.0 y.0) (nat_eq x.1.0 y.1.0) e) in
    let second = eqb-true x.1.0 y.1.0 (second_so (nat_eq x.0 y.0) (nat_eq x.1.0 y.1.0) e) in
    λ i. (first i, (second i, tt))

abbrev compared : Each Bool op.enum.parts
compared = (λ x y. true, (λ x y. true, (λ x y. true, (λ x y. true, (λ x y. true, (λ x y. true, (λ x y. true, (λ x y. true, (λ x y. true, (λ x y. true, (λ x y. true, (λ x y. true, (λ x y. true, (λ x y. true, (λ x y. true, (λ x y. true, (λ x y. true, (λ x y. true, (λ x y. true, (λ x y. true, (λ x y. nat_eq x.0 y.0 && nat_eq x.1.0 y.1.0, (λ x y. true, (λ x y. true, (λ x y. true, (λ x y. true, (λ x y. true, (λ x y. true, (λ x y. true, (λ x y. true, (λ x y. true, (λ x y. true, (λ x y. true, (λ x y. true, (λ x y. true, (λ x y. true, (λ x y. true, (λ x y. true, (λ x y. true, (λ x y. true, (λ x y. true, (λ x y. true, (λ x y. nat_eq x.0 y.0, (λ x y. nat_eq x.0 y.0, (λ x y. nat_eq x.0 y.0, (λ x y. nat_eq x.0 y.0, (λ x y. nat_eq x.0 y.0, (λ x y. true, (λ x y. true, (λ x y. true, (λ x y. true, (λ x y. true, (λ x y. true, (λ x y. true, (λ x y. true, tt))))))))))))))))))))))))))))))))))))))))))))))))))))))

pub same_operator : (a b : Op) → ops.ghosts.eq a b ≡ true → a ≡ b
same_operator a b e = values_one op.enum a b (same_choice op.enum.parts compared each (op.as_values a) (op.as_values b) e)
  where
    each : Exact op.enum.parts compared
    each = (bare, (bare, (bare, (bare, (bare, (bare, (bare, (bare, (bare, (bare, (bare, (bare, (bare, (bare, (bare, (bare, (bare, (bare, (bare, (bare, (two, (bare, (bare, (bare, (bare, (bare, (bare, (bare, (bare, (bare, (bare, (bare, (bare, (bare, (bare, (bare, (bare, (bare, (bare, (bare, (bare, (one, (one, (one, (one, (one, (bare, (bare, (bare, (bare, (bare, (bare, (bare, (bare, tt))))))))))))))))))))))))))))))))))))))))))))))))))))))

pub same_function : (f g : Fun) → funs.ghosts.eq f g ≡ true → f ≡ g
same_function f g e = values_one fun.enum f g (same_choice fun.enum.parts (λ x y. nat_eq x.0 y.0, (λ x y. nat_eq x.0 y.0, tt)) (one, (one, tt)) (fun.as_values f) (fun.as_values g) e)

operator_again : (a : Op) → ops.ghosts.eq a a ≡ true
operator_again a = op_laws.refl a

function_again : (f : Fun) → funs.ghosts.eq f f ≡ true
function_again f = fun_laws.refl f

pub operator_is : (a b : Op) → a ≡ b → ops.ghosts.eq a b ≡ true
operator_is a b same = ap (ops.ghosts.eq a) (sym same) ∙ operator_again a

pub function_is : (f g : Fun) → f ≡ g → funs.ghosts.eq f g ≡ true
function_is f g same = ap (funs.ghosts.eq f) (sym same) ∙ function_again f

-- Chains of terms, two at a time from the left.
use Rattle.std.proofs.Common.{◌≡◌, ◌≤◌, ◌-◌, true, List, [], ◌∷◌, ◌++◌, length, get_or, take, drop, arith, refl, ap, sym, ◌∙◌}
use Rattle.std.proofs.lemmas.List.{take_all}
use Rattle.sy_terms.specs.Values.{Val}
use Rattle.sy_terms.specs.Operators.{op_value}
use Rattle.sy_terms.specs.Expr.{Expr, Exprs, Apply, Bind, more, none}
use Rattle.sy_terms.specs.Denoted.{expr_of, exprs_of}
use Rattle.sy_terms.specs.Meaning.{meaning, meanings}
use Rattle.sy_terms.specs.declared.op.Op.{Op}
use Rattle.sy_terms.specs.declared.term.Term.{Term}
use Rattle.sy_meaning_words.specs.Vectors.{is_folded}
use Rattle.sy_rewrite_orders.proofs.TermsLaws.{last-folded}
use Rattle.sy_query_normal.proofs.Terms.{last_one}

-- what the operator gives at arguments that mean the same
pub applied_paired : (operator : Op) (found : Expr) (arguments others : Exprs) → ((values : List Val) → meaning [] [] values found ≡ op_value operator (meanings [] [] values arguments)) →
    ((values : List Val) → meanings [] [] values arguments ≡ meanings [] [] values others) → (values : List Val) → meaning [] [] values found ≡ meaning [] [] values (Apply operator others)
unfolding meaning
applied_paired operator found arguments others is are values = is values ∙ ap (op_value operator) (are values)

pub application_is : (operator : Op) (found : Expr) (arguments : Exprs) → found ≡ Apply operator arguments → (values : List Val) → meaning [] [] values found ≡ op_value operator (meanings [] [] values arguments)
unfolding meaning
application_is operator found arguments is values = ap (meaning [] [] values) is

-- a let of terms that mean the same
pub bound_paired : (bound others : Exprs) (inner other : Expr) → ((values : List Val) → meanings [] [] values bound ≡ meanings [] [] values others) →
    ((values : List Val) → meaning [] [] values inner ≡ meaning [] [] values other) → (values : List Val) → meaning [] [] values (Bind bound inner) ≡ meaning [] [] values (Bind others other)
unfolding meaning
bound_paired bound others inner other are is values =
    is (values ++ meanings [] [] values bound) ∙ ap (λ (found : List Val). meaning [] [] (values ++ found) other) (are values)

-- lists with one term more
pub next_paired : {T N : Type 0} (number : N → Val) (found others : List (Term T N)) (term other : Term T N) → ((values : List Val) → meanings [] [] values (exprs_of number found) ≡ meanings [] [] values (exprs_of number others)) →
    ((values : List Val) → meaning [] [] values (expr_of number term) ≡ meaning [] [] values (expr_of number other)) → (values : List Val) → meanings [] [] values (exprs_of number (found ++ term ∷ [])) ≡ meanings [] [] values (exprs_of number (others ++ other ∷ []))
next_paired number found others term other are is values =
    rw (last_one number values found term, last_one number values others other, are values, is values) refl

-- a chain of two terms
pub first_folded : (operator : Op) (first second found : Expr) → found ≡ Apply operator (more first (more second none)) → (values : List Val) → meaning [] [] values found ≡ op_value operator (meaning [] [] values first ∷ meaning [] [] values second ∷ [])
unfolding meaning meanings
first_folded operator first second found is values = ap (meaning [] [] values) is

-- a chain with one term more
pub next_folded : {T N : Type 0} (number : N → Val) (operator : Op) (first second whole found : Expr) (terms : List (Term T N)) (last : Term T N) → is_folded operator ≡ true →
    ((values : List Val) → meaning [] [] values whole ≡ op_value operator (meaning [] [] values first ∷ meaning [] [] values second ∷ meanings [] [] values (exprs_of number terms))) →
    found ≡ Apply operator (more whole (more (expr_of number last) none)) →
    (values : List Val) → meaning [] [] values found ≡ op_value operator (meaning [] [] values first ∷ meaning [] [] values second ∷ meanings [] [] values (exprs_of number (terms ++ last ∷ [])))
next_folded number operator first second whole found terms last folded before is values =
    first_folded operator whole (expr_of number last) found is values
    ∙ ap (λ (v : Val). op_value operator (v ∷ meaning [] [] values (expr_of number last) ∷ [])) (before values)
    ∙ sym (last-folded operator (meaning [] [] values first) (meaning [] [] values second) (meaning [] [] values (expr_of number last)) (meanings [] [] values (exprs_of number terms)) folded)
    ∙ ap (λ (list : List Val). op_value operator (meaning [] [] values first ∷ meaning [] [] values second ∷ list)) (sym (last_one number values terms last))

-- a list by its first two terms and the rest
pub first_two : {T N : Type 0} (number : N → Val) (values : List Val) (terms : List (Term T N)) (first second : Term T N) → 2 ≤ length terms → first ≡ get_or terms 0 first → second ≡ get_or terms 1 second →
    meaning [] [] values (expr_of number first) ∷ meaning [] [] values (expr_of number second) ∷ meanings [] [] values (exprs_of number (take (length terms - 2) (drop 2 terms))) ≡ meanings [] [] values (exprs_of number terms)
unfolding meanings
first_two number values [] first second many at also = absurd (omega (arith, many))
first_two number values (x ∷ []) first second many at also = absurd (omega (arith, many))
first_two number values (x ∷ y ∷ rest) first second many at also =
    let all = take_all (length (x ∷ y ∷ rest) - 2) rest (omega arith) in
    rw (all, at, also) refl

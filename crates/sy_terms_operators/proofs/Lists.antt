-- What evaluation finds of a list of terms, term by term, and how many nodes stand in terms and definitions.
use Rattle.std.specs.Prelude.{ℕ, zero, suc, ◌+◌, ◌<◌, ◌≤◌, Bool, true, false, ◌&&◌, List, [], ◌∷◌, ◌++◌, ◌≡◌, refl, slice_get, Some, map}
use Rattle.std.proofs.Common.{arith, ap, ◌∙◌, sym, subst, take}
use Rattle.std.proofs.lemmas.Option.{none-some}
use Rattle.std.proofs.lemmas.List.Elements.{All-push, All-nil}
use Rattle.sy_terms.specs.Values.{Val}
use Rattle.sy_terms.specs.Expr.{nodes, nodes_of}
use Rattle.sy_terms.specs.Denoted.{expr_of, exprs_of}
use Rattle.sy_terms.specs.Theories.{sort_of_value, valid}
use Rattle.sy_terms.specs.Meaning.{Function, meaning, meanings, computable, all_computable}
use Rattle.sy_terms.specs.Fitting.{Scope, sort_in, sorts_in}
use Rattle.sy_terms.specs.Definitions.{body}
use Rattle.sy_terms.specs.declared.sort.Sort.{Sort}
use Rattle.sy_terms.specs.declared.term.Term.{Term}
use Rattle.sy_terms.specs.declared.term.Def.{Def}
use Rattle.sy_terms_operators.specs.Evaluation.{TermFits, TermsFit, HasValue, HaveValues}
use Rattle.sy_terms_operators.proofs.Equations.{with_sort_Some, both_true}

pub HaveValues-none : (T : Type 0) {N : Type 0} (number : N → Val) (scope : Scope) (defined wanted : List Function) (values : List Val) → let terms : List (Term T N) = [] in HaveValues scope defined wanted values (exprs_of number terms) []
unfolding sorts_in all_computable meanings
HaveValues-none T number scope defined wanted values = record { valid = All-nil (λ v. valid v ≡ true); sorts = refl; computable = refl; meanings = refl }

sorts_in-last : {T N : Type 0} (number : N → Val) (scope : Scope) (ts : List Sort) (terms : List (Term T N)) (last : Term T N) (found : List Sort) (s : Sort) → sorts_in scope ts (exprs_of number terms) ≡ Some found → sort_in scope ts (expr_of number last) ≡ Some s → sorts_in scope ts (exprs_of number (terms ++ last ∷ [])) ≡ Some (found ++ s ∷ [])
unfolding sorts_in
sorts_in-last number scope ts [] last found s e h =
    let none_found : [] ≡ found = cc in
    rw (h, ← none_found) refl
sorts_in-last number scope ts (t ∷ terms) last found s e h =
    let parts = with_sort_Some (sort_in scope ts (expr_of number t)) (sorts_in scope ts (exprs_of number terms)) found e in
    rw (parts.first_is, sorts_in-last number scope ts terms last parts.sorts s parts.rest_is h) (ap (λ (all : List Sort). Some (all ++ s ∷ [])) parts.whole_is)

computable-last : {T N : Type 0} (number : N → Val) (defined wanted : List Function) (values : List Val) (terms : List (Term T N)) (last : Term T N) → all_computable defined wanted values (exprs_of number terms) ≡ true → computable defined wanted values (expr_of number last) ≡ true → all_computable defined wanted values (exprs_of number (terms ++ last ∷ [])) ≡ true
unfolding all_computable
computable-last number defined wanted values [] last e h = rw h refl
computable-last number defined wanted values (t ∷ terms) last e h =
    let both = both_true (computable defined wanted values (expr_of number t)) (all_computable defined wanted values (exprs_of number terms)) e in
    rw (both.0) (computable-last number defined wanted values terms last both.1 h)

meanings-last : {T N : Type 0} (number : N → Val) (defined wanted : List Function) (values : List Val) (terms : List (Term T N)) (last : Term T N) → meanings defined wanted values (exprs_of number (terms ++ last ∷ [])) ≡ meanings defined wanted values (exprs_of number terms) ++ meaning defined wanted values (expr_of number last) ∷ []
unfolding meanings
meanings-last number defined wanted values [] last = refl
meanings-last number defined wanted values (t ∷ terms) last = ap (λ (rest : List Val). meaning defined wanted values (expr_of number t) ∷ rest) (meanings-last number defined wanted values terms last)

map-last : (xs : List Val) (x : Val) → map sort_of_value (xs ++ x ∷ []) ≡ map sort_of_value xs ++ sort_of_value x ∷ []
map-last [] x = refl
map-last (y ∷ xs) x = ap (λ (rest : List Sort). sort_of_value y ∷ rest) (map-last xs x)

pub HaveValues-last : {T N : Type 0} (number : N → Val) {scope : Scope} {defined wanted : List Function} {values : List Val} (terms : List (Term T N)) (last : Term T N) {found : List Val} {value : Val} → HaveValues scope defined wanted values (exprs_of number terms) found → HasValue scope defined wanted values (expr_of number last) value → HaveValues scope defined wanted values (exprs_of number (terms ++ last ∷ [])) (found ++ value ∷ [])
HaveValues-last number {scope = scope} {defined = defined} {wanted = wanted} {values = values} terms last {found = found} {value = value} have has = record {
  valid = All-push (λ v. valid v ≡ true) found value have.valid has.valid;
  sorts = sorts_in-last number scope (map sort_of_value values) terms last (map sort_of_value found) (sort_of_value value) have.sorts has.sort ∙ ap Some (sym (map-last found value));
  computable = computable-last number defined wanted values terms last have.computable has.computable;
  meanings = ap (λ (rest : List Val). rest ++ value ∷ []) have.meanings ∙ ap (λ (v : Val). meanings defined wanted values (exprs_of number terms) ++ v ∷ []) has.meaning ∙ sym (meanings-last number defined wanted values terms last);
}

-- each term of a list that fits does
pub TermsFit-at : {T N : Type 0} (number : N → Val) {scope : Scope} {values : List Val} (terms : List (Term T N)) (i : ℕ) (term : Term T N) → TermsFit scope values (exprs_of number terms) → slice_get terms i ≡ Some term → TermFits scope values (expr_of number term)
unfolding sorts_in
TermsFit-at number [] i term fit e = absurd (none-some term e)
TermsFit-at {T} {N} number {scope} {values} (t ∷ terms) zero term fit e =
    let parts = with_sort_Some (sort_in scope (map sort_of_value values) (expr_of number t)) (sorts_in scope (map sort_of_value values) (exprs_of number terms)) fit.sorts fit.is in
    let same : t ≡ term = cc in
    subst (λ (u : Term T N). TermFits scope values (expr_of number u)) same (record { sort = parts.sort; is = parts.first_is })
TermsFit-at number {scope} {values} (t ∷ terms) (suc i) term fit e =
    let parts = with_sort_Some (sort_in scope (map sort_of_value values) (expr_of number t)) (sorts_in scope (map sort_of_value values) (exprs_of number terms)) fit.sorts fit.is in
    TermsFit-at number terms i term (record { sorts = parts.sorts; is = parts.rest_is }) e

false_right : (a : Bool) → (a && false) ≡ false
false_right true = refl
false_right false = refl

-- one term that doesn't compute spoils the list
pub all_computable-not : {T N : Type 0} (number : N → Val) (defined wanted : List Function) (values : List Val) (terms : List (Term T N)) (i : ℕ) (term : Term T N) → slice_get terms i ≡ Some term → computable defined wanted values (expr_of number term) ≡ false → all_computable defined wanted values (exprs_of number terms) ≡ false
unfolding all_computable
all_computable-not number defined wanted values [] i term e h = absurd (none-some term e)
all_computable-not {T} {N} number defined wanted values (t ∷ terms) zero term e h =
    let same : t ≡ term = cc in
    rw (same, h) refl
all_computable-not number defined wanted values (t ∷ terms) (suc i) term e h =
    rw (all_computable-not number defined wanted values terms i term e h) (false_right (computable defined wanted values (expr_of number t)))

-- the nodes of a term of a list
pub nodes_of-at : {T N : Type 0} (number : N → Val) (terms : List (Term T N)) (i : ℕ) (term : Term T N) → slice_get terms i ≡ Some term → nodes (expr_of number term) ≤ nodes_of (exprs_of number terms)
nodes_of-at number [] i term e = absurd (none-some term e)
nodes_of-at number (t ∷ terms) zero term e =
    let same : t ≡ term = cc in
    rw same (omega arith)
nodes_of-at number (t ∷ terms) (suc i) term e = omega (arith, nodes_of-at number terms i term e)

-- the nodes of the bodies, and one for each definition
abbrev pub weight : {T N : Type 0} → (N → Val) → List (Def T N) → ℕ
weight number [] = 0
weight number (def ∷ defs) = nodes (body number def) + 1 + weight number defs

pub weight-at : {T N : Type 0} (number : N → Val) (defs : List (Def T N)) (n : ℕ) (def : Def T N) → slice_get defs n ≡ Some def → nodes (body number def) + weight number (take n defs) < weight number defs
weight-at number [] n def e = absurd (none-some def e)
weight-at number (x ∷ defs) zero def e =
    let same : x ≡ def = cc in
    rw same (omega arith)
weight-at number (x ∷ defs) (suc n) def e = omega (arith, weight-at number defs n def e)

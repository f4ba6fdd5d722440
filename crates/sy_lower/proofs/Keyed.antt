-- Keys of lists of terms, one term after the other.
use Rattle.std.specs.Prelude.{ℕ, ◌+◌, ◌<◌, ◌≤◌, List, ℤ, length, ◌≡◌, refl}
use Rattle.std.proofs.Common.{ap, sym, ◌∙◌, get_or, drop}
use Rattle.std.proofs.lemmas.List.{drop_all}
use Rattle.sy_terms.specs.Values.{Whole}
use Rattle.sy_terms.specs.Expr.{Expr, Exprs, none, more}
use Rattle.sy_terms.specs.Denoted.{expr_of, exprs_of}
use Rattle.sy_terms.specs.declared.term.Term.{Term}
use Rattle.sy_lower.specs.Codes.{term_key, terms_key}
use Rattle.sy_lower.proofs.Lists.{dropped}

first_key : (key : ℕ) (first : Expr) (rest : Exprs) → terms_key key (more first rest) ≡ terms_key (term_key key first) rest
unfolding terms_key
first_key key first rest = refl

last_key : (key : ℕ) → terms_key key none ≡ key
unfolding terms_key
last_key key = refl

pub next_key : {T : Type 0} (terms : List (Term T ℤ)) (i : ℕ) (term : Term T ℤ) (key next all : ℕ) → i < length terms → term ≡ get_or terms i term → next ≡ term_key key (expr_of Whole term) → terms_key key (exprs_of Whole (drop i terms)) ≡ all →
    terms_key next (exprs_of Whole (drop (i + 1) terms)) ≡ all
next_key terms i term key next all within is step left =
    ap (λ k. terms_key k (exprs_of Whole (drop (i + 1) terms))) step ∙ sym (first_key key (expr_of Whole term) (exprs_of Whole (drop (i + 1) terms))) ∙ sym (ap (terms_key key) (dropped terms i term within is)) ∙ left

pub all_keyed : {T : Type 0} (terms : List (Term T ℤ)) (i : ℕ) (key all : ℕ) → length terms ≤ i → terms_key key (exprs_of Whole (drop i terms)) ≡ all → key ≡ all
all_keyed {T} terms i key all beyond left = sym (last_key key) ∙ sym (ap (λ (ts : List (Term T ℤ)). terms_key key (exprs_of Whole ts)) (drop_all i terms beyond)) ∙ left

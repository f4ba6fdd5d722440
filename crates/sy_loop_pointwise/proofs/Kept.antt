-- What is known of the applications within more subterms.
use Rattle.std.specs.Prelude.{ℕ, ◌+◌, ◌<◌, List, [], ◌∷◌, ◌++◌, ◌≡◌, refl, length}
use Rattle.std.proofs.Common.{ap, sym, ◌∙◌, subst, get_or, take, inl, inr, slice_get}
use Rattle.std.proofs.lemmas.Option.{none-some, slice_get-get_or}
use Rattle.std.proofs.lemmas.List.{append-nil, take_more}
use Rattle.sy_terms.specs.Values.{Val}
use Rattle.sy_terms.specs.Expr.{Expr, Exprs, Constant, Variable, Apply, Invoke, none, more}
use Rattle.sy_terms.specs.declared.op.Op.{Op}
use Rattle.sy_terms.specs.declared.term.Fun.TheVariants.{Defined}
use Rattle.sy_loop_spec.specs.Applications.{applications, all_applications}
use Rattle.sy_loop_spec.proofs.Applied.{applications_append}
use Rattle.sy_loop_pointwise.specs.Shapes.{term_of, terms_of}
use Rattle.sy_loop_pointwise.proofs.Lists.{at_more}
use Rattle.sy_loop_pointwise.proofs.Numbered.{terms_of-append}
use Rattle.sy_loop_pointwise.specs.Asked.{AreApplications, AreKnown}
use Rattle.sy_loop_pointwise.specs.declared.asks.Asks.{Asks}

pub known_nothing : (terms : List Expr) → AreKnown terms []
known_nothing terms number own at = absurd (none-some own at)

pub known_more : (terms : List Expr) (asks : List Asks) (next : Asks) → AreKnown terms asks → AreApplications terms (applications (term_of terms (length asks))) next → AreKnown terms (asks ++ next ∷ [])
known_more terms asks next known is number own at = elim (at_more asks next number own at) [
  | inl before ↦ known number own before
  | inr end ↦ subst (λ (o : Asks). AreApplications terms (applications (term_of terms number)) o) end.1 (subst (λ n. AreApplications terms (applications (term_of terms n)) next) (sym end.0) is)
]

-- what stands within a term, by its parts
pub within_constant : (term : Expr) (value : Val) → term ≡ Constant value → applications term ≡ []
unfolding applications
within_constant term value is = ap applications is

pub within_variable : (term : Expr) (position : ℕ) → term ≡ Variable position → applications term ≡ []
unfolding applications
within_variable term position is = ap applications is

pub within_operator : (terms : List Expr) (term : Expr) (operator : Op) (arguments : Exprs) (own : Asks) → term ≡ Apply operator arguments → AreApplications terms (all_applications arguments) own → AreApplications terms (applications term) own
unfolding applications
within_operator terms term operator arguments own is asked = subst (λ all. AreApplications terms all own) (sym (ap applications is)) asked

pub within_defined : (terms : List Expr) (term : Expr) (function : ℕ) (arguments : Exprs) (own : Asks) → term ≡ Invoke (Defined function) arguments → AreApplications terms (all_applications arguments) own → AreApplications terms (applications term) own
unfolding applications
within_defined terms term function arguments own is asked = subst (λ all. AreApplications terms all own) (sym (ap applications is)) asked

-- what is known of the term of this number
pub known_at : (terms : List Expr) (asks slice : List Asks) (number : ℕ) (term : Expr) (default own : Asks) → slice ≡ asks → AreKnown terms asks → number < length slice → term_of terms number ≡ term → get_or slice number default ≡ own →
    AreApplications terms (applications term) own
known_at terms asks slice number term default own same known within is at =
    subst (λ (o : Asks). AreApplications terms (applications term) o) at
    (subst (λ e. AreApplications terms (applications e) (get_or slice number default)) is (subst (AreKnown terms) (sym same) known number (get_or slice number default) (slice_get-get_or slice number default within)))

-- what stands within no terms
pub asked_nothing : all_applications none ≡ []
unfolding all_applications
asked_nothing = refl

-- what stands within the terms of one number more
pub asked_more : (terms : List Expr) (numbers : List ℕ) (i number : ℕ) → i < length numbers → number ≡ get_or numbers i 0 →
    all_applications (terms_of terms (take (i + 1) numbers)) ≡ all_applications (terms_of terms (take i numbers)) ++ applications (term_of terms number)
unfolding all_applications
asked_more terms numbers i number within is =
    ap (λ taken. all_applications (terms_of terms taken)) (take_more numbers i 0 within ∙ ap (λ n. take i numbers ++ n ∷ []) (sym is)) ∙
    ap all_applications (terms_of-append terms (take i numbers) (number ∷ [])) ∙
    applications_append (terms_of terms (take i numbers)) (more (term_of terms number) none) ∙
    ap (λ rest. all_applications (terms_of terms (take i numbers)) ++ rest) (append-nil (applications (term_of terms number)))

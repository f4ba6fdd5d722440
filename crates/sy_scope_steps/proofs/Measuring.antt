-- Measures of terms and of definitions' bodies.
use Rattle.std.proofs.Common.{◌≡◌, ◌+◌, ◌<◌, ◌≤◌, ◌∙◌, refl, sym, ap, arith, ℕ, List, [], ◌∷◌, ◌++◌, length, get_or, drop}
use Rattle.std.specs.Prelude.{max}
use Rattle.std.proofs.lemmas.List.{drop_more, drop_all}
use Rattle.sy_terms.specs.Values.{Val}
use Rattle.sy_terms.specs.Definitions.{body, bodies}
use Rattle.sy_terms.specs.Denoted.{expr_of, exprs_of}
use Rattle.sy_terms.specs.declared.term.Def.{Def}
use Rattle.sy_terms.specs.declared.term.Term.{Term}
use Rattle.sy_forms_items.specs.Measures.{Measures, of_body, unfolded_size, unfolded_sizes, unfolded_depth, unfolded_depths}
use Rattle.sy_forms_items.specs.Phrases as phrase
use Rattle.sy_forms_items.specs.Phrases.{Phrase, Phrases, expr_at, exprs_at}
use Rattle.sy_scope_steps.specs.Sizes.{expr_size, expr_sizes, expr_depth, expr_depths, measured_with, measured_behind}

-- a list with one term more
pub sizes-last : {T N : Type 0} (number : N → Val) (sizes : List ℕ) (terms : List (Term T N)) (last : Term T N) →
    expr_sizes sizes (exprs_of number (terms ++ last ∷ [])) ≡ expr_sizes sizes (exprs_of number terms) + expr_size sizes (expr_of number last)
unfolding expr_size expr_sizes
sizes-last number sizes [] last = omega arith
sizes-last number sizes (term ∷ terms) last = omega (arith, sizes-last number sizes terms last)

pub depths-last : {T N : Type 0} (number : N → Val) (depths : List ℕ) (terms : List (Term T N)) (last : Term T N) →
    expr_depths depths (exprs_of number (terms ++ last ∷ [])) ≡ max (expr_depths depths (exprs_of number terms)) (expr_depth depths (expr_of number last))
unfolding expr_depth expr_depths
depths-last number depths [] last = grind arith
depths-last number depths (term ∷ terms) last = rw (depths-last number depths terms last) (grind arith)

-- bodies that are left, after one more
pub measured_more : {T N : Type 0} (number : N → Val) (before now all : Measures) (defs : List (Def T N)) (i : ℕ) (def : Def T N) → i < length defs → def ≡ get_or defs i def → now ≡ measured_with before (body number def) →
    measured_behind before (bodies number (drop i defs)) ≡ all → measured_behind now (bodies number (drop (i + 1) defs)) ≡ all
unfolding measured_behind
measured_more number before now all defs i def within is same left =
    let first : drop i defs ≡ def ∷ drop (i + 1) defs = drop_more defs i def within ∙ ap (λ d. d ∷ drop (i + 1) defs) (sym is) in
    ap (λ m. measured_behind m (bodies number (drop (i + 1) defs))) same ∙ sym (ap (λ ds. measured_behind before (bodies number ds)) first) ∙ left

-- and after all
pub measured_all : {T N : Type 0} (number : N → Val) (now all : Measures) (defs : List (Def T N)) (i : ℕ) → length defs ≤ i → measured_behind now (bodies number (drop i defs)) ≡ all → now ≡ all
unfolding measured_behind
measured_all number now all defs i past left = sym (ap (λ ds. measured_behind now (bodies number ds)) (drop_all i defs past)) ∙ left

-- the term of a phrase has the phrase's size
mutual
  unfolding expr_size expr_sizes expr_at exprs_at unfolded_size unfolded_sizes

  pub size_at : (sizes : List ℕ) (outside : ℕ) (it : Phrase) → expr_size sizes (expr_at outside it) ≡ unfolded_size sizes it
  size_at sizes outside (phrase.Literal value) = refl
  size_at sizes outside (phrase.Position position) = refl
  size_at sizes outside (phrase.Local level) = refl
  size_at sizes outside (phrase.Nonterminal number) = refl
  size_at sizes outside (phrase.Operation operator arguments) = ap (λ n. n + 1) (sizes_at sizes outside arguments)
  size_at sizes outside (phrase.Invocation function arguments) = ap (λ n. n + of_body sizes function + 1) (sizes_at sizes outside arguments)
  size_at sizes outside (phrase.Let bound inner) = λ k. sizes_at sizes outside bound k + size_at sizes outside inner k + 1

  sizes_at : (sizes : List ℕ) (outside : ℕ) (all : Phrases) → expr_sizes sizes (exprs_at outside all) ≡ unfolded_sizes sizes all
  sizes_at sizes outside phrase.none = refl
  sizes_at sizes outside (phrase.more first rest) = λ k. size_at sizes outside first k + sizes_at sizes outside rest k

-- and its depth
mutual
  unfolding expr_depth expr_depths expr_at exprs_at unfolded_depth unfolded_depths

  pub depth_at : (depths : List ℕ) (outside : ℕ) (it : Phrase) → expr_depth depths (expr_at outside it) ≡ unfolded_depth depths it
  depth_at depths outside (phrase.Literal value) = refl
  depth_at depths outside (phrase.Position position) = refl
  depth_at depths outside (phrase.Local level) = refl
  depth_at depths outside (phrase.Nonterminal number) = refl
  depth_at depths outside (phrase.Operation operator arguments) = ap (λ n. n + 1) (depths_at depths outside arguments)
  depth_at depths outside (phrase.Invocation function arguments) = ap (λ n. max n (of_body depths function) + 1) (depths_at depths outside arguments)
  depth_at depths outside (phrase.Let bound inner) = λ k. max (depths_at depths outside bound k) (depth_at depths outside inner k) + 1

  depths_at : (depths : List ℕ) (outside : ℕ) (all : Phrases) → expr_depths depths (exprs_at outside all) ≡ unfolded_depths depths all
  depths_at depths outside phrase.none = refl
  depths_at depths outside (phrase.more first rest) = λ k. max (depth_at depths outside first k) (depths_at depths outside rest k)

-- Items of lists, as they grow and change; and a grammar's rules.
use Rattle.std.proofs.Common.{◌≡◌, ℕ, zero, suc, ◌<◌, List, [], ◌∷◌, ◌++◌, length, map, refl, ap, ◌∙◌, arith, Some, slice_get, set, ◌⊎◌, inl, inr}
use Rattle.std.specs.Option.{option_map}
use Rattle.std.proofs.lemmas.Option.{slice_get-map}
use Rattle.sy_terms.specs.Values.{Val}
use Rattle.sy_grammar_base.specs.Trees.{rule_at, rule_of}
use Rattle.sy_grammar_base.specs.Grown.{production_of, nonterminal_of, syntax_from}
use Rattle.sy_grammar_base.specs.declared.grammar.Non.{Non}
use Rattle.sy_grammar_base.specs.declared.grammar.Grammar.{Grammar}

pub get-last : {A : Type 0} (xs : List A) (last : A) (i : ℕ) (x : A) → slice_get (xs ++ last ∷ []) i ≡ Some x → (slice_get xs i ≡ Some x) ⊎ ((i ≡ length xs) × (x ≡ last))
get-last [] last zero x e = inr (refl, cc)
get-last [] last (suc i) x e = absurd cc
get-last (y ∷ xs) last zero x e = inl e
get-last (y ∷ xs) last (suc i) x e = elim (get-last xs last i x e) [ inl h ↦ inl h | inr h ↦ inr (omega (arith, h.0), h.1) ]

pub get-before : {A : Type 0} (xs : List A) (last : A) (i : ℕ) (x : A) → slice_get xs i ≡ Some x → slice_get (xs ++ last ∷ []) i ≡ Some x
get-before [] last i x e = absurd cc
get-before (y ∷ xs) last zero x e = e
get-before (y ∷ xs) last (suc i) x e = get-before xs last i x e

pub get-end : {A : Type 0} (xs : List A) (last : A) → slice_get (xs ++ last ∷ []) (length xs) ≡ Some last
get-end [] last = refl
get-end (y ∷ xs) last = get-end xs last

pub get-set : {A : Type 0} (xs : List A) (i j : ℕ) (x y : A) → slice_get (set xs i x) j ≡ Some y → ((j ≡ i) × (y ≡ x)) ⊎ (slice_get xs j ≡ Some y)
get-set [] i j x y e = inr e
get-set (z ∷ xs) zero zero x y e = inl (refl, cc)
get-set (z ∷ xs) zero (suc j) x y e = inr e
get-set (z ∷ xs) (suc i) zero x y e = inr e
get-set (z ∷ xs) (suc i) (suc j) x y e = elim (get-set xs i j x y e) [ inl h ↦ inl (omega (arith, h.0), h.1) | inr h ↦ inr h ]

pub get-set_here : {A : Type 0} (xs : List A) (i : ℕ) (x : A) → i < length xs → slice_get (set xs i x) i ≡ Some x
get-set_here [] i x h = absurd (omega arith)
get-set_here (z ∷ xs) zero x h = refl
get-set_here (z ∷ xs) (suc i) x h = get-set_here xs i x (omega arith)

-- what an item becomes
pub get-set_kept : {A : Type 0} (xs : List A) (i j : ℕ) (x y : A) → slice_get xs j ≡ Some y → ((j ≡ i) × (slice_get (set xs i x) j ≡ Some x)) ⊎ (slice_get (set xs i x) j ≡ Some y)
get-set_kept [] i j x y e = absurd cc
get-set_kept (z ∷ xs) zero zero x y e = inl (refl, refl)
get-set_kept (z ∷ xs) zero (suc j) x y e = inr e
get-set_kept (z ∷ xs) (suc i) zero x y e = inr e
get-set_kept (z ∷ xs) (suc i) (suc j) x y e = elim (get-set_kept xs i j x y e) [ inl h ↦ inl (omega (arith, h.0), h.1) | inr h ↦ inr h ]

pub mapped_at : {A B : Type 0} (f : A → B) (xs : List A) (i : ℕ) (x : A) → slice_get xs i ≡ Some x → slice_get (map f xs) i ≡ Some (f x)
mapped_at f xs i x at = slice_get-map f xs i ∙ ap (option_map f) at

pub rule_at-is : {T N : Type 0} (number : N → Val) (grammar : Grammar T N) (place rule : ℕ) (item : Non T N) → slice_get grammar.nons place ≡ Some item → rule_at (syntax_from number grammar) place rule ≡ slice_get (map (production_of number) item.rules) rule
rule_at-is number grammar place rule item at = ap (λ o. rule_of o rule) (mapped_at (nonterminal_of number) grammar.nons place item at)

pub mapped-last : {A B : Type 0} (f : A → B) (xs : List A) (last : A) → map f (xs ++ last ∷ []) ≡ map f xs ++ f last ∷ []
mapped-last f [] last = refl
mapped-last f (x ∷ xs) last = ap (λ l. f x ∷ l) (mapped-last f xs last)

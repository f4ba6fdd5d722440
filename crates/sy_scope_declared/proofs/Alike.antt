-- Lists that are seen alike, and sorts of values of functions that fit.
use Rattle.std.specs.Prelude.{ℕ, zero, suc, ◌+◌, ◌<◌, ◌≤◌, Bool, true, ◌&&◌, nat_le, nat_lt, ◌^◌, List, [], ◌∷◌, ◌++◌, map, length, slice_get, Some, ◌≡◌, refl, All}
use Rattle.std.specs.Option.{option_map}
use Rattle.std.specs.List.{list_all}
use Rattle.std.proofs.Common.{arith, ap, sym, ◌∙◌, subst, get_or, take}
use Rattle.std.proofs.lemmas.List.{take_more, take_all}
use Rattle.std.proofs.lemmas.List.Elements.{All-head, All-tail}
use Rattle.sy_terms.specs.Fitting.{Scope, Signature}
use Rattle.sy_terms.specs.declared.op.Op.{Op}
use Rattle.sy_terms.specs.declared.sort.Sort.{Sort}
use Rattle.sy_terms_operators.proofs.Equations.{both_true}
use Rattle.sy_grammar_base.specs.Fits.{with_functions, GoalFits}
use Rattle.sy_grammar_base.specs.Formed.{is_known, nonterminal_fits}
use Rattle.sy_grammar_base.specs.Questions.{Goal}
use Rattle.sy_grammar_base.specs.Trees.{Nonterminal, Syntax}

-- the start symbol of a well-formed grammar, and so the value of its function, has a sort of the theory
first_known : (numeric : Sort → Bool) (scope : Scope) (syntax : Syntax) (nonterminals : List Nonterminal) (sort : Sort) → list_all (nonterminal_fits numeric scope syntax) nonterminals ≡ true → option_map (λ (n : Nonterminal). n.sort) (slice_get nonterminals 0) ≡ Some sort
    → is_known numeric sort ≡ true
first_known numeric scope syntax [] sort fit at = absurd cc
first_known numeric scope syntax (n ∷ nonterminals) sort fit at =
    let same : n.sort ≡ sort = cc in
    let both = both_true (nonterminal_fits numeric scope syntax n) (list_all (nonterminal_fits numeric scope syntax) nonterminals) fit in
    let known = both_true (is_known numeric n.sort) _ both.0 in
    subst (λ s. is_known numeric s ≡ true) same known.0

pub value_known : (owned : Op → Bool) (numeric : Sort → Bool) (signatures : List Signature) (goal : Goal) → GoalFits owned numeric signatures goal → is_known numeric goal.signature.gives ≡ true
value_known owned numeric signatures goal fit =
    let scope = with_functions owned signatures [] in
    let syntax = goal.grammar in
    let all = both_true (nat_le 1 (length syntax.nonterminals) && nat_lt (length syntax.nonterminals) (2 ^ 31)) (list_all (is_known numeric) syntax.arguments && list_all (nonterminal_fits numeric scope syntax) syntax.nonterminals) fit.formed in
    first_known numeric scope syntax syntax.nonterminals goal.signature.gives (both_true (list_all (is_known numeric) syntax.arguments) (list_all (nonterminal_fits numeric scope syntax) syntax.nonterminals) all.1).1 fit.start

-- what holds of each that is seen so holds of one
pub holds_at : {A B C : Type 0} (P : C → Type 0) (f : B → C) (g : A → B) (xs : List A) (i : ℕ) (x : A) → i < length xs → x ≡ get_or xs i x → All P (map f (map g xs)) → P (f (g x))
holds_at P f g [] i x within read all = absurd (omega arith)
holds_at P f g (y ∷ xs) zero x within read all = subst (λ z. P (f (g z))) (sym read) (All-head P (f (g y)) (map f (map g xs)) all)
holds_at P f g (y ∷ xs) (suc i) x within read all = holds_at P f g xs i x (omega arith) read (All-tail P (f (g y)) (map f (map g xs)) all)

map_last : {A B : Type 0} (f : A → B) (xs : List A) (x : A) → map f (xs ++ x ∷ []) ≡ map f xs ++ f x ∷ []
map_last f [] x = refl
map_last f (y ∷ xs) x = ap (λ rest. f y ∷ rest) (map_last f xs x)

-- what was taken, with one more
taken_last : {A : Type 0} (xs : List A) (i : ℕ) (x : A) → i < length xs → x ≡ get_or xs i x → take (i + 1) xs ≡ take i xs ++ x ∷ []
taken_last xs i x within read = take_more xs i x within ∙ ap (λ y. take i xs ++ y ∷ []) (sym read)

-- what is seen of it, with one more
seen_last : {A B C : Type 0} (f : B → C) (g : A → B) (xs : List A) (i : ℕ) (x : A) → i < length xs → x ≡ get_or xs i x → map f (map g (take (i + 1) xs)) ≡ map f (map g (take i xs)) ++ f (g x) ∷ []
seen_last f g xs i x within read = ap (λ ys. map f (map g ys)) (taken_last xs i x within read) ∙ ap (map f) (map_last g (take i xs) x) ∙ map_last f (map g (take i xs)) (g x)

-- lists that are seen alike, with one more each
pub more_alike : {A B C D : Type 0} (h : D → C) (f : B → C) (g : A → B) (now done : List D) (d : D) (xs : List A) (i : ℕ) (x : A) → now ≡ done ++ d ∷ [] → i < length xs → x ≡ get_or xs i x → map h done ≡ map f (map g (take i xs)) → h d ≡ f (g x)
    → map h now ≡ map f (map g (take (i + 1) xs))
more_alike h f g now done d xs i x is within read same alike =
    ap (map h) is ∙ map_last h done d ∙ (λ k. same k ++ alike k ∷ []) ∙ sym (seen_last f g xs i x within read)

-- a list of what is seen, with one more
pub more_seen : {A B C : Type 0} (f : B → C) (g : A → B) (now done : List C) (d : C) (xs : List A) (i : ℕ) (x : A) → now ≡ done ++ d ∷ [] → i < length xs → x ≡ get_or xs i x → done ≡ map f (map g (take i xs)) → d ≡ f (g x)
    → now ≡ map f (map g (take (i + 1) xs))
more_seen f g now done d xs i x is within read same alike =
    is ∙ (λ k. same k ++ alike k ∷ []) ∙ sym (seen_last f g xs i x within read)

-- the same of what is seen at once
pub more_made : {A C : Type 0} (f : A → C) (now done : List C) (d : C) (xs : List A) (i : ℕ) (x : A) → now ≡ done ++ d ∷ [] → i < length xs → x ≡ get_or xs i x → done ≡ map f (take i xs) → d ≡ f x
    → now ≡ map f (take (i + 1) xs)
more_made f now done d xs i x is within read same alike =
    is ∙ (λ k. same k ++ alike k ∷ []) ∙ sym (ap (map f) (taken_last xs i x within read) ∙ map_last f (take i xs) x)

-- where no more is left, all is seen
pub all_seen : {A B C : Type 0} (f : B → C) (g : A → B) (made : List C) (xs : List A) (i : ℕ) → length xs ≤ i → made ≡ map f (map g (take i xs)) → made ≡ map f (map g xs)
all_seen f g made xs i past same = same ∙ ap (λ ys. map f (map g ys)) (take_all i xs past)

pub all_made : {A C : Type 0} (f : A → C) (made : List C) (xs : List A) (i : ℕ) → length xs ≤ i → made ≡ map f (take i xs) → made ≡ map f xs
all_made f made xs i past same = same ∙ ap (map f) (take_all i xs past)

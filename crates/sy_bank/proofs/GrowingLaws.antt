-- Lists of terms, of shared terms and of kept terms with one more.
use Rattle.std.proofs.Common.{◌≡◌, ℕ, ◌+◌, ◌<◌, List, [], ◌∷◌, ◌++◌, refl, ap, length, get_or, take, map}
use Rattle.std.proofs.lemmas.List.{take_more}
use Rattle.std.specs.declared.rc.Rc.{Rc}
use Rattle.std.specs.declared.alloc.Global.{Global}
use denote.Ref.{Bor}
use Rattle.sy_terms.specs.Values.{Val}
use Rattle.sy_terms.specs.Denoted.{expr_of}
use Rattle.sy_terms.specs.declared.term.Term.{Term}
use Rattle.sy_grammar_base.specs.Trees as trees
use Rattle.sy_bank_level.specs.Covering.{terms}
use Rattle.sy_bank_level.specs.Stored.{entry_of, chosen_of}
use Rattle.sy_bank_level.specs.Shared.{term_from, tree_from, terms_from, shared_trees}
use Rattle.sy_bank_level.proofs.Copies.{with_last, terms_from-last, trees_from-last}
use Rattle.sy_bank_level.specs.declared.grown.Grown.{Grown}
use Rattle.sy_bank_level.specs.declared.kept.Kept.{Kept}
use Rattle.sy_bank_level.specs.Chosen.{children}

exprs-last : {T N : Type 0} (number : N → Val) (xs : List (Term T N)) (last : Term T N) → map (expr_of number) (xs ++ last ∷ []) ≡ map (expr_of number) xs ++ expr_of number last ∷ []
exprs-last number [] last = refl
exprs-last number (x ∷ xs) last = ap (λ rest. expr_of number x ∷ rest) (exprs-last number xs last)

terms-last : {T N : Type 0} (number : N → Val) (chosen : List (Bor (Kept T N))) (last : Bor (Kept T N)) → terms (chosen_of number (chosen ++ last ∷ [])) ≡ terms (chosen_of number chosen) ++ term_from number last.now.grown.value ∷ []
terms-last number [] last = refl
terms-last number (first ∷ chosen) last = ap (λ rest. term_from number first.now.grown.value ∷ rest) (terms-last number chosen last)

children-last : {T N : Type 0} (number : N → Val) (chosen : List (Bor (Kept T N))) (last : Bor (Kept T N)) → children (chosen_of number (chosen ++ last ∷ [])) ≡ with_last (children (chosen_of number chosen)) (tree_from number last.now.grown.value)
children-last number [] last = refl
children-last number (first ∷ chosen) last = ap (trees.more (tree_from number first.now.grown.value)) (children-last number chosen last)

-- one kept term more, whose term is the next of the list
pub copies-next : {T N : Type 0} (number : N → Val) (chosen : List (Bor (Kept T N))) (i : ℕ) (kept : Bor (Kept T N)) (copies : List (Term T N)) (copy : Term T N) → i < length chosen → kept ≡ get_or chosen i kept →
    expr_of number copy ≡ (entry_of number kept.now).term → map (expr_of number) copies ≡ terms (chosen_of number (take i chosen)) → map (expr_of number) (copies ++ copy ∷ []) ≡ terms (chosen_of number (take (i + 1) chosen))
copies-next number chosen i kept copies copy within is same so_far =
    rw (take_more chosen i kept within, ← is, terms-last number (take i chosen) kept, exprs-last number copies copy, so_far, same) refl

-- one kept term more, which is shared
pub terms-next : {T N : Type 0} (number : N → Val) (chosen : List (Bor (Kept T N))) (i : ℕ) (kept : Bor (Kept T N)) (growns : List (Rc (Grown T N) Global)) (shared : Rc (Grown T N) Global) → i < length chosen → kept ≡ get_or chosen i kept →
    shared.value ≡ kept.now.grown.value → terms_from number growns ≡ terms (chosen_of number (take i chosen)) → terms_from number (growns ++ shared ∷ []) ≡ terms (chosen_of number (take (i + 1) chosen))
terms-next number chosen i kept growns shared within is same so_far =
    rw (take_more chosen i kept within, ← is, terms-last number (take i chosen) kept, terms_from-last number growns shared, so_far, same) refl

pub trees-next : {T N : Type 0} (number : N → Val) (chosen : List (Bor (Kept T N))) (i : ℕ) (kept : Bor (Kept T N)) (growns : List (Rc (Grown T N) Global)) (shared : Rc (Grown T N) Global) → i < length chosen → kept ≡ get_or chosen i kept →
    shared.value ≡ kept.now.grown.value → shared_trees number growns ≡ children (chosen_of number (take i chosen)) → shared_trees number (growns ++ shared ∷ []) ≡ children (chosen_of number (take (i + 1) chosen))
trees-next number chosen i kept growns shared within is same so_far =
    rw (take_more chosen i kept within, ← is, children-last number (take i chosen) kept, trees_from-last number growns shared, so_far, same) refl

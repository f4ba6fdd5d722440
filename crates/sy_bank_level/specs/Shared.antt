-- What terms that share others stand for.
use Rattle.std.specs.Prelude.{ℕ, List, [], ◌∷◌, ◌≡◌, refl}
use Rattle.std.proofs.Common.{ap, ◌∙◌}
use Rattle.std.specs.declared.rc.Rc.{Rc}
use Rattle.std.specs.declared.alloc.Global.{Global}
use Rattle.sy_terms.specs.Values.{Val}
use Rattle.sy_terms.specs.Expr.{Expr}
use Rattle.sy_terms.specs.Denoted.{expr_of}
use Rattle.sy_terms.specs.declared.term.Term.{Term}
use Rattle.sy_grammar_base.specs.Patterns.{filled}
use Rattle.sy_grammar_base.specs.Written.{pattern_of}
use Rattle.sy_grammar_base.specs.Trees as trees
use Rattle.sy_grammar_base.specs.Trees.{Tree, Trees}
use Rattle.sy_grammar_base.specs.Grown.{tree_of}
use Rattle.sy_grammar_base.specs.declared.derivation.Derivation.{Derivation}
use Rattle.sy_grammar_base.specs.declared.part.Part.{Part}
use Rattle.sy_bank_level.specs.declared.grown.Grown.{Grown, Leaf, Filled, Filled', Row_of-Growns-items-1, end_of-Growns-items-1, more_of-Growns-items-1, items-the_row-Growns-items-1, items_hidden-the_row-Growns-items-1-0}
use Rattle.sy_bank_level.specs.declared.grown.Grown.TheBlock.{hidden-the_row-Growns-items-1-0}
use Rattle.sy_bank_level.specs.declared.grown.Growns.{Growns}

-- the term, and the terms of a list
unfoldable mutual
  pub term_from : {T N : Type 0} → (N → Val) → Grown T N → Expr
  term_from number (Leaf term derivation) = expr_of number term
  term_from number (Filled' rule part shape row) = filled (pattern_of number part.value) (terms_in number row)

  pub terms_in : {T N : Type 0} {m : _} → (N → Val) → Row_of-Growns-items-1 T N m → List Expr
  terms_in number end_of-Growns-items-1 = []
  terms_in number (more_of-Growns-items-1 pointer first rest) = term_from number first ∷ terms_in number rest

-- the derivation, and those of a list
unfoldable mutual
  pub tree_from : {T N : Type 0} → (N → Val) → Grown T N → Tree
  tree_from number (Leaf term derivation) = tree_of number derivation
  tree_from number (Filled' rule part shape row) = trees.Node rule (trees_in number row)

  pub trees_in : {T N : Type 0} {m : _} → (N → Val) → Row_of-Growns-items-1 T N m → Trees
  trees_in number end_of-Growns-items-1 = trees.none
  trees_in number (more_of-Growns-items-1 pointer first rest) = trees.more (tree_from number first) (trees_in number rest)

abbrev pub terms_from : {T N : Type 0} → (N → Val) → List (Rc (Grown T N) Global) → List Expr
terms_from number [] = []
terms_from number (first ∷ rest) = term_from number first.value ∷ terms_from number rest

abbrev pub shared_trees : {T N : Type 0} → (N → Val) → List (Rc (Grown T N) Global) → Trees
shared_trees number [] = trees.none
shared_trees number (first ∷ rest) = trees.more (tree_from number first.value) (shared_trees number rest)

pub term_from-Leaf : {T N : Type 0} (number : N → Val) (term : Term T N) (derivation : Derivation T N) → let grown : Grown T N = Leaf term derivation in term_from number grown ≡ expr_of number term
unfolding term_from
term_from-Leaf number term derivation = refl

pub tree_from-Leaf : {T N : Type 0} (number : N → Val) (term : Term T N) (derivation : Derivation T N) → let grown : Grown T N = Leaf term derivation in tree_from number grown ≡ tree_of number derivation
unfolding tree_from
tree_from-Leaf number term derivation = refl

terms_in-items : {T N : Type 0} (number : N → Val) {m : _} (row : Row_of-Growns-items-1 T N m) → terms_in number row ≡ terms_from number (items-the_row-Growns-items-1 T N m row)
unfolding terms_in term_from
terms_in-items number end_of-Growns-items-1 = refl
terms_in-items number (more_of-Growns-items-1 pointer first rest) = ap (λ terms. term_from number first ∷ terms) (terms_in-items number rest)

trees_in-items : {T N : Type 0} (number : N → Val) {m : _} (row : Row_of-Growns-items-1 T N m) → trees_in number row ≡ shared_trees number (items-the_row-Growns-items-1 T N m row)
unfolding trees_in tree_from
trees_in-items number end_of-Growns-items-1 = refl
trees_in-items number (more_of-Growns-items-1 pointer first rest) = ap (trees.more (tree_from number first)) (trees_in-items number rest)

pub term_from-Filled : {T N : Type 0} (number : N → Val) (rule : ℕ) (part : Rc (Part T N) Global) (parts : Growns T N) →
    term_from number (Filled rule part parts) ≡ filled (pattern_of number part.value) (terms_from number parts.items.items)
unfolding term_from terms_in
term_from-Filled {T} {N} number rule part parts = ap (filled (pattern_of number part.value))
    (terms_in-items number (hidden-the_row-Growns-items-1-0 T N parts.items) ∙ ap (terms_from number) (items_hidden-the_row-Growns-items-1-0 T N parts.items))

pub tree_from-Filled : {T N : Type 0} (number : N → Val) (rule : ℕ) (part : Rc (Part T N) Global) (parts : Growns T N) →
    tree_from number (Filled rule part parts) ≡ trees.Node rule (shared_trees number parts.items.items)
unfolding tree_from trees_in
tree_from-Filled {T} {N} number rule part parts = ap (trees.Node rule)
    (trees_in-items number (hidden-the_row-Growns-items-1-0 T N parts.items) ∙ ap (shared_trees number) (items_hidden-the_row-Growns-items-1-0 T N parts.items))

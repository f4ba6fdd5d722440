-- Lists of trees, patterns and terms with one more.
use Rattle.std.proofs.Common.{◌≡◌, List, [], ◌∷◌, ◌++◌, refl, ap}
use Rattle.std.specs.declared.rc.Rc.{Rc}
use Rattle.std.specs.declared.alloc.Global.{Global}
use Rattle.sy_terms.specs.Values.{Val}
use Rattle.sy_grammar_base.specs.Patterns as patterns
use Rattle.sy_grammar_base.specs.Patterns.{Pattern, Patterns}
use Rattle.sy_grammar_base.specs.Written.{pattern_of, patterns_of}
use Rattle.sy_grammar_base.specs.Trees as trees
use Rattle.sy_grammar_base.specs.Trees.{Tree, Trees}
use Rattle.sy_grammar_base.specs.Grown.{tree_of, trees_of}
use Rattle.sy_grammar_base.specs.declared.derivation.Derivation.{Derivation}
use Rattle.sy_grammar_base.specs.declared.part.Part.{Part}
use Rattle.sy_bank_level.specs.Shared.{term_from, terms_from, tree_from, shared_trees}
use Rattle.sy_bank_level.specs.declared.grown.Grown.{Grown}

-- one tree after these
abbrev pub with_last : Trees → Tree → Trees
with_last trees.none last = trees.more last trees.none
with_last (trees.more first rest) last = trees.more first (with_last rest last)

-- one pattern after these
abbrev pub with_last_pattern : Patterns → Pattern → Patterns
with_last_pattern patterns.none last = patterns.more last patterns.none
with_last_pattern (patterns.more first rest) last = patterns.more first (with_last_pattern rest last)

pub trees_of-last : {T N : Type 0} (number : N → Val) (derivations : List (Derivation T N)) (last : Derivation T N) → trees_of number (derivations ++ last ∷ []) ≡ with_last (trees_of number derivations) (tree_of number last)
trees_of-last number [] last = refl
trees_of-last number (first ∷ derivations) last = ap (trees.more (tree_of number first)) (trees_of-last number derivations last)

pub patterns_of-last : {T N : Type 0} (number : N → Val) (parts : List (Part T N)) (last : Part T N) → patterns_of number (parts ++ last ∷ []) ≡ with_last_pattern (patterns_of number parts) (pattern_of number last)
patterns_of-last number [] last = refl
patterns_of-last number (first ∷ parts) last = ap (patterns.more (pattern_of number first)) (patterns_of-last number parts last)

pub terms_from-last : {T N : Type 0} (number : N → Val) (all : List (Rc (Grown T N) Global)) (last : Rc (Grown T N) Global) → terms_from number (all ++ last ∷ []) ≡ terms_from number all ++ term_from number last.value ∷ []
terms_from-last number [] last = refl
terms_from-last number (first ∷ all) last = ap (λ terms. term_from number first.value ∷ terms) (terms_from-last number all last)

pub trees_from-last : {T N : Type 0} (number : N → Val) (all : List (Rc (Grown T N) Global)) (last : Rc (Grown T N) Global) → shared_trees number (all ++ last ∷ []) ≡ with_last (shared_trees number all) (tree_from number last.value)
trees_from-last number [] last = refl
trees_from-last number (first ∷ all) last = ap (trees.more (tree_from number first.value)) (trees_from-last number all last)

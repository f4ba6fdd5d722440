-- What grammars and derivations stand for.
use Rattle.std.specs.Prelude.{ℕ, List, [], ◌∷◌, ◌≡◌, refl, map}
use Rattle.std.proofs.Common.{ap, ◌∙◌}
use Rattle.sy_terms.specs.Values.{Val}
use Rattle.sy_terms.specs.Denoted.{val_of}
use Rattle.sy_terms.specs.declared.sort.Value.{Value}
use Rattle.sy_grammar_base.specs.Written.{pattern_of}
use Rattle.sy_grammar_base.specs.Trees as trees
use Rattle.sy_grammar_base.specs.Trees.{Production, Nonterminal, Syntax, Tree, Trees}
use Rattle.sy_grammar_base.specs.declared.grammar.Rule.{Rule}
use Rattle.sy_grammar_base.specs.declared.grammar.Rule.TheVariants.{Term, AnyConstant, AnyVariable}
use Rattle.sy_grammar_base.specs.declared.grammar.Non.{Non}
use Rattle.sy_grammar_base.specs.declared.grammar.Grammar.{Grammar}
use Rattle.sy_grammar_base.specs.declared.derivation.Derivation.{Derivation, Node', Constant, Variable, Row_of-Derivation, end_of-Derivation, more_of-Derivation, items-the_row-Derivation, items_hidden-the_row-Derivation-0, Node}
use Rattle.sy_grammar_base.specs.declared.derivation.Derivation.TheBlock.{hidden-the_row-Derivation-0}
use Rattle.sy_grammar_base.specs.declared.derivation.Derivations.{Derivations}

abbrev pub production_of : {T N : Type 0} → (N → Val) → Rule T N → Production
production_of number (Term part) = trees.Template (pattern_of number part)
production_of number (AnyConstant sort) = trees.EachConstant sort
production_of number (AnyVariable sort) = trees.EachVariable sort

abbrev pub nonterminal_of : {T N : Type 0} → (N → Val) → Non T N → Nonterminal
nonterminal_of number non = record { sort = non.sort; rules = map (production_of number) non.rules }

abbrev pub syntax_from : {T N : Type 0} → (N → Val) → Grammar T N → Syntax
syntax_from number grammar = record { arguments = grammar.args; nonterminals = map (nonterminal_of number) grammar.nons }

-- the tree that a derivation is
unfoldable mutual
  pub tree_of : {T N : Type 0} → (N → Val) → Derivation T N → Tree
  tree_of number (Node' rule shape row) = trees.Node rule (row_of number row)
  tree_of number (Constant rule value) = trees.ConstantLeaf rule (val_of number value)
  tree_of number (Variable rule position) = trees.VariableLeaf rule position

  pub row_of : {T N : Type 0} {m : _} → (N → Val) → Row_of-Derivation T N m → Trees
  row_of number end_of-Derivation = trees.none
  row_of number (more_of-Derivation derivation rest) = trees.more (tree_of number derivation) (row_of number rest)

abbrev pub trees_of : {T N : Type 0} → (N → Val) → List (Derivation T N) → Trees
trees_of number [] = trees.none
trees_of number (derivation ∷ derivations) = trees.more (tree_of number derivation) (trees_of number derivations)

pub tree_of-Constant : (T : Type 0) {N : Type 0} (number : N → Val) (rule : ℕ) (value : Value N) → let d : Derivation T N = Constant rule value in tree_of number d ≡ trees.ConstantLeaf rule (val_of number value)
unfolding tree_of
tree_of-Constant T number rule value = refl

pub tree_of-Variable : (T : Type 0) (N : Type 0) (number : N → Val) (rule position : ℕ) → let d : Derivation T N = Variable rule position in tree_of number d ≡ trees.VariableLeaf rule position
unfolding tree_of
tree_of-Variable T N number rule position = refl

row_of-items : {T N : Type 0} (number : N → Val) {m : _} (row : Row_of-Derivation T N m) → row_of number row ≡ trees_of number (items-the_row-Derivation T N m row)
unfolding row_of tree_of
row_of-items number end_of-Derivation = refl
row_of-items number (more_of-Derivation derivation rest) = ap (trees.more (tree_of number derivation)) (row_of-items number rest)

pub tree_of-Node : {T N : Type 0} (number : N → Val) (rule : ℕ) (children : Derivations T N) → tree_of number (Node rule children) ≡ trees.Node rule (trees_of number children.items.items)
unfolding tree_of row_of
tree_of-Node {T} {N} number rule children = ap (trees.Node rule) (row_of-items number (hidden-the_row-Derivation-0 T N children.items) ∙ ap (trees_of number) (items_hidden-the_row-Derivation-0 T N children.items))

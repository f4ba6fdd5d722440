-- What banks cover: each term up to a size is computable, and a kept term of no larger size has its values.
use Rattle.std.specs.Prelude.{ℕ, ◌+◌, ◌≡◌, ◌≤◌, List, [], ◌∷◌, Option, Some, None}
use Rattle.sy_terms.specs.Values.{Val}
use Rattle.sy_terms.specs.Expr.{Expr}
use Rattle.sy_terms.specs.Meaning.{Function}
use Rattle.sy_grammar_base.specs.Patterns.{occurring, filled, own_size}
use Rattle.sy_grammar_base.specs.Trees.{Syntax, Production, Template, EachConstant, EachVariable, Tree, Derives, tree_size, rule_at, constant_yield, variable_yield, constant_size}
use Rattle.sy_bank_level.specs.Rows.{IsRow}
use Rattle.sy_bank_level.specs.Banks.{Entry, Merged, IsKept}

-- the term is computable at all points, and its row is that of a kept term of the nonterminal, at most as large
pub record IsCovered (defined : List Function) (points : List (List Val)) (levels : List (List (List Entry))) (nonterminal size : ℕ) (term : Expr) : Type 0 where
  pub entry : Entry
  pub kept : IsKept levels nonterminal entry
  pub small : entry.size ≤ size
  pub row : IsRow defined points term entry.row

-- so for each yield of a derivation of at most the bank's greatest size
abbrev pub Covers : Syntax → List Function → List Val → Merged → Type 0
Covers syntax defined pool bank = (nonterminal : ℕ) (tree : Tree) (term : Expr) →
    Derives syntax nonterminal tree term → tree_size syntax pool nonterminal tree ≤ bank.upto →
    IsCovered defined bank.points bank.levels nonterminal (tree_size syntax pool nonterminal tree) term

-- one kept term for each of the nonterminals
abbrev pub AreKept : List (List (List Entry)) → List ℕ → List Entry → Type 0
AreKept levels [] [] = Unit {0}
AreKept levels [] (entry ∷ entries) = ⊥
AreKept levels (nonterminal ∷ nonterminals) [] = ⊥
AreKept levels (nonterminal ∷ nonterminals) (entry ∷ entries) = IsKept levels nonterminal entry × AreKept levels nonterminals entries

abbrev pub sizes : List Entry → ℕ
sizes [] = 0
sizes (entry ∷ entries) = entry.size + sizes entries

abbrev pub terms : List Entry → List Expr
terms [] = []
terms (entry ∷ entries) = entry.term ∷ terms entries

-- a rule gives the term, of this size, of kept terms
abbrev pub Offers : Syntax → List Val → List (List (List Entry)) → Option Production → ℕ → Expr → Type 0
Offers syntax pool levels None size term = ⊥
Offers syntax pool levels (Some (Template pattern)) size term =
    (chosen : List Entry) × AreKept levels (occurring pattern) chosen × (own_size pattern + sizes chosen ≡ size) × (filled pattern (terms chosen) ≡ term)
Offers syntax pool levels (Some (EachConstant sort)) size term =
    (value : Val) × (constant_yield (Some (EachConstant sort)) value ≡ Some term) × (constant_size pool value ≡ size)
Offers syntax pool levels (Some (EachVariable sort)) size term =
    (position : ℕ) × (variable_yield (Some (EachVariable sort)) syntax.arguments position ≡ Some term) × (size ≡ 1)

-- whatever rules give of kept terms, up to the bank's greatest size, is covered; so for chain rules too
abbrev pub IsSaturated : Syntax → List Function → List Val → Merged → Type 0
IsSaturated syntax defined pool bank = (nonterminal rule size : ℕ) (term : Expr) →
    Offers syntax pool bank.levels (rule_at syntax nonterminal rule) size term → size ≤ bank.upto →
    IsCovered defined bank.points bank.levels nonterminal size term

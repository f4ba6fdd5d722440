-- Kept terms that are chosen for nonterminals.
use Rattle.std.specs.Prelude.{ℕ, ◌≡◌, true, List, [], ◌∷◌, All, slice_get, Some}
use Rattle.sy_terms.specs.Values.{Val}
use Rattle.sy_terms.specs.Theories.{valid}
use Rattle.sy_terms.specs.Meaning.{Function}
use Rattle.sy_terms.specs.Fitting.{Scope}
use Rattle.sy_grammar_base.specs.Trees as trees
use Rattle.sy_grammar_base.specs.Trees.{Trees}
use Rattle.sy_bank_level.specs.Banks.{Entry}
use Rattle.sy_bank_level.specs.Columns.{HasRow}

-- each kept term has its row
abbrev pub AreRows : Scope → List Function → List (List Val) → List Entry → Type 0
AreRows scope defined points entries = (i : ℕ) (entry : Entry) → slice_get entries i ≡ Some entry → HasRow scope defined points entry.term entry.row

-- each point has values of their sorts
abbrev pub ArePoints : List (List Val) → Type 0
ArePoints points = (k : ℕ) (point : List Val) → slice_get points k ≡ Some point → All (λ value. valid value ≡ true) point

-- their derivations, as children of a node
abbrev pub children : List Entry → Trees
children [] = trees.none
children (entry ∷ entries) = trees.more entry.tree (children entries)

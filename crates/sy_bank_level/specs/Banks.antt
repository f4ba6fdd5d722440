-- Merged banks: for each nonterminal, at most one kept term for each row of values at the points.
use Rattle.std.specs.Prelude.{ℕ, ◌+◌, ◌≡◌, ◌≤◌, List, [], ◌∷◌, length, slice_get, slice_index_or, Option, Some}
use Rattle.sy_terms.specs.Values.{Val}
use Rattle.sy_terms.specs.Expr.{Expr}
use Rattle.sy_terms.specs.Meaning.{Function}
use Rattle.sy_grammar_base.specs.Trees.{Syntax, Tree, Derives, tree_size}
use Rattle.sy_bank_level.specs.Rows.{IsRow, IsLostAt}

-- a kept term: its derivation, the size of that derivation, and its values at the points
pub record Entry : Type 0 where
  pub term : Expr
  pub tree : Tree
  pub size : ℕ
  pub row : List Val

-- a term that isn't computable at the point of this number
pub record Lost : Type 0 where
  pub term : Expr
  pub point : ℕ

-- the points, the greatest size, the kept terms by size and then by nonterminal, and the dropped term
pub record Merged : Type 0 where
  pub points : List (List Val)
  pub upto : ℕ
  pub levels : List (List (List Entry))
  pub dropped : Option Lost

-- what is kept for a nonterminal and a size
abbrev pub kept_at : {X : Type 0} → List (List (List X)) → ℕ → ℕ → List X
kept_at levels nonterminal size = slice_index_or (slice_index_or levels size []) nonterminal []

abbrev pub count_of : {X : Type 0} → List (List X) → ℕ
count_of [] = 0
count_of (entries ∷ rest) = length entries + count_of rest

-- how many are kept over all sizes and nonterminals
abbrev pub kept_count : {X : Type 0} → List (List (List X)) → ℕ
kept_count [] = 0
kept_count (level ∷ levels) = count_of level + kept_count levels

-- the term is kept for the nonterminal
pub record IsKept (levels : List (List (List Entry))) (nonterminal : ℕ) (entry : Entry) : Type 0 where
  pub size : ℕ
  pub place : ℕ
  pub at : slice_get (kept_at levels nonterminal size) place ≡ Some entry

-- the term has its derivation from the nonterminal, of its size, and its row
pub record EntryIsSound (syntax : Syntax) (defined : List Function) (pool : List Val) (points : List (List Val)) (nonterminal : ℕ) (entry : Entry) : Type 0 where
  pub derives : Derives syntax nonterminal entry.tree entry.term
  pub sized : tree_size syntax pool nonterminal entry.tree ≡ entry.size
  pub row : IsRow defined points entry.term entry.row

-- each kept term is sound and stands at its size, at most the greatest; the rows of one nonterminal are distinct
pub record IsHonestBank (syntax : Syntax) (defined : List Function) (pool : List Val) (bank : Merged) : Type 0 where
  pub within : length bank.levels ≤ bank.upto + 1
  pub each : (nonterminal size place : ℕ) (entry : Entry) → slice_get (kept_at bank.levels nonterminal size) place ≡ Some entry →
      (entry.size ≡ size) × EntryIsSound syntax defined pool bank.points nonterminal entry
  pub distinct : (nonterminal m n i j : ℕ) (first second : Entry) →
      slice_get (kept_at bank.levels nonterminal m) i ≡ Some first → slice_get (kept_at bank.levels nonterminal n) j ≡ Some second →
      first.row ≡ second.row → (m ≡ n) × (i ≡ j)

-- the term is the yield of a derivation of at most this size from a nonterminal, and isn't computable at its point
pub record IsDropped (syntax : Syntax) (defined : List Function) (pool : List Val) (points : List (List Val)) (upto : ℕ) (lost : Lost) : Type 0 where
  pub nonterminal : ℕ
  pub tree : Tree
  pub derives : Derives syntax nonterminal tree lost.term
  pub small : tree_size syntax pool nonterminal tree ≤ upto
  pub is : IsLostAt defined points lost.term lost.point

-- the term is sound, of at most this size, and no kept term of the nonterminal has its row
pub record IsNewEntry (syntax : Syntax) (defined : List Function) (pool : List Val) (bank : Merged) (nonterminal : ℕ) (entry : Entry) : Type 0 where
  pub sound : EntryIsSound syntax defined pool bank.points nonterminal entry
  pub small : entry.size ≤ bank.upto
  pub differs : (other : Entry) → IsKept bank.levels nonterminal other → other.row ≡ entry.row → ⊥

-- Watched literals: which two literals of a clause are watched, and why it is enough to look at the
-- clause where one of them becomes false.
use Rattle.std.specs.Prelude.{◌≡◌, ℕ, ◌+◌, ◌*◌, ◌≤◌, ◌<◌, true, false, not, if◌then◌else◌, Option, Some, None, List, [], ◌∷◌, ◌++◌, length, slice_get, slice_index_or, slice_set, vec_len, ◌⊎◌}
use Rattle.std.specs.List.{swap_remove}
use Rattle.sy_clauses.specs.declared.Lit.{Lit}
use Rattle.sy_clauses.specs.Clauses.{Clause, same_literal}
use Rattle.sy_cdcl_literals.specs.declared.entries.Entry.{Entry}
use Rattle.sy_cdcl.specs.declared.trail.Trail.{Trail}
use Rattle.sy_cdcl_literals.specs.declared.outcomes.Pair.{Pair}
use Rattle.sy_cdcl.specs.declared.watches.Watches.{Watches}

-- the place of a literal's list among all lists
abbrev pub list_of : Lit → ℕ
list_of l = 2 * l.var + (if l.positive then 1 else 0)

-- the entry makes the literal false
pub record Falsifies (e : Entry) (l : Lit) : Type 0 where
  pub var : e.literal.var ≡ l.var
  pub sign : e.literal.positive ≡ not l.positive

-- A literal of the clause is true, and stays so as long as the entry at `p` does: each level that
-- begins after `p` begins after it too.
pub record IsBacked (entries : List Entry) (starts : List ℕ) (c : Clause) (p : ℕ) : Type 0 where
  pub place : ℕ
  pub entry : Entry
  pub at : slice_get entries place ≡ Some entry
  pub has : c entry.literal.var entry.literal.positive ≡ true
  pub lower : (k s : ℕ) → slice_get starts k ≡ Some s → p < s → place < s

-- a literal of the clause is true at the lowest level
pub record IsRooted (entries : List Entry) (starts : List ℕ) (c : Clause) : Type 0 where
  pub place : ℕ
  pub entry : Entry
  pub at : slice_get entries place ≡ Some entry
  pub has : c entry.literal.var entry.literal.positive ≡ true
  pub lower : (k s : ℕ) → slice_get starts k ≡ Some s → place < s

-- two literals of the clause, such that where one of the first `head` entries makes one of them false
-- the clause is true
pub record IsGuarded (entries : List Entry) (starts : List ℕ) (head : ℕ) (c : Clause) (pair : Pair) : Type 0 where
  pub has_first : c pair.first.var pair.first.positive ≡ true
  pub has_second : c pair.second.var pair.second.positive ≡ true
  pub different : same_literal pair.first.var pair.first.positive pair.second.var pair.second.positive ≡ false
  pub backed : (p : ℕ) (e : Entry) → p < head → slice_get entries p ≡ Some e →
      Falsifies e pair.first ⊎ Falsifies e pair.second → IsBacked entries starts c p

abbrev pub IsWatched : List Entry → List ℕ → ℕ → Clause → Option Pair → Type 0
IsWatched entries starts head c None = IsRooted entries starts c
IsWatched entries starts head c (Some pair) = IsGuarded entries starts head c pair

-- the pair of the clause with this number
abbrev pub pair_of : List (Option Pair) → ℕ → Option Pair
pair_of pairs n = slice_index_or pairs n None

-- every clause is watched, where so many entries were visited
abbrev pub AllWatched : List Clause → Trail → ℕ → List (Option Pair) → Type 0
AllWatched clauses t head pairs = (n : ℕ) (c : Clause) → slice_get clauses n ≡ Some c →
    IsWatched t.entries.items t.starts.items head c (pair_of pairs n)

-- the number stands in the list at the place `from` or later
pub record IsIn (list : List ℕ) (from n : ℕ) : Type 0 where
  pub place : ℕ
  pub later : from ≤ place
  pub at : slice_get list place ≡ Some n

-- the list of a literal's clauses
abbrev pub list_at : List (List ℕ) → ℕ → List ℕ
list_at lists i = slice_index_or lists i []

-- each clause with a pair stands in the lists of both literals
abbrev pub AllListed : List (List ℕ) → List (Option Pair) → Type 0
AllListed lists pairs = (n : ℕ) (pair : Pair) → pair_of pairs n ≡ Some pair →
    IsIn (list_at lists (list_of pair.first)) 0 n × IsIn (list_at lists (list_of pair.second)) 0 n

-- all that holds of the watched literals between two steps of the solver
pub record IsWatching (clauses : List Clause) (t : Trail) (w : Watches) : Type 0 where
  pub pairs : length w.pairs.items ≡ length clauses
  pub lists : length w.lists.items ≡ 2 * vec_len t.values
  pub head : w.head ≤ length t.entries.items
  pub past : (k s : ℕ) → slice_get t.starts.items k ≡ Some s → s ≤ w.head
  pub watched : AllWatched clauses t w.head w.pairs.items
  pub listed : AllListed w.lists.items w.pairs.items

-- the lists with one number more, and with one less, whose place the last one of its list takes
abbrev pub enlisted : List (List ℕ) → ℕ → ℕ → List (List ℕ)
enlisted lists i n = slice_set lists i (list_at lists i ++ n ∷ [])

abbrev pub delisted : List (List ℕ) → ℕ → ℕ → List (List ℕ)
delisted lists i place = slice_set lists i (swap_remove (list_at lists i) place 0)

-- the first `number` clauses are watched, at the lowest level, and no entry was visited
pub record IsAttached (clauses : List Clause) (t : Trail) (w : Watches) (number : ℕ) : Type 0 where
  pub lowest : t.starts.items ≡ []
  pub pairs : length w.pairs.items ≡ number
  pub lists : length w.lists.items ≡ 2 * vec_len t.values
  pub head : w.head ≡ 0
  pub watched : (n : ℕ) (c : Clause) → n < number → slice_get clauses n ≡ Some c →
      IsWatched t.entries.items t.starts.items 0 c (pair_of w.pairs.items n)
  pub listed : AllListed w.lists.items w.pairs.items

-- one clause more, without a pair
pub record IsSkipped (old new : Watches) : Type 0 where
  pub lists : new.lists.items ≡ old.lists.items
  pub pairs : new.pairs.items ≡ old.pairs.items ++ None ∷ []

-- one clause more, with this pair
pub record IsPaired (old new : Watches) (number : ℕ) (pair : Pair) : Type 0 where
  pub lists : new.lists.items ≡ enlisted (enlisted old.lists.items (list_of pair.first) number) (list_of pair.second) number
  pub pairs : new.pairs.items ≡ old.pairs.items ++ Some pair ∷ []

-- What banks promise.
use Rattle.std.specs.Prelude.{ℕ, ◌+◌, ◌≡◌, ◌≤◌, List, length, None, IfSome, Some, slice_get}
use Rattle.sy_terms.specs.Values.{Val}
use Rattle.sy_terms.specs.Meaning.{Function}
use Rattle.sy_grammar_base.specs.Trees.{Syntax}
use Rattle.sy_bank_level.specs.Banks.{Entry, Merged, kept_at, kept_count, IsHonestBank, IsDropped, IsNewEntry}
use Rattle.sy_bank_level.specs.Covering.{Covers}

-- an honest bank over these points and up to this size, of at most so many terms; what it dropped was to be dropped
pub record IsBank (syntax : Syntax) (defined : List Function) (pool : List Val) (points : List (List Val)) (upto cap : ℕ) (bank : Merged) : Type 0 where
  pub over : bank.points ≡ points
  pub up : bank.upto ≡ upto
  pub honest : IsHonestBank syntax defined pool bank
  pub within : kept_count bank.levels ≤ cap
  pub lost : IfSome bank.dropped (IsDropped syntax defined pool bank.points bank.upto)

-- every derivation up to the greatest size is covered, unless a term was dropped
abbrev pub BankIsWhole : Syntax → List Function → List Val → Merged → Type 0
BankIsWhole syntax defined pool bank = bank.dropped ≡ None → Covers syntax defined pool bank

-- as many terms are kept as may be, none was dropped, and this one is new
pub record BankIsFull (syntax : Syntax) (defined : List Function) (pool : List Val) (cap : ℕ) (bank : Merged) (nonterminal : ℕ) (next : Entry) : Type 0 where
  pub full : kept_count bank.levels ≡ cap
  pub none_lost : bank.dropped ≡ None
  pub new : IsNewEntry syntax defined pool bank nonterminal next

-- each kept term stays where it stood
abbrev pub Stays : Merged → Merged → Type 0
Stays before after = (nonterminal size place : ℕ) (entry : Entry) → slice_get (kept_at before.levels nonterminal size) place ≡ Some entry → slice_get (kept_at after.levels nonterminal size) place ≡ Some entry

-- an honest bank with one size more, over the same points and up to the same size, of at most so many terms
pub record IsNextBank (syntax : Syntax) (defined : List Function) (pool : List Val) (cap : ℕ) (before after : Merged) : Type 0 where
  pub over : after.points ≡ before.points
  pub up : after.upto ≡ before.upto
  pub honest : IsHonestBank syntax defined pool after
  pub sizes : length after.levels ≡ length before.levels + 1
  pub within : kept_count after.levels ≤ cap
  pub stays : Stays before after

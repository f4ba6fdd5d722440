-- When the kept terms of the next size can be added to a bank.
use Rattle.std.specs.Prelude.{ℕ, ◌≡◌, ◌<◌, List, length, None, IfSome}
use Rattle.sy_terms.specs.Values.{Val}
use Rattle.sy_terms.specs.Expr.{Expr}
use Rattle.sy_terms.specs.Meaning.{Function}
use Rattle.sy_terms.specs.Fitting.{Scope}
use Rattle.sy_grammar_base.specs.Trees.{Syntax, rule_at}
use Rattle.sy_bank_level.specs.Banks.{Entry, Merged, IsKept, IsHonestBank, IsDropped}
use Rattle.sy_bank_level.specs.Columns.{HasRow}
use Rattle.sy_bank_level.specs.Covering.{IsCovered, Offers}

-- whatever rules give of kept terms at lesser sizes than this is covered
abbrev pub IsSaturatedBelow : Syntax → List Function → List Val → Merged → ℕ → Type 0
IsSaturatedBelow syntax defined pool bank bound = (nonterminal rule size : ℕ) (term : Expr) → size < bound →
    Offers syntax pool bank.levels (rule_at syntax nonterminal rule) size term → IsCovered defined bank.points bank.levels nonterminal size term

-- the bank is honest, rows are of values that terms fit with, and nothing that a rule gives at the sizes so far is missing
pub record BankIsReady (scope : Scope) (syntax : Syntax) (defined : List Function) (pool : List Val) (bank : Merged) : Type 0 where
  pub honest : IsHonestBank syntax defined pool bank
  pub rows : (nonterminal : ℕ) (entry : Entry) → IsKept bank.levels nonterminal entry → HasRow scope defined bank.points entry.term entry.row
  pub lost : IfSome bank.dropped (IsDropped syntax defined pool bank.points bank.upto)
  pub saturated : bank.dropped ≡ None → IsSaturatedBelow syntax defined pool bank (length bank.levels)

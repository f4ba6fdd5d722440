-- The banks of the functions to be found.
use Rattle.std.specs.Prelude.{ℕ, Bool, ◌≡◌, ◌≤◌, List, length, map, slice_get, Some}
use Rattle.sy_terms.specs.Values.{Val}
use Rattle.sy_terms.specs.Denoted.{vals_of}
use Rattle.sy_terms.specs.Definitions.{scope_of, bodies}
use Rattle.sy_terms.specs.Meaning.{functions}
use Rattle.sy_terms.specs.declared.op.Op.{Op}
use Rattle.sy_grammar_base.specs.Grown.{syntax_from}
use Rattle.sy_grammar_base.specs.Questions.{Goal, Question}
use Rattle.sy_grammar_base.specs.declared.problem.Problem.{Problem}
use Rattle.sy_grammar_base.specs.declared.problem.Wanted.{Wanted}
use Rattle.sy_query_limits.specs.declared.Limits.{Limits}
use Rattle.sy_points.specs.Asked.{Asked, of_function}
use Rattle.sy_bank_level.specs.Banks.{Entry, Merged, kept_count}
use Rattle.sy_bank_level.specs.Stored.{entry_of}
use Rattle.sy_bank.specs.Answers.{BankIsBuilt}
use Rattle.sy_bank_level.specs.Bank.{merged_of}
use Rattle.sy_bank.specs.Promised.{IsBank, BankIsWhole, BankIsFull}
use Rattle.sy_bank_level.specs.declared.bank.Bank.{Bank}
use Rattle.sy_bank.specs.declared.bank.BankEnd.{BankEnd}
use Rattle.sy_bank.specs.declared.bank.BankEnd.TheVariants as ends
use Rattle.sy_loop_banks.specs.declared.banks.Banks.{Banks}
use Rattle.sy_loop_banks.specs.declared.banks.Banks.TheVariants.{Built, Full}

-- the bank is that of the function's grammar, over the function's tuples and up to the size
pub record IsBankOf (question : Question) (limits : Limits) (asked : Asked) (level function : ℕ) (bank : Merged) : Type 0 where
  pub goal : Goal
  pub at : slice_get question.goals function ≡ Some goal
  pub is : IsBank goal.grammar (functions question.definitions) question.pool (of_function asked function) level limits.bank bank

-- it covers what its grammar derives, unless it dropped a term
pub record IsWholeOf (question : Question) (function : ℕ) (bank : Merged) : Type 0 where
  pub goal : Goal
  pub at : slice_get question.goals function ≡ Some goal
  pub whole : BankIsWhole goal.grammar (functions question.definitions) question.pool bank

-- it is full, and the nonterminal has one more term
pub record IsFullOf (question : Question) (limits : Limits) (function : ℕ) (bank : Merged) (nonterminal : ℕ) (next : Entry) : Type 0 where
  pub goal : Goal
  pub at : slice_get question.goals function ≡ Some goal
  pub full : BankIsFull goal.grammar (functions question.definitions) question.pool limits.bank bank nonterminal next

-- a bank for each function to be found
pub record AreBanks (question : Question) (limits : Limits) (asked : Asked) (level : ℕ) (banks : List Merged) : Type 0 where
  pub each : (function : ℕ) (bank : Merged) → slice_get banks function ≡ Some bank → IsBankOf question limits asked level function bank
  pub whole : (function : ℕ) (bank : Merged) → slice_get banks function ≡ Some bank → IsWholeOf question function bank
  pub all : length banks ≡ length question.goals

-- what taking them gives
abbrev pub BanksAreBuilt : {T N : Type 0} → (N → Val) → Question → Limits → Asked → ℕ → Banks T N → Type 0
BanksAreBuilt number question limits asked level (Built banks) = AreBanks question limits asked level (map (merged_of number) banks.items)
BanksAreBuilt number question limits asked level (Full function bank nonterminal next) =
    IsBankOf question limits asked level function (merged_of number bank) × IsFullOf question limits function (merged_of number bank) nonterminal (entry_of number next)

-- what is made of a bank that is full
abbrev pub IsFullBank : {T N : Type 0} → ℕ → BankEnd T N → Banks T N → Type 0
IsFullBank function (ends.Full bank nonterminal next) banks = banks ≡ Full function bank nonterminal next
IsFullBank function ends.Want banks = ⊥

-- a bank that an earlier round left: built for the function's grammar, up to no larger size and of no more terms than it may have
pub record IsCarried {T N : Type 0} (owned : Op → Bool) (number : N → Val) (problem : Problem T N) (wanted : Wanted T N) (limits : Limits) (level : ℕ) (bank : Bank T N) : Type 0 where
  pub built : BankIsBuilt number (scope_of owned problem.defs) (syntax_from number wanted.grammar) (functions (bodies number problem.defs)) (vals_of number problem.pool) bank
  pub small : (merged_of number bank).upto ≤ level
  pub few : kept_count (merged_of number bank).levels ≤ limits.bank

-- so each, for the function of its place
abbrev pub AreCarried : {T N : Type 0} → (Op → Bool) → (N → Val) → Problem T N → Limits → ℕ → List (Bank T N) → Type 0
AreCarried {T} {N} owned number problem limits level banks =
    (function : ℕ) (wanted : Wanted T N) (bank : Bank T N) → slice_get problem.wanted function ≡ Some wanted → slice_get banks function ≡ Some bank → IsCarried owned number problem wanted limits level bank

-- a fact of the banks that are built
abbrev pub OnBanks : {T N : Type 0} → (List (Bank T N) → Type 0) → Banks T N → Type 0
OnBanks fact (Built banks) = fact banks.items
OnBanks fact (Full function bank nonterminal next) = Unit {0}

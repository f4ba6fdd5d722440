use Rattle.std.proofs.Common.{◌≡◌, ◌≤◌, length, ◌+◌, ◌-◌}
use Rattle.sy_terms.specs.Denoted.{vals_of}
use Rattle.sy_terms.specs.Definitions.{scope_of, bodies}
use Rattle.sy_terms.specs.Meaning.{functions}
use Rattle.sy_grammar_base.specs.Grown.{syntax_from}
use Rattle.sy_bank_level.specs.Banks.{kept_count}
use Rattle.sy_bank.specs.Answers.{BankIsBuilt}
use Rattle.sy_bank_level.specs.Bank.{merged_of}
use Rattle.sy_bank.specs.Promised.{Stays}
use Rattle.sy_bank.proofs.growing.all_sizes.Given as goal

abbrev pub invariant-loop-bank : goal.invariant-loop-bank
invariant-loop-bank g l = record {
  over : (merged_of g.T.Theory.denotes l.bank).points ≡ (merged_of g.T.Theory.denotes l.initial.bank).points;
  up : l.bank.upto ≡ l.upto;
  built : BankIsBuilt g.T.Theory.denotes (scope_of g.T.Theory.owned l.defs) (syntax_from g.T.Theory.denotes l.grammar) (functions (bodies g.T.Theory.denotes l.defs)) (vals_of g.T.Theory.denotes l.pool) l.bank;
  within : kept_count (merged_of g.T.Theory.denotes l.bank).levels ≤ l.cap;
  stays : Stays (merged_of g.T.Theory.denotes l.initial.bank) (merged_of g.T.Theory.denotes l.bank);
}

abbrev pub decreases-loop-bank : goal.decreases-loop-bank
decreases-loop-bank g l = l.upto + 1 - length l.bank.levels.items

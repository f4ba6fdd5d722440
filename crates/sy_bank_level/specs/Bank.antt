-- What a bank stands for.
use Rattle.std.specs.Prelude.{map}
use Rattle.std.specs.Option.{option_map}
use Rattle.sy_terms.specs.Values.{Val}
use Rattle.sy_terms.specs.Denoted.{vals_of}
use Rattle.sy_bank_level.specs.Banks.{Merged}
use Rattle.sy_bank_level.specs.Stored.{lost_of}
use Rattle.sy_bank_level.specs.Task.{levels_of}
use Rattle.sy_bank_level.specs.declared.bank.Bank.{Bank}

abbrev pub merged_of : {T N : Type 0} → (N → Val) → Bank T N → Merged
merged_of number bank = record {
  points = map (vals_of number) bank.points;
  upto = bank.upto;
  levels = levels_of number bank.levels.items;
  dropped = option_map (lost_of number) bank.dropped;
}

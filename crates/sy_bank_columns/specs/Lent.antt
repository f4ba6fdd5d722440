-- The values of rows.
use Rattle.std.specs.Prelude.{List}
use Rattle.sy_bank_columns.specs.declared.lent.Row.{Row}
use Rattle.sy_bank_columns.specs.declared.lent.Row.TheVariants.{Lent, Own}

abbrev pub row_values : {V : Type 0} → Row V → List V
row_values (Lent values) = values.now
row_values (Own values) = values.items

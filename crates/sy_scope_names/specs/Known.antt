-- What a table of names declares.
use Rattle.std.specs.Prelude.{ℕ}
use Rattle.sy_forms_items.specs.Table.{NameTable}
use Rattle.sy_scope_names.specs.Contexts.{Context, beginning}

-- a context with these names and so many fresh variables, and nothing else
abbrev pub declared : NameTable → ℕ → Context
declared names fresh = record beginning { sorts = names.sorts; entities = names.entities; fresh = fresh }

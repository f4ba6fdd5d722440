-- Pools apart from memory.
use Rattle.std.specs.Prelude.{List}
use Rattle.sy_terms.specs.Values.{Val}
use Rattle.sy_terms.specs.Denoted.{vals_of}
use Rattle.sy_scope_names.specs.declared.pool.Pool.{Pool}

abbrev pub pool_of : {T N : Type 0} → (N → Val) → Pool T N → List Val
pool_of number pool = vals_of number pool.values.keys

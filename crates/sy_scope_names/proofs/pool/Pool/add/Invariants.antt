use Rattle.std.proofs.Common.{◌≡◌, drop}
use Rattle.sy_terms.specs.Denoted.{vals_of}
use Rattle.sy_scope_names.specs.Pools.{pooled}
use Rattle.sy_scope_names.specs.Kept.{pool_of}
use Rattle.sy_scope_names.proofs.pool.Pool.add.Given as goal

-- what is left
abbrev pub invariant-loop-value : goal.invariant-loop-value
invariant-loop-value g l =
    let number = g.T.Theory.denotes in
    pooled (pool_of number l.self) (vals_of number (drop l.value-index l.values)) ≡ pooled (pool_of number l.fn.self) (vals_of number l.fn.values)

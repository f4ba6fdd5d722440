use Rattle.std.proofs.Common.{◌≡◌}
use Rattle.std.specs.Prelude.{drop}
use Rattle.sy_terms.specs.Denoted.{vals_of}
use Rattle.sy_bank_level.specs.Hashing.{hash_from, lanes}
use Rattle.sy_bank_level.proofs.hash.row_hash.Given as goal

abbrev pub invariant-loop-value : goal.invariant-loop-value
invariant-loop-value g l =
    let number = g.T.Theory.denotes in
    hash_from l.fn.nonterminal (vals_of number l.row) ≡ lanes l.first l.second l.third (vals_of number (drop l.value-index l.row))

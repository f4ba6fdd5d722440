use Rattle.std.proofs.Common.{◌≡◌, take, Some}
use Rattle.sy_grammar_base.specs.Patterns.{own_sizes, all_occurring}
use Rattle.sy_grammar_base.specs.Written.{patterns_of}
use Rattle.sy_grammar_sizes.specs.Tables.{cut, entries_total}
use Rattle.sy_grammar_sizes.proofs.table.+part_size.Given as goal

abbrev pub invariant-parts_size-loop-part : goal.invariant-parts_size-loop-part
invariant-parts_size-loop-part g l =
    let patterns = patterns_of g.T.Theory.denotes (take l.part-index l.part-items) in
    Some l.sum ≡ cut l.limit (own_sizes patterns) (entries_total l.table (all_occurring patterns))

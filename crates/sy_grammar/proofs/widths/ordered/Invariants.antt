use Rattle.std.proofs.Common.{◌≡◌, ◌≤◌, ◌-◌, ◌++◌, length}
use Rattle.std.specs.List.{filter, range_with_len}
use Rattle.sy_grammar.specs.Defaults.{width_of, is_other}
use Rattle.sy_grammar.proofs.widths.ordered.Given as goal

abbrev pub invariant-loop-width : goal.invariant-loop-width
invariant-loop-width l = (l.widths ≡ width_of l.sort ++ filter (is_other l.sort l.args) (range_with_len 1 (l.width - 1))) × (length l.widths ≤ l.width)

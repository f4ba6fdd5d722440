use Rattle.std.proofs.Common.{◌≡◌, ◌++◌, map, drop}
use Rattle.sy_clauses.specs.Needed.{needs}
use Rattle.sy_clauses.specs.Numbers.{line_renumbered, lines_left, number_in}
use Rattle.sy_clauses.proofs.trimming.kept_lines.Given as goal

abbrev pub invariant-loop-place : goal.invariant-loop-place
invariant-loop-place l =
    l.kept ++ map (line_renumbered (number_in l.numbering))
    (lines_left (needs l.needed) l.place (drop l.place l.lines))
    ≡ map (line_renumbered (number_in l.numbering)) (lines_left (needs l.needed) 0 l.lines)

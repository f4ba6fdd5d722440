use Rattle.std.proofs.Common.{◌≡◌, ◌++◌, take, drop}
use Rattle.std.specs.Prelude.{All}
use Rattle.sy_proof.specs.Lists.{each_item, spaced}
use Rattle.sy_proof.specs.Logs.{line_item, LineIsSmall}
use Rattle.sy_proof.proofs.logs.put_lines.Given as goal

abbrev pub invariant-loop-line : goal.invariant-loop-line
invariant-loop-line l = record {
  text : l.out ++ spaced (each_item line_item (drop l.line-index l.lines)) ≡ l.fn.out ++ spaced (each_item line_item l.lines);
  small : All LineIsSmall (take l.line-index l.lines);
}

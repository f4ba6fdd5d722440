use Rattle.std.proofs.Common.{◌≡◌, ◌++◌, map, drop}
use Rattle.sy_text.specs.Spelling.{numeral_text}
use Rattle.sy_reply.specs.Replies.{spaced}
use Rattle.sy_reply.proofs.symbols.write_indexed.Given as goal

abbrev pub invariant-loop-index : goal.invariant-loop-index
invariant-loop-index l = l.out ++ spaced (map numeral_text (drop l.index-index l.indices)) ≡ l.initial.out ++ spaced (map numeral_text l.indices)

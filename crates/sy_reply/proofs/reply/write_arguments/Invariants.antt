use Rattle.std.proofs.Common.{◌≡◌, ◌++◌}
use Rattle.std.specs.List.{join_with_byte}
use Rattle.sy_reply.specs.Replies.{arguments_text}
use Rattle.sy_reply.proofs.Written.{left_text}
use Rattle.sy_reply.proofs.reply.write_arguments.Given as goal

abbrev pub invariant-loop-i : goal.invariant-loop-i
invariant-loop-i l = l.out ++ left_text l.i-iterator.count (arguments_text l.i-iterator.iter.a.rest.now l.i-iterator.iter.b.rest.now) ≡ l.fn.out ++ join_with_byte 32 (arguments_text l.names l.sorts)

use Rattle.std.proofs.Common.{sym, length}
use Rattle.sy_bits_operators.proofs.Taken.{pair_widths}
use Rattle.sy_bits_operators.proofs.vectors.pair.Goals as goal

pub same_width-requires-clause-same : goal.same_width-requires-clause-same
same_width-requires-clause-same c = sym (pair_widths c.args.op.now (length c.args.s.now) (length c.args.t.now) c.requires.ours c.in_default.not-Concat c.requires.takes)

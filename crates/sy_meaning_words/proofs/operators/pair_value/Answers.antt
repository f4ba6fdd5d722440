use Rattle.sy_meaning_words.proofs.Shapes.{pair_widths, joined_width}
use Rattle.sy_meaning_words.proofs.operators.pair_value.Goals as goal

pub joined-requires : goal.joined-requires
joined-requires c = joined_width c.args.s.width c.args.t.width (rw c.in-Concat.is at c.requires.takes)

pub same_width_value-requires-clause-same : goal.same_width_value-requires-clause-same
same_width_value-requires-clause-same c = pair_widths c.args.op.now c.args.s.width c.args.t.width c.requires.ours c.in_default.not-Concat c.requires.takes

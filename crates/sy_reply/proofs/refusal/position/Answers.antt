use Rattle.std.proofs.lemmas.List.{take_min}
use Rattle.sy_reply.proofs.refusal.position.Goals as goal

pub returns-clause-line : goal.returns-clause-line
returns-clause-line c = rw (c.min.ensures, take_min c.args.at c.args.bytes.now) at c.line_column.ensures.line

pub returns-clause-column : goal.returns-clause-column
returns-clause-column c = rw (c.min.ensures, take_min c.args.at c.args.bytes.now) at c.line_column.ensures.column

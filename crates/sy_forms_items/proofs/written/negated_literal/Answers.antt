use Rattle.std.proofs.Common.{sym}
use Rattle.sy_forms_items.proofs.Literals.{several_negated}
use Rattle.sy_forms_items.proofs.written.negated_literal.Goals as goal

pub returns-in-len2-up : goal.returns-in-len2-up
returns-in-len2-up g c = sym (several_negated g.T.Theory.denotes c.args.arguments.now c.in-len2-up.len_at_least)

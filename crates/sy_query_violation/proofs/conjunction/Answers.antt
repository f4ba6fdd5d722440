use Rattle.std.proofs.Common.{sym, ◌∙◌}
use Rattle.sy_query_violation.proofs.Parts.{conjoined-none, conjoined-some}
use Rattle.sy_query_violation.proofs.conjunction.Goals as goal

pub returns-then-len-eq0 : goal.returns-then-len-eq0
returns-then-len-eq0 g c = conjoined-none _ g.T.Theory.denotes c.args.terms.items.items (sym c.len.ensures ∙ c.if-len-eq0.true)

pub returns-else-len-eq0 : goal.returns-else-len-eq0
returns-else-len-eq0 g c = conjoined-some g.T.Theory.denotes c.args.terms (λ none. c.if-len-eq0.false (c.len.ensures ∙ none))

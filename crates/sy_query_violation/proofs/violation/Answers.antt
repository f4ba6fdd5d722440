use Rattle.std.proofs.Common.{ap, ◌∙◌, ◌++◌, ◌∷◌, []}
use Rattle.sy_query_violation.proofs.Parts.{violation-is}
use Rattle.sy_query_violation.proofs.violation.Goals as goal

pub returns : goal.returns
returns g c =
    violation-is g.T.Theory.denotes c.args.assumptions.items.items c.args.constraints.items.items c.push-2.new.self c.push.new.self c.conjunction.result c.conjunction.ensures
    (c.in_ok-push.ensures.ok ∙ ap (λ front. front ++ c.conjunction.result ∷ []) c.new-negated.ensures) c.in_ok-push-2.ensures.ok

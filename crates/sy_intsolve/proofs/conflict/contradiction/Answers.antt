use Rattle.std.proofs.Common.{subst}
use Rattle.sy_linear.specs.Judging.{contradiction_judged}
use Rattle.sy_linear_known.specs.Trees.{forms, IsContradiction}
use Rattle.sy_intsolve.proofs.Chosen.{told, contradicted}
use Rattle.sy_intsolve.proofs.conflict.contradiction.Goals as goal

pub returns-in-Ok-true : goal.returns-in-Ok-true
returns-in-Ok-true c =
    let all = c.as_slice.result.now in
    subst (λ ms. IsContradiction ms (forms c.args.facts.now)) c.as_slice.ensures
    (contradicted c.args.facts.now all 0 (told c.contradicts.result c.in-Ok-true.field-0 (contradiction_judged c.args.facts.now 0 all) c.in-Ok-true.is c.in-Ok-true.field-0-test c.contradicts.ensures))

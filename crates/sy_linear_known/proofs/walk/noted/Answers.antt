use Rattle.std.proofs.Common.{ap, ◌∙◌}
use Rattle.sy_linear_known.specs.Seen.{node_noted}
use Rattle.sy_linear_known.specs.Sights.{operator_applied}
use Rattle.sy_linear_known.specs.Fitting.{sight_fits, all_fit}
use Rattle.sy_linear_known.proofs.walk.noted.Goals as goal

pub applied-requires : goal.applied-requires
applied-requires c = ap all_fit c.as_slice.ensures ∙ c.requires

pub returns-in-Ok-clause-seen : goal.returns-in-Ok-clause-seen
returns-in-Ok-clause-seen c = c.noted.ensures ∙ ap (λ n. node_noted c.args.at n c.args.below) (c.in-Ok.ensures.ok ∙ ap (operator_applied c.args.path.now c.args.operator.now) c.as_slice.ensures)

pub returns-in-Ok-clause-fits : goal.returns-in-Ok-clause-fits
returns-in-Ok-clause-fits c = ap (λ s. sight_fits s.sight) c.noted.ensures ∙ c.in-Ok.ensures.fits

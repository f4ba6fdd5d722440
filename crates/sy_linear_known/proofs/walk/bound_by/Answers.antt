use Rattle.std.proofs.Common.{◌++◌, ap, ◌∙◌}
use Rattle.sy_linear_known.proofs.walk.bound_by.Goals as goal

pub returns-in-Ok-clause-names : goal.returns-in-Ok-clause-names
returns-in-Ok-clause-names c = c.in-Ok.ensures ∙ ap (λ sights. c.args.names.now.items ++ sights) c.as_slice.ensures

use Rattle.std.proofs.Common.{ap, ◌∙◌}
use Rattle.sy_linear_known.specs.Sights.{both_nodes}
use Rattle.sy_linear_known.proofs.comparisons.Comparison.joined.Goals as goal

pub returns-in-Ok : goal.returns-in-Ok
returns-in-Ok c = c.both.ensures ∙ ap (both_nodes c.args.before) c.in-Ok.ensures

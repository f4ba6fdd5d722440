use Rattle.sy_loop_spec.proofs.Distinct.{assignments_differ}
use Rattle.sy_loop_spec.proofs.law.honest_assignments_differ.Goals as goal

pub returns : goal.returns
returns c = assignments_differ

use Rattle.std.proofs.Common.{arith}
use Rattle.sy_loop_spec.proofs.Done.{begins}
use Rattle.sy_loop_claims.proofs.begin.first_size.Goals as goal

pub returns-clause-within : goal.returns-clause-within
returns-clause-within g = omega arith

pub returns-clause-done : goal.returns-clause-done
returns-clause-done g = begins

use Rattle.sy_gates.proofs.Gates.{made-value}
use Rattle.sy_gates.proofs.circuit.Circuit.found.Goals as goal

pub returns-clause-value : goal.returns-clause-value
returns-clause-value c = λ v f. rw c.variable.ensures (made-value v _ _ _ _ _ c.self.view_is c.in_ok-place.ensures.place f)

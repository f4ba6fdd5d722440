use Rattle.sygus_drills.proofs.Closed.{untrue}
use Rattle.sygus_drills.proofs.count.is_true.Goals as goal

pub returns-in-Num : goal.returns-in-Num
returns-in-Num g c = rw c.in-Num.is (untrue _ (g.met.T.Theory.no_truth c.in-Num.field-0))

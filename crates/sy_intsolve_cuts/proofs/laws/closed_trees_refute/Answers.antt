use Rattle.sy_intsolve_cuts.proofs.Refuting.{refutes, bare-grown_of}
use Rattle.sy_intsolve_cuts.proofs.laws.closed_trees_refute.Goals as goal

pub returns-clause-refutes : goal.returns-clause-refutes
returns-clause-refutes c order query path tree = refutes order query path tree

pub returns-clause-shape : goal.returns-clause-shape
returns-clause-shape c tree = bare-grown_of tree

use Rattle.std.proofs.Common.{length}
use Rattle.sy_cdcl.proofs.Bound.{new_differs, new_proper}
use Rattle.sy_cdcl.proofs.law.learned_clauses_differ.Goals as goal

pub returns-clause-different : goal.returns-clause-different
returns-clause-different c cnf log it m n one other l k at at' = new_differs (length cnf.clauses) it.clauses it.new m n one other l k at at'

pub returns-clause-one_sign : goal.returns-clause-one_sign
returns-clause-one_sign c cnf log it n one l at = new_proper (length cnf.clauses) it.clauses it.new n one l at

use Rattle.sy_loop_spec.proofs.Refuted as refuted
use Rattle.sy_loop_spec.proofs.law.nothing_refuted_solves.Goals as goal

pub returns-clause-violated : goal.returns-clause-violated
returns-clause-violated c = refuted.all_violate

pub returns-clause-unsolved : goal.returns-clause-unsolved
returns-clause-unsolved c = refuted.no_solution_within

pub returns-clause-exhausted : goal.returns-clause-exhausted
returns-clause-exhausted c = refuted.no_solution

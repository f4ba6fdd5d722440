use Rattle.sy_intsolve_paths_laws.proofs.Paths.{path-none, path-form, path-at_most, path-above}
use Rattle.sy_intsolve_paths_laws.proofs.law.paths_grow.Goals as goal

pub returns-clause-none : goal.returns-clause-none
returns-clause-none c vars = path-none vars

pub returns-clause-form : goal.returns-clause-form
returns-clause-form c vars path form = path-form vars path form

pub returns-clause-at_most : goal.returns-clause-at_most
returns-clause-at_most c vars path variable bound = path-at_most vars path variable bound

pub returns-clause-above : goal.returns-clause-above
returns-clause-above c vars path variable bound = path-above vars path variable bound

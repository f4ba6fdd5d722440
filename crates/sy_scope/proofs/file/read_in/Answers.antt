use Rattle.sy_scope.proofs.file.read_in.Goals as goal

pub read_by-read-requires-clause-begun : goal.read_by-read-requires-clause-begun
read_by-read-requires-clause-begun g c = c.new-context.ensures.context

pub read_by-read-requires-clause-logic : goal.read_by-read-requires-clause-logic
read_by-read-requires-clause-logic g c = c.new-context.ensures.logic

pub returns-clause-read : goal.returns-clause-read
returns-clause-read g c = c.read_by-read.ensures.read

pub returns-clause-fit : goal.returns-clause-fit
returns-clause-fit g c = c.read_by-read.ensures.fit

use Rattle.std.proofs.Common.{◌≡◌, take, map}
use Rattle.sy_clauses.specs.Clauses.{literals}
use Rattle.sy_cdcl.specs.Storing.{clauses_in, SpansFit}
use Rattle.sy_cdcl.proofs.store.Store.new.Given as goal

abbrev pub invariant-loop-clause : goal.invariant-loop-clause
invariant-loop-clause l = record {
  clauses : clauses_in l.store ≡ map literals (take l.clause-index l.clauses);
  fit : SpansFit l.store;
}

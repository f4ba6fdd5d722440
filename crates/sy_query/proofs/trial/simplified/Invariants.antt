use Rattle.sy_terms.specs.Denoted.{vals_of}
use Rattle.sy_query_base.specs.Asked.{query_of, Satisfies}
use Rattle.sy_query.proofs.trial.simplified.Given as goal

abbrev pub invariant-loop-place : goal.invariant-loop-place
invariant-loop-place g l = Satisfies (query_of g.T.Theory.denotes l.query) (vals_of g.T.Theory.denotes l.simple.values)

abbrev pub invariant-loop-place-2 : goal.invariant-loop-place-2
invariant-loop-place-2 g l = Satisfies (query_of g.T.Theory.denotes l.query) (vals_of g.T.Theory.denotes l.simple.values)

use Rattle.sy_query_base.specs.Asked.{query_of}
use Rattle.sy_meaning_words.specs.Vectors.{vector}
use Rattle.sy_bits_circuit.proofs.Alike.{found_before}
use Rattle.sy_bits_circuit.proofs.clauses.normal_circuit.Goals as goal

pub returns-clause-speaks : goal.returns-clause-speaks
returns-clause-speaks c =
    found_before (query_of vector c.args.query.now) (query_of vector c.in_ok-normal.normal) c.args.size c.settled_circuit-found.result
    c.in_ok-normal.ensures.variables c.in_ok-normal.ensures.same c.settled_circuit-found.ensures.speaks

pub returns-clause-vars : goal.returns-clause-vars
returns-clause-vars c = c.settled_circuit-found.ensures.vars

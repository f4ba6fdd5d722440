use Rattle.sy_query_base.specs.Asked.{query_of}
use Rattle.sy_meaning_words.specs.Vectors.{vector}
use Rattle.sy_bits_circuit.proofs.Alike.{speaks}
use Rattle.sy_bits_circuit.proofs.clauses.small_circuit.Goals as goal

pub returns-clause-speaks : goal.returns-clause-speaks
returns-clause-speaks c =
    let few = rw (c.cnf.ensures) at c.is_within.ensures.0 c.if-not-is_within.false in
    speaks (query_of vector c.args.query.now) c.args.size c.in_ok-circuit.circuit c.in_ok-circuit.ensures.variables c.in_ok-circuit.ensures.clauses few.0 few.1

pub returns-clause-vars : goal.returns-clause-vars
returns-clause-vars c = c.in_ok-circuit.ensures.vars

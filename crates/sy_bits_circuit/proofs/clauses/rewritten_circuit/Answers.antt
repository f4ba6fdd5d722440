use Rattle.sy_query_base.specs.Asked.{query_of}
use Rattle.sy_meaning_words.specs.Vectors.{vector}
use Rattle.sy_bits_circuit.proofs.Alike.{found_before, found_variables, found_clauses}
use Rattle.sy_bits_circuit.proofs.clauses.rewritten_circuit.Goals as goal

pub returns-clause-variables : goal.returns-clause-variables
returns-clause-variables c =
    let query = query_of vector c.args.query.now in
    let found = c.normal_circuit-found.result in
    found_variables query c.args.size found c.requires.size
    (found_before query (query_of vector c.in_ok-first.first) c.args.size found c.in_ok-first.ensures.variables c.in_ok-first.ensures.same c.normal_circuit-found.ensures.speaks)

pub returns-clause-clauses : goal.returns-clause-clauses
returns-clause-clauses c =
    let query = query_of vector c.args.query.now in
    let found = c.normal_circuit-found.result in
    found_clauses query c.args.size found c.requires.size
    (found_before query (query_of vector c.in_ok-first.first) c.args.size found c.in_ok-first.ensures.variables c.in_ok-first.ensures.same c.normal_circuit-found.ensures.speaks)

pub returns-clause-vars : goal.returns-clause-vars
returns-clause-vars c = c.normal_circuit-found.ensures.vars

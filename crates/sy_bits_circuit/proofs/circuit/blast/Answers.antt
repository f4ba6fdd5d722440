use Rattle.sy_meaning_words.specs.Vectors.{vector}
use Rattle.sy_query_base.specs.Asked.{query_of}
use Rattle.sy_bits_circuit.proofs.Saying.{circuit-clauses, below}
use Rattle.sy_bits_circuit.proofs.circuit.blast.Goals as goal

pub returns-clause-clauses : goal.returns-clause-clauses
returns-clause-clauses c =
    let made = c.in_ok-clauses.ensures in
    let out = c.in_ok-output.ensures in
    circuit-clauses (query_of vector c.args.query.now) _ _ c.in_ok-circuit.field-0.signal c.bit.result c.in_ok-output.output c.in_ok-clauses.clauses
    c.requires.fits c.in_ok-circuit.ensures (λ v. c.bit.ensures.value v) out.grown out.cost (λ v. out.value v) made.vars made.bound made.last (λ v. made.models v) made.one_way made.count

pub returns-clause-vars : goal.returns-clause-vars
returns-clause-vars c = below c.in_ok-clauses.clauses.clauses c.in_ok-clauses.clauses.vars c.in_ok-clauses.ensures.bound

use Rattle.std.proofs.Common.{arith, subst}
use Rattle.sy_query_base.specs.Asked.{Query, query_of}
use Rattle.sy_meaning_words.specs.Vectors.{vector}
use Rattle.sy_meaning_words.specs.declared.theory.BvTheory.{BvTheory}
use Rattle.sy_bits_circuit.specs.Clauses.{HasCircuitClauses}
use Rattle.sy_bits_circuit.proofs.Constants.{constant_size, constant_written, written_fits, written_room, says_closed}
use Rattle.sy_bits_circuit.proofs.closed.closed_circuit.Goals as goal

pub blast-circuit-requires-clause-fits : goal.blast-circuit-requires-clause-fits
blast-circuit-requires-clause-fits c = written_fits _ c.in-Some.truth (constant_written BvTheory vector c.new.result c.in-Some.truth c.new.ensures)

pub blast-circuit-requires-clause-room : goal.blast-circuit-requires-clause-room
blast-circuit-requires-clause-room c = written_room _ c.in-Some.truth (constant_written BvTheory vector c.new.result c.in-Some.truth c.new.ensures)

pub returns-clause-clauses : goal.returns-clause-clauses
returns-clause-clauses c =
    says_closed (query_of vector c.args.query.now) c.in-Some.truth c.args.size c.in_ok-circuit.field-0 (omega (arith, c.len.ensures, c.if-len-gt0.false)) (omega (arith, c.if-size-eq0.false)) c.requires.size
    (rw c.in-Some.is at c.in_ok-truth.ensures)
    (subst (λ (q : Query). HasCircuitClauses q c.in_ok-circuit.field-0.clauses) (constant_written BvTheory vector c.new.result c.in-Some.truth c.new.ensures) c.in_ok-circuit.ensures.clauses)

pub returns-clause-count : goal.returns-clause-count
returns-clause-count c =
    let written = constant_written BvTheory vector c.new.result c.in-Some.truth c.new.ensures in
    let has = subst (λ (q : Query). HasCircuitClauses q c.in_ok-circuit.field-0.clauses) written c.in_ok-circuit.ensures.clauses in
    omega (arith, has.few_clauses, constant_size c.in-Some.truth)

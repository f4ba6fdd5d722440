-- A query for which a proof is accepted is never satisfied.
use Rattle.sy_query_base.specs.Asked.{Query, QueryFits, IsNever}
use Rattle.sy_meaning_words.specs.Vectors.{owned, is_bits}
use Rattle.sy_clauses.proofs.Law.{refuted_has_no_model}
use Rattle.sy_bits_circuit.proofs.Laws.{never}
use Rattle.sy_bits.specs.declared.answers.BvProof.{BvProof}
use Rattle.sy_bits.specs.Proofs.{Accepted}

pub sound : (query : Query) (proof : BvProof) → QueryFits owned is_bits query → Accepted query proof → IsNever query
sound query proof fits accepted =
    never query proof.cnf fits accepted.circuit (refuted_has_no_model proof.cnf proof.log accepted.refuted)

-- A query for which a log in text is accepted is never satisfied.
use Rattle.sy_text_items.specs.Items.{Item}
use Rattle.sy_clauses.proofs.Law.{refuted_has_no_model}
use Rattle.sy_meaning_words.specs.Vectors.{is_bits, owned}
use Rattle.sy_query_base.specs.Asked.{Query, QueryFits, IsNever}
use Rattle.sy_bits_circuit.proofs.Laws.{never}
use Rattle.sy_verify_proofs.specs.Logs.{LogProves}

pub sound : (query : Query) (item : Item) → QueryFits owned is_bits query → LogProves query item → IsNever query
sound query item fits it = never query it.cnf fits it.proves.circuit (refuted_has_no_model it.cnf it.log it.proves.refuted)

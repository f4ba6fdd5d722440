use Rattle.std.proofs.Common.{ap, ◌∙◌}
use Rattle.sy_terms.specs.Denoted.{val_of, vals_of}
use Rattle.sy_query_base.specs.Asked.{query_of}
use Rattle.sy_meaning_words.specs.Vectors.{vector}
use Rattle.sy_bits_circuit.proofs.Constants.{evaluated}
use Rattle.sy_bits_circuit.proofs.closed.truth_of.Goals as goal

pub returns-in-Ok-Truth : goal.returns-in-Ok-Truth
returns-in-Ok-Truth c =
    evaluated vector (query_of vector c.args.query.now) c.new-defs.result (vals_of vector c.as_slice.result.now) (val_of vector c.in-Ok-Truth.field-0) c.in-Ok-Truth.truth c.requires.fits c.requires.closed
    c.new-defs.ensures (ap (vals_of vector) (c.as_slice.ensures.value ∙ c.new-nothing.ensures.items)) (ap (val_of vector) c.in-Ok-Truth.field-0-is) c.in-Ok-Truth.ensures.ok

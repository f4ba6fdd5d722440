use Rattle.sy_terms.specs.Denoted.{vals_of}
use Rattle.sy_meaning_words.specs.Vectors.{vector}
use Rattle.sy_meaning_words.proofs.Ranges.{fits_always, valid_always, not_ints}
use Rattle.sy_meaning_words.proofs.theory.BvTheoryTheory.apply.Goals as goal

pub returns : goal.returns
returns c = (valid_always c.operator_value.result, fits_always c.args.op.now (vals_of vector c.args.args.now) (not_ints c.args.op.now c.requires.owned), c.operator_value.ensures)

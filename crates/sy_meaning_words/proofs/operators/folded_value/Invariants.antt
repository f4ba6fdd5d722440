use Rattle.std.proofs.Common.{◌≡◌, ◌∷◌, drop}
use Rattle.sy_terms.specs.Operators.{op_value}
use Rattle.sy_terms.specs.Theories.{sort_of_value}
use Rattle.sy_terms.specs.Denoted.{val_of, vals_of}
use Rattle.sy_meaning_words.specs.Vectors.{vector}
use Rattle.sy_meaning_words.proofs.operators.folded_value.Given as goal

abbrev pub invariant-loop-next : goal.invariant-loop-next
invariant-loop-next l = record {
  sort : sort_of_value (val_of vector l.total) ≡ sort_of_value (val_of vector l.initial.total);
  left : op_value l.op (val_of vector l.total ∷ vals_of vector (drop l.next-index l.rest)) ≡ op_value l.op (val_of vector l.initial.total ∷ vals_of vector l.rest);
}

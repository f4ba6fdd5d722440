use Rattle.std.proofs.Common.{◌≡◌, List, [], ◌∷◌, take}
use Rattle.sy_terms.specs.Values.{Val}
use Rattle.sy_terms.specs.Operators.{op_value}
use Rattle.sy_terms.specs.Denoted.{exprs_of}
use Rattle.sy_terms.specs.Meaning.{meanings}
use Rattle.sy_terms.specs.declared.sort.Sort.{Sort}
use Rattle.sy_meaning_words.specs.Vectors.{vector}
use Rattle.sy_query_normal.specs.Unordered.{IsUnordered}
use Rattle.sy_query_normal.proofs.parts.flattened.Given as goal

abbrev pub invariant-loop-term : goal.invariant-loop-term
invariant-loop-term l = (sort : Sort) → IsUnordered sort l.operator → (values : List Val) (first : Val) → op_value l.operator (first ∷ meanings [] [] values (exprs_of vector l.parts.items)) ≡ op_value l.operator (first ∷ meanings [] [] values (exprs_of vector (take l.term-index l.terms)))

use Rattle.std.proofs.Common.{◌≡◌, List, [], ◌∷◌, take}
use Rattle.sy_terms.specs.Values.{Val}
use Rattle.sy_terms.specs.Operators.{op_value}
use Rattle.sy_terms.specs.Denoted.{expr_of, exprs_of}
use Rattle.sy_terms.specs.Meaning.{meaning, meanings}
use Rattle.sy_meaning_words.specs.Vectors.{vector}
use Rattle.sy_query_normal.proofs.chains.from_left.Given as goal

abbrev pub invariant-loop-term : goal.invariant-loop-term
invariant-loop-term l = (values : List Val) → meaning [] [] values (expr_of vector l.whole) ≡ op_value l.operator (meaning [] [] values (expr_of vector l.first) ∷ meaning [] [] values (expr_of vector l.second) ∷ meanings [] [] values (exprs_of vector (take l.term-index l.rest)))

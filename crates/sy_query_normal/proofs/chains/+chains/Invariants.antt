use Rattle.std.proofs.Common.{◌≡◌, List, [], take}
use Rattle.sy_terms.specs.Values.{Val}
use Rattle.sy_terms.specs.Denoted.{exprs_of}
use Rattle.sy_terms.specs.Meaning.{meanings}
use Rattle.sy_meaning_words.specs.Vectors.{vector}
use Rattle.sy_query_normal.proofs.chains.+chains.Given as goal

abbrev pub invariant-all_paired-loop-term : goal.invariant-all_paired-loop-term
invariant-all_paired-loop-term l = (values : List Val) → meanings [] [] values (exprs_of vector l.all.items.items) ≡ meanings [] [] values (exprs_of vector (take l.term-index l.terms))

use Rattle.std.proofs.Common.{List, [], take}
use Rattle.sy_terms.specs.Values.{Val}
use Rattle.sy_terms.specs.Denoted.{exprs_of}
use Rattle.sy_terms.specs.Meaning.{meanings}
use Rattle.sy_meaning_words.specs.Vectors.{vector}
use Rattle.sy_rewrite_orders.specs.Sums.{HaveSums, BeginWithSorts}
use Rattle.sy_rewrite_orders.proofs.sums.+sums.Given as goal

abbrev pub invariant-sums_of-loop-term : goal.invariant-sums_of-loop-term
invariant-sums_of-loop-term l = (values : List Val) → BeginWithSorts l.sorts values → HaveSums values l.sums.items (meanings [] [] values (exprs_of vector (take l.term-index l.terms)))

use Rattle.std.proofs.Common.{◌≡◌, List, [], take, map}
use Rattle.sy_terms.specs.Values.{Val}
use Rattle.sy_terms.specs.Denoted.{exprs_of}
use Rattle.sy_terms.specs.Meaning.{meanings}
use Rattle.sy_terms.specs.Theories.{sort_of_value}
use Rattle.sy_meaning_words.specs.Vectors.{vector}
use Rattle.sy_query_normal.proofs.sorts.+sorts.Given as goal
use Rattle.sy_rewrite_orders.specs.Sums.{BeginWithSorts}

abbrev pub invariant-application_sort-loop-term : goal.invariant-application_sort-loop-term
invariant-application_sort-loop-term l = (values : List Val) → BeginWithSorts l.sorts values → map sort_of_value (meanings [] [] values (exprs_of vector (take l.term-index l.terms))) ≡ l.found.items

use Rattle.std.proofs.Common.{List, [], take}
use Rattle.sy_terms.specs.Values.{Val}
use Rattle.sy_terms.specs.Denoted.{exprs_of}
use Rattle.sy_terms.specs.Meaning.{meanings}
use Rattle.sy_meaning_words.specs.Vectors.{vector}
use Rattle.sy_query_normal.specs.Unordered.{GiveTheSame, IsUnordered}
use Rattle.sy_query_normal.proofs.parts.in_order.Given as goal
use Rattle.sy_rewrite_orders.specs.Sums.{BeginWithSorts}

abbrev pub invariant-loop-part : goal.invariant-loop-part
invariant-loop-part l = IsUnordered l.sort l.operator → (values : List Val) → BeginWithSorts l.sorts values → GiveTheSame l.sort l.operator (meanings [] [] values (exprs_of vector l.ordered.items)) (meanings [] [] values (exprs_of vector (take l.part-index l.parts)))

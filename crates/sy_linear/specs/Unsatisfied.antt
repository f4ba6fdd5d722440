-- Queries that nothing satisfies.
use Rattle.std.specs.Prelude.{◌≡◌, false, List, []}
use Rattle.sy_terms.specs.Values.{Val, truth}
use Rattle.sy_terms.specs.Meaning.{meaning}
use Rattle.sy_linear_known.specs.Seen.{LinearQuery}
use Rattle.sy_linear_known.specs.Right.{Assigns}

-- no assignment of whole numbers and truth values makes the query true
abbrev pub NoneSatisfies : LinearQuery → Type 0
NoneSatisfies q = (values : List Val) → Assigns q.vars values → truth (meaning [] [] values q.body) ≡ false

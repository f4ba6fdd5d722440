-- The lines of verdicts. Numbers are decimal, and each line ends with byte 10.
use Rattle.std.specs.Prelude.{ℕ, ◌+◌, ◌≤◌, ◌≡◌, ℤ, pos, negsuc, List, [], ◌∷◌, ◌++◌, codes, map, length, take, true, false, slice_get, Option, Some, None}
use Rattle.std.specs.List.{concat}
use Rattle.std.specs.Io.KnownBytes.{Appends}
use Rattle.sy_text.specs.Spelling.{symbol_text, numeral_text, vector_text}
use Rattle.sy_terms.specs.Values.{Val, Truth, Whole, Bits}
use Rattle.sy_scope_causes.specs.declared.titles.Title.{Title}
use Rattle.sy_scope_causes.specs.declared.titles.Titles.{Titles}
use Rattle.sy_reply.specs.Lines.{fail_name}
use Rattle.sygus_verdicts.specs.Verdicts.{Verdict, Holds, Accepted, Rejected, NoDefinitions, NotMember, Refuted, Budget, Clauses, NoClauses}

-- a whole number; one below 0 as `(- n)`
abbrev pub whole_text : ℤ → List ℕ
whole_text (pos n) = numeral_text n
whole_text (negsuc n) = codes "(- " ++ numeral_text (n + 1) ++ codes ")"

-- a value of a variable
unfoldable pub value_text : Val → List ℕ
value_text (Truth true) = codes "true"
value_text (Truth false) = codes "false"
value_text (Whole number) = whole_text number
value_text (Bits width number) = vector_text width number

-- each value after a space
abbrev pub values_text : List Val → List ℕ
values_text values = concat (map (λ value. 32 ∷ value_text value) values)

-- the name of a function to be found
abbrev pub title_text : Option Title → List ℕ
title_text None = []
title_text (Some title) = symbol_text title.name

unfoldable pub verdict_text : Titles → Verdict → List ℕ
verdict_text titles Holds = codes "holds"
verdict_text titles Accepted = codes "accepted"
verdict_text titles Rejected = codes "proof rejected"
verdict_text titles NoDefinitions = codes "no definitions"
verdict_text titles (NotMember function) = codes "not in grammar " ++ title_text (slice_get titles.wanted function)
verdict_text titles (Refuted values) = codes "refuted at" ++ values_text values
verdict_text titles (Budget name) = codes "budget " ++ fail_name name
verdict_text titles (Clauses text) = codes "clauses\n" ++ text
verdict_text titles NoClauses = codes "no clauses"

-- check-synth K VERDICT
abbrev pub verdict_line : Titles → ℕ → Verdict → List ℕ
verdict_line titles check verdict = codes "check-synth " ++ numeral_text check ++ codes " " ++ verdict_text titles verdict ++ codes "\n"

-- the lines of verdicts of which the first has this number
unfoldable pub verdict_lines : Titles → ℕ → List Verdict → List ℕ
verdict_lines titles check [] = []
verdict_lines titles check (verdict ∷ verdicts) = verdict_line titles check verdict ++ verdict_lines titles (check + 1) verdicts

-- the line on the error output where memory ran out
abbrev pub memory_line : List ℕ
memory_line = codes "want of memory\n"

-- what was written are the lines of all verdicts but the last, and a prefix of the last one's
pub record WritesMostLines (titles : Titles) (verdicts : List Verdict) (out out' : Option (List ℕ)) : Type 0 where
  pub earlier : List Verdict
  pub last : List Verdict
  pub split : verdicts ≡ earlier ++ last
  pub one : length last ≤ 1
  pub count : ℕ
  pub whole : length (verdict_lines titles 1 earlier) ≤ count
  pub written : Appends out out' (take count (verdict_lines titles 1 verdicts))

-- The lines that the program writes beside its replies. Numbers are decimal, and each line ends with byte 10.
use Rattle.std.specs.Prelude.{ℕ, ◌+◌, List, [], ◌∷◌, ◌++◌, take, count_by, nat_eq, not, codes}
use Rattle.std.specs.List.{suffix_len}
use Rattle.sy_text.specs.Spelling.{numeral_text}
use Rattle.sy_scope_causes.specs.Causes.{number_of_cause, cause_name}
use Rattle.sy_scope_causes.specs.declared.cause.Refused.{Refused}
use Rattle.sy_query_limits.specs.declared.FailName.{FailName}
use Rattle.sy_query_limits.specs.declared.FailName.TheVariants as fail

-- the line of an offset: one more than the line feeds before it
abbrev pub line_of : List ℕ → ℕ → ℕ
line_of bytes at = 1 + count_by (λ byte. nat_eq byte 10) (take at bytes)

-- the column of an offset: one more than the bytes since the last line feed before it
abbrev pub column_of : List ℕ → ℕ → ℕ
column_of bytes at = 1 + suffix_len (λ byte. not (nat_eq byte 10)) (take at bytes)

-- refused: command K line L column C cause N NAME
abbrev pub refusal_line : List ℕ → Refused → List ℕ
refusal_line bytes r =
    codes "refused: command " ++ (numeral_text r.command
    ++ (codes " line " ++ (numeral_text (line_of bytes r.place.at)
    ++ (codes " column " ++ (numeral_text (column_of bytes r.place.at)
    ++ (codes " cause " ++ (numeral_text (number_of_cause r.cause) ++ (codes " " ++ (cause_name r.cause ++ 10 ∷ [])))))))))

unfoldable pub fail_name : FailName → List ℕ
fail_name fail.Size = codes "Size"
fail_name fail.Rounds = codes "Rounds"
fail_name fail.Points = codes "Points"
fail_name fail.Bank = codes "Bank"
fail_name fail.Weight = codes "Weight"
fail_name fail.Clauses = codes "Clauses"
fail_name fail.Nodes = codes "Nodes"
fail_name fail.Pivots = codes "Pivots"
fail_name fail.Range = codes "Range"

-- fail: check-synth K NAME
abbrev pub fail_line : ℕ → FailName → List ℕ
fail_line check name = codes "fail: check-synth " ++ (numeral_text check ++ (codes " " ++ (fail_name name ++ 10 ∷ [])))

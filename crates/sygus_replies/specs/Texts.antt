-- The texts on the output and the lines on the error output.
use Rattle.std.specs.Prelude.{ℕ, ◌+◌, List, [], ◌∷◌, ◌++◌, codes}
use Rattle.sy_grammar_base.specs.Questions.{Question}
use Rattle.sy_scope_causes.specs.declared.titles.Titles.{Titles}
use Rattle.sy_reply.specs.Lines.{fail_line}
use Rattle.sy_reply.specs.Replies.{line, reply_text}
use Rattle.sygus_replies.specs.Replies.{Reply, Defined, Infeasible, Failed, Shown}

-- the text of a reply: definitions, `infeasible`, or `fail`
unfoldable pub plain_text : Titles → Question → Reply → List ℕ
plain_text titles question (Defined bodies) = reply_text titles question bodies
plain_text titles question Infeasible = line (codes "infeasible")
plain_text titles question (Failed name) = line (codes "fail")

-- the same, followed by the line of its proof
abbrev pub answer_text : Titles → Question → Shown → List ℕ
answer_text titles question shown = plain_text titles question shown.reply ++ shown.proof

-- the texts of the replies to the first questions, one after the other
unfoldable pub texts : Titles → List Question → List Shown → List ℕ
texts titles questions [] = []
texts titles [] (shown ∷ rest) = []
texts titles (question ∷ questions) (shown ∷ rest) = answer_text titles question shown ++ texts titles questions rest

-- the line of the reply to check-synth number k, where it is a fail
unfoldable pub answer_line : ℕ → Reply → List ℕ
answer_line k (Defined bodies) = []
answer_line k Infeasible = []
answer_line k (Failed name) = fail_line k name

-- the lines of replies of which the first has number k
unfoldable pub answer_lines : ℕ → List Reply → List ℕ
answer_lines k [] = []
answer_lines k (reply ∷ replies) = answer_line k reply ++ answer_lines (k + 1) replies

abbrev pub too_long_line : List ℕ
too_long_line = line (codes "refused: input longer than 4194304 bytes")

abbrev pub words_line : List ℕ
words_line = line (codes "refused: words")

abbrev pub read_line : List ℕ
read_line = line (codes "fault: read")

abbrev pub memory_line : List ℕ
memory_line = line (codes "want of memory")

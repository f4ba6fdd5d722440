-- The line of a refused reply. Numbers are decimal, and the line ends with byte 10.
use Rattle.std.specs.Prelude.{ℕ, List, [], ◌∷◌, ◌++◌, codes}
use Rattle.sy_text.specs.Spelling.{numeral_text}
use Rattle.sy_scope_causes.specs.Causes.{cause_name, fault_name}
use Rattle.sy_reply.specs.Lines.{line_of, column_of}
use Rattle.sy_reply.specs.declared.refused.ReplyCause.{ReplyCause}
use Rattle.sy_reply.specs.declared.refused.ReplyCause.TheVariants as reply
use Rattle.sy_reply.specs.declared.refused.ReplyRefused.{ReplyRefused}

unfoldable pub number_of_reply_cause : ReplyCause → ℕ
number_of_reply_cause reply.Count = 26
number_of_reply_cause (reply.Text fault) = 21
number_of_reply_cause reply.Shape = 22
number_of_reply_cause reply.Name = 23
number_of_reply_cause reply.Signature = 24
number_of_reply_cause (reply.Term cause) = 25
number_of_reply_cause reply.ProofShape = 27

-- the name of a cause; those of the text and of a term have the name of the inner fault behind them
unfoldable pub reply_cause_name : ReplyCause → List ℕ
reply_cause_name reply.Count = codes "ReplyCount"
reply_cause_name (reply.Text fault) = codes "ReplyText " ++ fault_name fault
reply_cause_name reply.Shape = codes "ReplyShape"
reply_cause_name reply.Name = codes "ReplyName"
reply_cause_name reply.Signature = codes "ReplySignature"
reply_cause_name (reply.Term cause) = codes "ReplyTerm " ++ cause_name cause
reply_cause_name reply.ProofShape = codes "ProofShape"

-- reply refused: check-synth K line L column C cause N NAME
abbrev pub reply_refusal_line : List ℕ → ReplyRefused → List ℕ
reply_refusal_line bytes r =
    codes "reply refused: check-synth " ++ (numeral_text r.check
    ++ (codes " line " ++ (numeral_text (line_of bytes r.place.at)
    ++ (codes " column " ++ (numeral_text (column_of bytes r.place.at)
    ++ (codes " cause " ++ (numeral_text (number_of_reply_cause r.cause) ++ (codes " " ++ (reply_cause_name r.cause ++ 10 ∷ [])))))))))

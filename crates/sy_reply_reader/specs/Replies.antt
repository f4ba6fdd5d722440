-- The replies to the `check-synth` commands of a file, one after the other.
use Rattle.std.specs.Prelude.{ℕ, ◌+◌, List, [], ◌∷◌, Bool, true, false, length, drop, Option, Some, None, Result, Ok, Err, codes, if◌then◌else◌}
use Rattle.sy_text_items.specs.Items.{Item, leaf, group, Items, none, more}
use Rattle.sy_text_items.specs.declared.atom.Place.{Place}
use Rattle.sy_text_items.specs.declared.fault.TextFault.{TextFault}
use Rattle.sy_text.specs.Reading.{command_at, offset_of}
use Rattle.sy_terms.specs.Expr.{Expr}
use Rattle.sy_terms.specs.declared.sort.Logic.{Logic}
use Rattle.sy_terms.specs.declared.sort.Logic.TheVariants.{Lia, Bv}
use Rattle.sy_forms_items.specs.Parts.{is_symbol, place_of}
use Rattle.sy_grammar_base.specs.Questions.{Question}
use Rattle.sy_scope_causes.specs.declared.titles.Titles.{Titles}
use Rattle.sy_reply.specs.Ends.{ReplyReading, refuse_reply, ◌>>=◌}
use Rattle.sy_reply.specs.Statements.{Statement, Nothing, Bodies}
use Rattle.sy_reply.specs.declared.refused.ReplyCause.{ReplyCause}
use Rattle.sy_reply.specs.declared.refused.ReplyCause.TheVariants as reply
use Rattle.sy_reply_reader.specs.Definitions.{there_or, definitions_read}

abbrev pub item_read_as : ℕ → Result (Option (Item × ℕ)) TextFault → ReplyReading (Option (Item × ℕ))
item_read_as check (Ok found) = Ok found
item_read_as check (Err fault) = refuse_reply check (record { at = offset_of fault }) (reply.Text fault)

-- the next item from an offset on, and the offset behind it; None where there is no more
abbrev pub next_item : ℕ → List ℕ → ℕ → ReplyReading (Option (Item × ℕ))
next_item check file at = item_read_as check (command_at (length file) (drop at file))

-- the end of a file
abbrev pub end_of : List ℕ → Place
end_of file = record { at = length file }

-- an item that has to be there
abbrev pub item_read : ℕ → ReplyCause → List ℕ → ℕ → ReplyReading (Item × ℕ)
item_read check missing file at = next_item check file at >>= there_or check (end_of file) missing

-- the word that a proof begins with
abbrev pub proof_word : Logic → List ℕ
proof_word Lia = codes "tree"
proof_word Bv = codes "log"

-- a list that begins with this word
abbrev pub begins_with : List ℕ → Item → Bool
begins_with word (group (more head rest) place) = is_symbol word head
begins_with word _ = false

-- the proof behind definitions
abbrev pub proof_read : ℕ → Logic → List ℕ → ℕ → ReplyReading (Item × ℕ)
proof_read check logic file at =
    item_read check reply.ProofShape file at >>= λ x.
    if begins_with (proof_word logic) x.0 then Ok x else refuse_reply check (place_of x.0) reply.ProofShape

abbrev pub with_proof : List Expr → Item × ℕ → ReplyReading (Statement × ℕ)
with_proof bodies x = Ok (Bodies bodies (Some x.0), x.1)

-- What the definitions up to an offset state: with proofs, each has its own behind it.
abbrev pub stated_by : Bool → ℕ → Logic → List ℕ → ℕ → Option (List Expr) → ReplyReading (Statement × ℕ)
stated_by proofs check logic file at None = Ok (Nothing, at)
stated_by false check logic file at (Some bodies) = Ok (Bodies bodies None, at)
stated_by true check logic file at (Some bodies) = proof_read check logic file at >>= with_proof bodies

-- the statement of the reply to one check-synth, from an offset on, and the offset behind it
unfoldable pub statement_read : Bool → Logic → Titles → List ℕ → ℕ → Question → ℕ → ReplyReading (Statement × ℕ)
statement_read proofs logic titles file check question at =
    item_read check reply.Count file at >>= λ x.
    definitions_read check logic titles question x.0 >>= stated_by proofs check logic file x.1

-- behind the last reply nothing stands
abbrev pub nothing_left : ℕ → Option (Item × ℕ) → ReplyReading (List Statement)
nothing_left check None = Ok []
nothing_left check (Some x) = refuse_reply check (place_of x.0) reply.Count

abbrev pub end_read : ℕ → List ℕ → ℕ → ReplyReading (List Statement)
end_read check file at = next_item check file at >>= nothing_left check

abbrev pub behind : Statement → List Statement → ReplyReading (List Statement)
behind statement rest = Ok (statement ∷ rest)

-- the statements of the replies from an offset on, of which the first answers the check-synth of this number
unfoldable pub statements_from : Bool → Logic → Titles → List ℕ → ℕ → List Question → ℕ → ReplyReading (List Statement)
statements_from proofs logic titles file check [] at = end_read check file at
statements_from proofs logic titles file check (question ∷ questions) at =
    statement_read proofs logic titles file check question at >>= λ x.
    statements_from proofs logic titles file (check + 1) questions x.1 >>= behind x.0

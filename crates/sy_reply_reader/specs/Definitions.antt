-- The definitions of one reply.
use Rattle.std.specs.Prelude.{ℕ, List, Bool, ◌||◌, Option, Some, None, Ok, Err, codes, slice_set, if◌then◌else◌}
use Rattle.sy_text_items.specs.Items.{Item, Items, none, more}
use Rattle.sy_text_items.specs.declared.atom.Place.{Place}
use Rattle.sy_terms.specs.Expr.{Expr}
use Rattle.sy_terms.specs.Fitting.{Signature}
use Rattle.sy_terms.specs.declared.sort.Logic.{Logic}
use Rattle.sy_forms_items.specs.Parts.{is_symbol, place_of}
use Rattle.sy_forms_items.specs.Readings.{Reading}
use Rattle.sy_grammar_base.specs.Questions.{Question}
use Rattle.sy_scope_steps.specs.Bodies.{body_read}
use Rattle.sy_scope_causes.specs.declared.titles.Titles.{Titles}
use Rattle.sy_scope_names.specs.Requests.{list_in, Listed}
use Rattle.sy_reply.specs.Ends.{ReplyReading, refuse_reply, ◌>>=◌}
use Rattle.sy_reply.specs.declared.refused.ReplyCause.{ReplyCause}
use Rattle.sy_reply.specs.declared.refused.ReplyCause.TheVariants as reply
use Rattle.sy_reply_reader.specs.Parts.{Part, part_of}
use Rattle.sy_reply_reader.specs.Signatures.{arguments_of}
use Rattle.sy_reply_reader.specs.Slots.{no_bodies, open_from, all_there}

-- what is there, or else a refusal
abbrev pub there_or : {A : Type 0} → ℕ → Place → ReplyCause → Option A → ReplyReading A
there_or check place cause None = refuse_reply check place cause
there_or check place cause (Some x) = Ok x

-- what is read of a body
abbrev pub as_term : {A : Type 0} → ℕ → Reading A → ReplyReading A
as_term check (Ok x) = Ok x
as_term check (Err fault) = refuse_reply check fault.place (reply.Term fault.cause)

-- the body of a part for a function of this signature: its arguments, then the term over them
abbrev pub part_body : ℕ → Logic → Titles → Question → Signature → Part → ReplyReading Expr
part_body check logic titles question signature part =
    there_or check part.place reply.Signature (arguments_of logic signature part) >>= λ arguments.
    as_term check (body_read logic titles question.signatures question.definitions arguments signature.gives part.body)

-- a part: its form, its name, and its body, which fills the slot of its function
abbrev pub part_read : ℕ → Logic → Titles → Question → List (Option Expr) → Item → ReplyReading (List (Option Expr))
part_read check logic titles question slots item =
    there_or check (place_of item) reply.Shape (part_of item) >>= λ part.
    there_or check part.name.place reply.Name (open_from 0 part.name.name titles.wanted question.goals slots) >>= λ function.
    part_body check logic titles question function.1 part >>= λ body.
    Ok (slice_set slots function.0 (Some body))

-- the parts from left to right
unfoldable pub parts_read : ℕ → Logic → Titles → Question → List (Option Expr) → Items → ReplyReading (List (Option Expr))
parts_read check logic titles question slots none = Ok slots
parts_read check logic titles question slots (more first rest) =
    part_read check logic titles question slots first >>= λ later. parts_read check logic titles question later rest

-- the parts of a list, after which each function has a body
abbrev pub bodies_read : ℕ → Logic → Titles → Question → Listed → ReplyReading (List Expr)
bodies_read check logic titles question list =
    parts_read check logic titles question (no_bodies question.goals) list.items >>= λ slots.
    there_or check list.place reply.Name (all_there slots)

abbrev pub found_bodies : List Expr → ReplyReading (Option (List Expr))
found_bodies bodies = Ok (Some bodies)

-- no definitions is said by `fail` or `infeasible`
abbrev pub says_nothing : Item → Bool
says_nothing item = is_symbol (codes "fail") item || is_symbol (codes "infeasible") item

-- the bodies of the functions, in order of declaration, or that there are none
abbrev pub definitions_read : ℕ → Logic → Titles → Question → Item → ReplyReading (Option (List Expr))
definitions_read check logic titles question item =
    if says_nothing item then Ok None
    else (there_or check (place_of item) reply.Shape (list_in item) >>= λ list. bodies_read check logic titles question list >>= found_bodies)

-- The parts of a reply, at the end of the list and at one part more.
use Rattle.std.proofs.Common.{◌≡◌, refl, sym, ap, ◌∙◌, ℕ, List, Option, Some}
use Rattle.std.specs.Prelude.{Ok, slice_set}
use Rattle.sy_text_items.specs.Items.{Item, Items, none, more}
use Rattle.sy_terms.specs.Expr.{Expr}
use Rattle.sy_terms.specs.Fitting.{Signature}
use Rattle.sy_terms.specs.declared.sort.Logic.{Logic}
use Rattle.sy_forms_items.specs.Parts.{place_of}
use Rattle.sy_grammar_base.specs.Questions.{Question}
use Rattle.sy_scope_causes.specs.declared.titles.Titles.{Titles}
use Rattle.sy_reply.specs.Ends.{◌>>=◌}
use Rattle.sy_reply.specs.declared.refused.ReplyCause.TheVariants as reply
use Rattle.sy_reply_reader.specs.Definitions.{there_or, part_body, part_read, parts_read}
use Rattle.sy_reply_reader.specs.Parts.{Part, part_of}
use Rattle.sy_reply_reader.specs.Slots.{open_from}
use Rattle.sy_reply_reader.proofs.Readings.{bound}

pub parts_none : (check : ℕ) (logic : Logic) (titles : Titles) (question : Question) (slots : List (Option Expr)) (items : Items) → items ≡ none → parts_read check logic titles question slots items ≡ Ok slots
unfolding parts_read
parts_none check logic titles question slots items e = rw e refl

pub parts_more : (check : ℕ) (logic : Logic) (titles : Titles) (question : Question) (slots : List (Option Expr)) (items : Items) (first : Item) (rest : Items) → items ≡ more first rest
    → parts_read check logic titles question slots items ≡ (part_read check logic titles question slots first >>= λ later. parts_read check logic titles question later rest)
unfolding parts_read
parts_more check logic titles question slots items first rest e = rw e refl

-- a part that fills the slot of its function
pub part_filled : (check : ℕ) (logic : Logic) (titles : Titles) (question : Question) (slots : List (Option Expr)) (item : Item) (part : Part) (function : ℕ × Signature) (body : Expr) → Some part ≡ part_of item
    → Some function ≡ open_from 0 part.name.name titles.wanted question.goals slots → part_body check logic titles question function.1 part ≡ Ok body
    → part_read check logic titles question slots item ≡ Ok (slice_set slots function.0 (Some body))
part_filled check logic titles question slots item part function body e f b =
    bound (there_or check (place_of item) reply.Shape (part_of item)) part _ (ap (there_or check (place_of item) reply.Shape) (sym e))
    ∙ bound (there_or check part.name.place reply.Name (open_from 0 part.name.name titles.wanted question.goals slots)) function _ (ap (there_or check part.name.place reply.Name) (sym f))
    ∙ bound (part_body check logic titles question function.1 part) body _ b

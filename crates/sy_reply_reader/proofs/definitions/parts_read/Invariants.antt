use Rattle.std.proofs.Common.{◌≡◌, length}
use Rattle.sy_text_items.specs.Items.{listed}
use Rattle.sy_forms_items.specs.Views.{items_in}
use Rattle.sy_reply_reader.specs.Asked.{question_in}
use Rattle.sy_reply_reader.specs.Definitions as spec
use Rattle.sy_reply_reader.specs.Slots.{slots_of}
use Rattle.sy_reply_reader.proofs.definitions.parts_read.Given as goal

abbrev pub invariant-loop-item : goal.invariant-loop-item
invariant-loop-item g l =
    spec.parts_read l.asked.check l.asked.logic l.asked.titles.now (question_in g.T.Theory.denotes l.asked) (slots_of g.T.Theory.denotes l.slots.items) (items_in l.left)
    ≡ spec.parts_read l.asked.check l.asked.logic l.asked.titles.now (question_in g.T.Theory.denotes l.asked) (slots_of g.T.Theory.denotes l.fn.slots.items) l.items

abbrev pub decreases-loop-item : goal.decreases-loop-item
decreases-loop-item g l = length (listed (items_in l.left))

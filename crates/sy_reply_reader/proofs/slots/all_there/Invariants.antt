use Rattle.std.proofs.Common.{◌≡◌, map, length}
use Rattle.std.specs.Vec.Iter.{into_iter_items, into_iter_len}
use Rattle.sy_terms.specs.Denoted.{expr_of}
use Rattle.sy_reply_reader.specs.Slots.{all_there, slots_of}
use Rattle.sy_reply_reader.proofs.Filled.{behind_bodies}
use Rattle.sy_reply_reader.proofs.slots.all_there.Given as goal

abbrev pub invariant-loop-slot : goal.invariant-loop-slot
invariant-loop-slot g l = record {
  same : behind_bodies (map (expr_of g.T.Theory.denotes) l.bodies) (all_there (slots_of g.T.Theory.denotes (into_iter_items l.rest))) ≡ all_there (slots_of g.T.Theory.denotes l.fn.slots.items);
  count : into_iter_len l.rest ≡ length (into_iter_items l.rest);
}

abbrev pub decreases-loop-slot : goal.decreases-loop-slot
decreases-loop-slot g l = into_iter_len l.rest

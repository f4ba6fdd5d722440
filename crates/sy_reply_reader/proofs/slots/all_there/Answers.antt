use Rattle.std.proofs.Common.{ap, arith, length}
use Rattle.std.specs.Vec.Iter.{into_iter_items, into_iter_len}
use Rattle.sy_reply_reader.specs.Slots.{all_there, slots_of}
use Rattle.sy_reply_reader.proofs.Filled.{slot_taken}
use Rattle.sy_reply_reader.proofs.slots.all_there.Goals as goal

pub loop-slot-preserved : goal.loop-slot-preserved
loop-slot-preserved g c =
    let number = g.T.Theory.denotes in
    record {
      same = slot_taken number (all_there (slots_of number c.args.slots.items)) (into_iter_items c.loop-slot.rest) (into_iter_items c.next.new.self) c.in-Some.slot c.loop-slot.bodies c.in-Some-slot.body c.push.new.self
          c.in-Some.ensures.cases.0 c.in-Some-slot.is c.in_ok-push.ensures.ok c.loop-slot.invariant.same;
      count = omega (arith, c.in-Some.ensures.cases.1, ap length c.in-Some.ensures.cases.0, c.loop-slot.invariant.count);
    }

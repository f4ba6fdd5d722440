use Rattle.std.proofs.Common.{◌≡◌, map, take}
use Rattle.sy_grammar_base.specs.Questions.{goal_of}
use Rattle.sy_reply_reader.specs.Slots as spec
use Rattle.sy_reply_reader.specs.Slots.{slots_of}
use Rattle.sy_reply_reader.proofs.slots.no_bodies.Given as goal

abbrev pub invariant-loop : goal.invariant-loop
invariant-loop g l = slots_of g.T.Theory.denotes l.slots.items ≡ spec.no_bodies (map (goal_of g.T.Theory.denotes) (take l.index l.wanted))

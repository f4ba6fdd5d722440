use Rattle.sy_terms.specs.Denoted.{val_of}
use Rattle.sy_bank_level.proofs.Comparing.{AreLeft}
use Rattle.sy_bank_level.proofs.rows.same_rows.Given as goal

abbrev pub invariant-loop-x : goal.invariant-loop-x
invariant-loop-x g l = AreLeft (val_of g.T.Theory.denotes) l.a l.b l.x-iterator.a.rest.now l.x-iterator.b.rest.now

use Rattle.std.proofs.Common.{◌≡◌, drop}
use Rattle.sy_linear_known.specs.Sights.{all_truths}
use Rattle.sy_linear_known.proofs.Valid.{prefixed}
use Rattle.sy_linear_known.proofs.truths.all_truths.Given as goal

abbrev pub invariant-loop-sight : goal.invariant-loop-sight
invariant-loop-sight l = prefixed l.values (all_truths (drop l.sight-index l.sights)) ≡ all_truths l.sights

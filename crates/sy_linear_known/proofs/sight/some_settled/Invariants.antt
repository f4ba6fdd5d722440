use Rattle.std.specs.Prelude.{cond}
use Rattle.std.specs.List.{list_any}
use Rattle.std.proofs.Common.{◌≡◌, drop}
use Rattle.sy_linear_known.specs.Sights.{is_true, is_false}
use Rattle.sy_linear_known.proofs.sight.some_settled.Given as goal

abbrev pub invariant-loop-sight : goal.invariant-loop-sight
invariant-loop-sight l = list_any (cond l.truth is_true is_false) (drop l.sight-index l.sights) ≡ list_any (cond l.truth is_true is_false) l.sights

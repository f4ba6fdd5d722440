use Rattle.std.proofs.Common.{◌≡◌, take}
use Rattle.std.specs.Prelude.{filter}
use Rattle.sy_loop_goods.specs.Columns.{is_on}
use Rattle.sy_loop_goods.proofs.goods.rests_on.Given as goal

abbrev pub invariant-loop-rest : goal.invariant-loop-rest
invariant-loop-rest l = l.here.items ≡ filter (is_on l.point) (take l.rest-index l.rests)

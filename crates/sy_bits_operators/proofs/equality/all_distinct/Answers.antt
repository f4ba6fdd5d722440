use Rattle.std.proofs.Common.{arith}
use Rattle.sy_gates.proofs.Gates.{grown-trans}
use Rattle.sy_gates.specs.Circuits.{bit_value}
use Rattle.sy_bits_operators.proofs.Rows.{bound-of, alike-rest, rest-bound, distinct-room, distinct-cost, pairs-step}
use Rattle.sy_bits_operators.proofs.equality.all_distinct.Goals as goal

pub differs-requires-clause-sorts : goal.differs-requires-clause-sorts
differs-requires-clause-sorts c = alike-rest c.args.signals.now c.loop-i.i c.index-signals-i.result c.requires.sorts (omega arith) c.index-signals-i.is

pub differs-requires-clause-left : goal.differs-requires-clause-left
differs-requires-clause-left c =
    let inside = bound-of c.args.signals.now c.loop-i.i c.index-signals-i.result (omega arith) c.index-signals-i.is in
    omega (arith, inside, c.requires.inside, c.loop-i.invariant.grown.more)

pub differs-requires-clause-right : goal.differs-requires-clause-right
differs-requires-clause-right c =
    let inside = rest-bound c.args.signals.now c.loop-i.i in
    omega (arith, inside, c.requires.inside, c.loop-i.invariant.grown.more)

pub differs-requires-clause-room : goal.differs-requires-clause-room
differs-requires-clause-room c =
    let room = distinct-room c.args.signals.now c.loop-i.i c.index-signals-i.result _ _ _ c.requires.sorts (omega arith) c.index-signals-i.is c.loop-i.invariant.cost c.requires.room in
    omega (arith, room)

pub and-requires-clause-room : goal.and-requires-clause-room
and-requires-clause-room c =
    let room = distinct-room c.args.signals.now c.loop-i.i c.index-signals-i.result _ _ _ c.requires.sorts (omega arith) c.index-signals-i.is c.loop-i.invariant.cost c.requires.room in
    omega (arith, room, c.in_ok-apart.ensures.cost)

pub loop-i-preserved : goal.loop-i-preserved
loop-i-preserved c =
    let step = distinct-cost c.args.signals.now c.loop-i.i c.index-signals-i.result _ _ c.requires.sorts (omega arith) c.index-signals-i.is c.loop-i.invariant.cost in
    record {
      grown = grown-trans _ _ _ (grown-trans _ _ _ c.loop-i.invariant.grown c.differs.ensures.grown) c.and.ensures.grown;
      cost = omega (arith, step, c.in_ok-apart.ensures.cost, c.in_ok-all.ensures.cost);
      inside = c.in_ok-all.ensures.inside;
      value = λ v f.
          let then = c.and.ensures.grown.keeps v f in
          pairs-step v c.args.signals.now c.loop-i.i c.index-signals-i.result (bit_value v c.loop-i.all) (bit_value v c.in_ok-all.all) (bit_value v c.in_ok-apart.apart) (omega arith) c.index-signals-i.is
          (c.in_ok-apart.ensures.value v then) (c.in_ok-all.ensures.value v f) _ (c.loop-i.invariant.value v (c.differs.ensures.grown.keeps v then));
    }

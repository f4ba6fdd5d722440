use Rattle.std.proofs.Common.{arith}
use Rattle.sy_bits_operators.proofs.Choices.{three-placed, three, branch-sorts, chosen-sort, chosen-value}
use Rattle.sy_bits_operators.proofs.operators.chosen.Goals as goal

pub choice-requires-clause-sort : goal.choice-requires-clause-sort
choice-requires-clause-sort c =
    let e = three-placed c.args.args.now c.index-args-0.result c.index-args-1.result c.index-args-2.result c.requires.takes c.index-args-0.is c.index-args-1.is c.index-args-2.is in
    branch-sorts c.args.args.now c.index-args-0.result c.index-args-1.result c.index-args-2.result e c.requires.takes

pub choice-requires-clause-test : goal.choice-requires-clause-test
choice-requires-clause-test c =
    let t = three c.args.args.now c.index-args-0.result c.index-args-1.result c.index-args-2.result (three-placed c.args.args.now c.index-args-0.result c.index-args-1.result c.index-args-2.result c.requires.takes c.index-args-0.is c.index-args-1.is c.index-args-2.is) in
    let first = t.first in
    omega (arith, first, c.bit-test.ensures.bound, c.requires.inside)

pub choice-requires-clause-left : goal.choice-requires-clause-left
choice-requires-clause-left c =
    let t = three c.args.args.now c.index-args-0.result c.index-args-1.result c.index-args-2.result (three-placed c.args.args.now c.index-args-0.result c.index-args-1.result c.index-args-2.result c.requires.takes c.index-args-0.is c.index-args-1.is c.index-args-2.is) in
    let second = t.second in
    omega (arith, second, c.requires.inside)

pub choice-requires-clause-right : goal.choice-requires-clause-right
choice-requires-clause-right c =
    let t = three c.args.args.now c.index-args-0.result c.index-args-1.result c.index-args-2.result (three-placed c.args.args.now c.index-args-0.result c.index-args-1.result c.index-args-2.result c.requires.takes c.index-args-0.is c.index-args-1.is c.index-args-2.is) in
    let third = t.third in
    omega (arith, third, c.requires.inside)

pub choice-requires-clause-room : goal.choice-requires-clause-room
choice-requires-clause-room c =
    let t = three c.args.args.now c.index-args-0.result c.index-args-1.result c.index-args-2.result (three-placed c.args.args.now c.index-args-0.result c.index-args-1.result c.index-args-2.result c.requires.takes c.index-args-0.is c.index-args-1.is c.index-args-2.is) in
    let gates = t.gates in
    omega (arith, gates, c.requires.room)

pub returns-clause-cost : goal.returns-clause-cost
returns-clause-cost c =
    let t = three c.args.args.now c.index-args-0.result c.index-args-1.result c.index-args-2.result (three-placed c.args.args.now c.index-args-0.result c.index-args-1.result c.index-args-2.result c.requires.takes c.index-args-0.is c.index-args-1.is c.index-args-2.is) in
    let gates = t.gates in
    omega (arith, gates, c.in_ok-signal.ensures.cost)

pub returns-clause-sort : goal.returns-clause-sort
returns-clause-sort c = λ v.
    let e = three-placed c.args.args.now c.index-args-0.result c.index-args-1.result c.index-args-2.result c.requires.takes c.index-args-0.is c.index-args-1.is c.index-args-2.is in
    let same = branch-sorts c.args.args.now c.index-args-0.result c.index-args-1.result c.index-args-2.result e c.requires.takes in
    chosen-sort v c.args.args.now c.index-args-0.result c.index-args-1.result c.index-args-2.result _ e same c.in_ok-signal.ensures.sort

pub returns-clause-value : goal.returns-clause-value
returns-clause-value c = λ v f.
    let e = three-placed c.args.args.now c.index-args-0.result c.index-args-1.result c.index-args-2.result c.requires.takes c.index-args-0.is c.index-args-1.is c.index-args-2.is in
    chosen-value v c.args.args.now c.index-args-0.result c.index-args-1.result c.index-args-2.result _ _ e (c.bit-test.ensures.value v) (c.in_ok-signal.ensures.value v f)

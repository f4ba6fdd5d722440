use Rattle.std.proofs.Common.{arith, ◌≡◌, length, refl, ap, ap₂, sym, ◌∙◌}
use Rattle.sy_gates.specs.Circuits.{variables, bit_value, word_bound, word_number}
use Rattle.sy_gates.specs.Arithmetic.{quotient_of, remainder_of}
use Rattle.sy_gates.proofs.Gates.{grown-trans}
use Rattle.sy_gates.proofs.Rooms.{division_room, division_cost}
use Rattle.sy_gates.proofs.Signs.{magnitude_of}
use Rattle.sy_gates.proofs.circuit.Circuit.divide_magnitudes.Goals as goal

pub returns-clause-quotient : goal.returns-clause-quotient
returns-clause-quotient c = λ v f.
    let at_right = c.divide.ensures.grown.keeps v f in
    let at_left = c.negate_where-2.ensures.grown.keeps v at_right in
    let left = magnitude_of v (length c.args.a.now) (bit_value v c.top.result) c.args.a.now c.in_ok-left.left c.as_slice.result.now refl c.as_slice.ensures (c.top.ensures.value v) (c.in_ok-left.ensures.value v at_left) in
    let right = magnitude_of v (length c.args.a.now) (bit_value v c.top-2.result) c.args.b.now c.in_ok-right.right c.as_slice-2.result.now c.requires.same c.as_slice-2.ensures (c.top-2.ensures.value v) (c.in_ok-right.ensures.value v at_right) in
    let wide : length c.as_slice.result.now ≡ length c.args.a.now = ap length c.as_slice.ensures ∙ c.in_ok-left.ensures.width in
    c.in_ok-division.ensures.quotient v f
    ∙ ap (λ n. quotient_of n (word_number v c.as_slice.result.now) (word_number v c.as_slice-2.result.now)) wide
    ∙ ap₂ (quotient_of (length c.args.a.now)) left right

pub returns-clause-remainder : goal.returns-clause-remainder
returns-clause-remainder c = λ v f.
    let at_right = c.divide.ensures.grown.keeps v f in
    let at_left = c.negate_where-2.ensures.grown.keeps v at_right in
    let left = magnitude_of v (length c.args.a.now) (bit_value v c.top.result) c.args.a.now c.in_ok-left.left c.as_slice.result.now refl c.as_slice.ensures (c.top.ensures.value v) (c.in_ok-left.ensures.value v at_left) in
    let right = magnitude_of v (length c.args.a.now) (bit_value v c.top-2.result) c.args.b.now c.in_ok-right.right c.as_slice-2.result.now c.requires.same c.as_slice-2.ensures (c.top-2.ensures.value v) (c.in_ok-right.ensures.value v at_right) in
    c.in_ok-division.ensures.remainder v f ∙ ap₂ remainder_of left right

pub negate_where-requires-2-clause-test : goal.negate_where-requires-2-clause-test
negate_where-requires-2-clause-test c = omega (arith, c.top-2.ensures.bound, c.requires.right, c.negate_where.ensures.grown.more)

pub negate_where-requires-2-clause-word : goal.negate_where-requires-2-clause-word
negate_where-requires-2-clause-word c = omega (arith, c.requires.right, c.negate_where.ensures.grown.more)

pub negate_where-requires-2-clause-room : goal.negate_where-requires-2-clause-room
negate_where-requires-2-clause-room c = omega (arith, c.in_ok-left.ensures.cost, c.requires.same, c.requires.room)

pub divide-requires-clause-same : goal.divide-requires-clause-same
divide-requires-clause-same c = ap length c.as_slice-2.ensures ∙ c.in_ok-right.ensures.width ∙ c.requires.same ∙ sym (ap length c.as_slice.ensures ∙ c.in_ok-left.ensures.width)

pub divide-requires-clause-left : goal.divide-requires-clause-left
divide-requires-clause-left c = omega (arith, ap word_bound c.as_slice.ensures, c.in_ok-left.ensures.inside, c.negate_where-2.ensures.grown.more)

pub divide-requires-clause-right : goal.divide-requires-clause-right
divide-requires-clause-right c = rw c.as_slice-2.ensures c.in_ok-right.ensures.inside

pub divide-requires-clause-room : goal.divide-requires-clause-room
divide-requires-clause-room c =
    division_room (variables c.args.self.now) (variables c.negate_where.new.self) (variables c.negate_where-2.new.self) (length c.args.a.now) (length c.args.b.now) _
    (ap length c.as_slice.ensures ∙ c.in_ok-left.ensures.width) c.requires.same c.in_ok-left.ensures.cost c.in_ok-right.ensures.cost c.requires.room

pub returns-in_err-right-clause-grown : goal.returns-in_err-right-clause-grown
returns-in_err-right-clause-grown c = grown-trans _ _ _ c.negate_where.ensures.grown c.negate_where-2.ensures.grown

pub returns-in_err-division-clause-grown : goal.returns-in_err-division-clause-grown
returns-in_err-division-clause-grown c = grown-trans _ _ _ (grown-trans _ _ _ c.negate_where.ensures.grown c.negate_where-2.ensures.grown) c.divide.ensures.grown

pub returns-clause-grown : goal.returns-clause-grown
returns-clause-grown c = grown-trans _ _ _ (grown-trans _ _ _ c.negate_where.ensures.grown c.negate_where-2.ensures.grown) c.divide.ensures.grown

pub returns-clause-cost : goal.returns-clause-cost
returns-clause-cost c =
    division_cost (variables c.args.self.now) (variables c.negate_where.new.self) (variables c.negate_where-2.new.self) (variables c.divide.new.self) (length c.args.a.now) (length c.args.b.now) _
    (ap length c.as_slice.ensures ∙ c.in_ok-left.ensures.width) c.requires.same c.in_ok-left.ensures.cost c.in_ok-right.ensures.cost c.in_ok-division.ensures.cost

pub returns-clause-quotient_width : goal.returns-clause-quotient_width
returns-clause-quotient_width c = c.in_ok-division.ensures.quotient_width ∙ ap length c.as_slice.ensures ∙ c.in_ok-left.ensures.width

pub returns-clause-remainder_width : goal.returns-clause-remainder_width
returns-clause-remainder_width c = c.in_ok-division.ensures.remainder_width ∙ ap length c.as_slice.ensures ∙ c.in_ok-left.ensures.width

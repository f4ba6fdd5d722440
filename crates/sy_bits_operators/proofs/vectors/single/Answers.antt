use Rattle.std.proofs.Common.{arith, ◌%◌, length, ap}
use Rattle.std.proofs.lemmas.Nat.{mod_below}
use Rattle.sy_bits_operators.proofs.Pairs.{repeat-is, sign_extend-is, rotate_right-is}
use Rattle.sy_bits_operators.proofs.vectors.single.Goals as goal

pub returns-in_ok-repeated-in-Repeat-clause-value : goal.returns-in_ok-repeated-in-Repeat-clause-value
returns-in_ok-repeated-in-Repeat-clause-value c = λ v f.
    rw c.in-Repeat.is (repeat-is v c.in-Repeat.copies c.from-in-Repeat.result c.args.s.now _ c.from-in-Repeat.ensures c.in_ok-repeated-in-Repeat.ensures.width (c.in_ok-repeated-in-Repeat.ensures.value v))

pub returns-in_ok-extended-in-SignExtend-clause-value : goal.returns-in_ok-extended-in-SignExtend-clause-value
returns-in_ok-extended-in-SignExtend-clause-value c = λ v f.
    rw c.in-SignExtend.is (sign_extend-is v c.in-SignExtend.by c.from-in-SignExtend.result c.args.s.now _ _ c.from-in-SignExtend.ensures c.in_ok-extended-in-SignExtend.ensures.width (c.top.ensures.value v) (c.in_ok-extended-in-SignExtend.ensures.value v))

pub returns-in_ok-rotated_down-in-RotateRight-clause-value : goal.returns-in_ok-rotated_down-in-RotateRight-clause-value
returns-in_ok-rotated_down-in-RotateRight-clause-value c = λ v f.
    let small = mod_below c.from-in-RotateRight.result (length c.args.s.now) (omega (arith, c.requires.least)) in
    rw c.in-RotateRight.is (rotate_right-is v c.in-RotateRight.by (c.from-in-RotateRight.result % length c.args.s.now) c.args.s.now _ c.in_ok-rotated_down-in-RotateRight.ensures.width (ap (λ n. n % length c.args.s.now) c.from-in-RotateRight.ensures) (omega (arith, small)) (c.in_ok-rotated_down-in-RotateRight.ensures.value v))

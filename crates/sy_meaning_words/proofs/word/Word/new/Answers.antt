use Rattle.std.proofs.Common.{arith, ◌≡◌, ◌<◌, ◌≤◌, false, ℕ, ◌-◌, ◌^◌}
use Rattle.std.specs.Prelude.{nat_le, nat_lt, ◌&&◌}
use Rattle.std.proofs.lemmas.Bool.Decides.{nat_tests}
use Rattle.std.proofs.lemmas.Nat.{pow_pos}
use Rattle.sy_meaning_core.proofs.Masks.{greatest, fits}
use Rattle.sy_meaning_words.proofs.word.Word.new.Goals as goal
use Rattle.sy_meaning_words.proofs.word.Word.new.Goals.{else-width-ge1-via-then-width-ge1+then-width-le64+else-bits-width, else-width-ge1-via-then-width-ge1+else-width-le64, else-width-ge1-via-else-width-ge1}

outside : (w b p : ℕ) → 1 ≤ w → w ≤ 64 → p - 1 < b → (nat_le 1 w && (nat_le w 64 && nat_lt b p)) ≡ false
outside w b p h k m = grind (arith, nat_tests)

wide : (w b p : ℕ) → 64 < w → (nat_le 1 w && (nat_le w 64 && nat_lt b p)) ≡ false
wide w b p h = grind (arith, nat_tests)

empty : (w b p : ℕ) → w < 1 → (nat_le 1 w && (nat_le w 64 && nat_lt b p)) ≡ false
empty w b p h = grind (arith, nat_tests)

pub invariant_of-result : goal.invariant_of-result
invariant_of-result c =
    let most = rw (greatest c.args.width c.if-width-le64.true) at c.if-bits-width.true in
    record { is_valid = fits c.args.width c.args.bits c.if-width-ge1.true c.if-width-le64.true (omega (arith, most, pow_pos c.args.width)) }

pub returns-else-width-ge1 : goal.returns-else-width-ge1
returns-else-width-ge1 c = elim c.else-width-ge1.branch [
  | else-width-ge1-via-then-width-ge1+then-width-le64+else-bits-width w ↦ outside c.args.width c.args.bits (2 ^ c.args.width) w.if-width-ge1.true w.if-width-le64.true (rw (greatest c.args.width w.if-width-le64.true) at w.if-bits-width.false)
  | else-width-ge1-via-then-width-ge1+else-width-le64 w ↦ wide c.args.width c.args.bits (2 ^ c.args.width) (omega arith)
  | else-width-ge1-via-else-width-ge1 w ↦ empty c.args.width c.args.bits (2 ^ c.args.width) (omega arith)
]

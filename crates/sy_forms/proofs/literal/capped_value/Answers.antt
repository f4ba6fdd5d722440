use Rattle.std.proofs.Common.{◌≡◌, ◌+◌, ◌-◌, ◌*◌, ◌<◌, ◌^◌, ℕ, List, [], ◌∷◌, ◌++◌, length, take, get_or, refl, arith}
use Rattle.std.specs.Prelude.{min}
use Rattle.std.specs.List.{fold}
use Rattle.std.proofs.lemmas.List.{take_more}
use Rattle.sy_text_items.specs.Lexicon.{digit_value, value_in}
use Rattle.sy_forms.proofs.literal.capped_value.Goals as goal

fold_last : (f : ℕ → ℕ → ℕ) (z : ℕ) (xs : List ℕ) (x : ℕ) → fold f z (xs ++ x ∷ []) ≡ f (fold f z xs) x
fold_last f z [] x = refl
fold_last f z (y ∷ xs) x = fold_last f (f z y) xs x

value_more : (digits : List ℕ) (i : ℕ) → i < length digits → value_in 10 (take (i + 1) digits) ≡ 10 * value_in 10 (take i digits) + digit_value (get_or digits i 0)
value_more digits i lt = rw (take_more digits i 0 lt) (fold_last (λ n d. 10 * n + digit_value d) 0 (take i digits) (get_or digits i 0))

capped : (w d v m s r n : ℕ) → v ≡ min (2 ^ 127) w → m ≡ min (v * 10) (2 ^ 128 - 1) → s ≡ min (m + d) (2 ^ 128 - 1) → r ≡ min s (2 ^ 127) → n ≡ 10 * w + d → r ≡ min (2 ^ 127) n
capped w d v m s r n a b c e f = omega arith

pub loop-digit-preserved : goal.loop-digit-preserved
loop-digit-preserved c =
    let i = c.loop-digit.digit-index in
    let d = digit_value (get_or c.args.digits.now i 0) in
    let more = value_more c.args.digits.now i (omega arith) in
    let added : c.saturating_add.result ≡ min (c.saturating_mul.result + d) (2 ^ 128 - 1) = rw (← c.value_of_digit.ensures, ← c.from-next.ensures) c.saturating_add.ensures in
    capped (value_in 10 (take i c.args.digits.now)) d c.loop-digit.value c.saturating_mul.result c.saturating_add.result c.min-value.result _ c.loop-digit.invariant c.saturating_mul.ensures added c.min-value.ensures more

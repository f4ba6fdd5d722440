-- The bits of a number that fits them.
use Rattle.std.specs.Prelude.{ℕ, ◌^◌, ◌<◌, ◌%◌, ◌≡◌, Bool, true, List, length}
use Rattle.std.proofs.Common.{arith, ap, ◌∙◌}
use Rattle.std.proofs.Math.Nat.{mod-eq_of_lt}
use Rattle.std.proofs.lemmas.Bool.Decides.{nat_tests}
use Rattle.sy_terms.specs.Values.{Bits}
use Rattle.sy_terms.specs.Theories.{valid}
use Rattle.sy_gates.specs.declared.gate.Bit.{Bit}
use Rattle.sy_gates.specs.Circuits.{word_number}

below : (w n : ℕ) → valid (Bits w n) ≡ true → n < 2 ^ w
below w n h = grind (arith, nat_tests)

pub number-value : (v : ℕ → Bool) (bits : List Bit) (w n width number : ℕ) → valid (Bits w n) ≡ true → length bits ≡ width → width ≡ w → number ≡ n → word_number v bits ≡ number % 2 ^ width → Bits (length bits) (word_number v bits) ≡ Bits w n
number-value v bits w n width number fits long same is value =
    let wide : length bits ≡ w = long ∙ same in
    let whole : word_number v bits ≡ n = value ∙ ap (λ k. k % 2 ^ width) is ∙ ap (λ k. n % 2 ^ k) same ∙ mod-eq_of_lt (below w n fits) in
    ap (λ k. Bits k (word_number v bits)) wide ∙ ap (Bits w) whole

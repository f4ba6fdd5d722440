use Rattle.std.proofs.Common.{◌≡◌, ◌≤◌, ◌∷◌, [], ℕ, zero, suc, List, true, false, Option, Some, None, arith, sym, ◌∙◌}
use Rattle.std.specs.Prelude.{MatchOption, bytes_eq}
use Rattle.std.specs.Fmt.{decimal}
use Rattle.std.proofs.lemmas.Fmt.{decimal_digit}
use Rattle.std.proofs.lemmas.Slice.Eq.{bytes_eq-Decides}
use Rattle.sygus_words.specs.CommandLine.{greatest_drill}
use Rattle.sygus_words.proofs.words.drill_number.Goals as goal

pub returns-then-eq : goal.returns-then-eq
returns-then-eq c = ((bytes_eq-Decides c.args.text.now (48 ∷ [])).0 (sym c.eq.ensures ∙ c.if-eq.true) ∙ sym (decimal_digit 0 (omega arith)), omega arith)

-- a number from 1 on, or 0
not_zero : (text : List ℕ) (n : ℕ) → bytes_eq text (48 ∷ []) ≡ false → text ≡ decimal n → 1 ≤ n
not_zero text zero other is = absurd (let same : bytes_eq text (48 ∷ []) ≡ true = (bytes_eq-Decides text (48 ∷ [])).1 (is ∙ decimal_digit 0 (omega arith)) in cc)
not_zero text (suc n) other is = omega arith

with_zero : (text : List ℕ) (found : Option ℕ) → bytes_eq text (48 ∷ []) ≡ false → MatchOption found ((n : ℕ) → text ≡ decimal n → 1 ≤ n → n ≤ greatest_drill → ⊥) (λ n. (text ≡ decimal n) × (1 ≤ n) × (n ≤ greatest_drill))
    → MatchOption found ((n : ℕ) → text ≡ decimal n → n ≤ greatest_drill → ⊥) (λ n. (text ≡ decimal n) × (n ≤ greatest_drill))
with_zero text None other none = λ n is least. none n is (not_zero text n other is) least
with_zero text (Some n) other some = (some.0, some.2)

pub returns-else-eq : goal.returns-else-eq
returns-else-eq c = with_zero c.args.text.now c.number.result (sym c.eq.ensures ∙ c.if-eq.false) c.number.ensures

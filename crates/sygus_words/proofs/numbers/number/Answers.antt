use Rattle.std.proofs.Common.{◌≡◌, ◌≤◌, ◌<◌, ◌^◌, ℕ, zero, suc, List, length, get_or, Result, Ok, Err, arith, sym, ap, subst, ◌∙◌}
use Rattle.std.specs.Fmt.{decimal}
use Rattle.std.specs.Str.Parse.{AllDigits, digits_value, without_leading_plus, ParsesUnsigned}
use Rattle.std.proofs.lemmas.Fmt.{parse-decimal, first_decimal, decimal_digit, decimal_nonempty, decimal-digits_value}
use Rattle.std.proofs.lemmas.Str.Parse.{numerals_by_value, tells_digits, without_leading_plus_none}
use Rattle.sygus_words.proofs.numbers.number.Goals as goal

below : (n greatest : ℕ) → n ≤ greatest → greatest < 2 ^ 32 → (n < 2 ^ 32) × (n < 2 ^ 64)
below n greatest le lt = (omega (arith, le, lt), omega (arith, le, lt))

pub returns-in_default : goal.returns-in_default
returns-in_default c = λ n e one le.
    let b = below n c.args.greatest le c.ranges.greatest.fits in
    let some : 0 < length (decimal n) = decimal_nonempty n b.1 in
    omega (arith, c.in_default.len_below, ap length c.as_bytes.ensures.value, ap length e, some)

pub returns-then-first-le48 : goal.returns-then-first-le48
returns-then-first-le48 c = λ n e one le.
    let b = below n c.args.greatest le c.ranges.greatest.fits in
    let first : 48 < get_or (decimal n) 0 0 = first_decimal n (omega arith) b.1 in
    omega (arith, c.if-first-le48.true, ap (λ (l : List ℕ). get_or l 0 0) (c.as_bytes.ensures.value ∙ e), first)

reads : {E : Type 0} (text : List ℕ) (r : Result ℕ E) (n greatest : ℕ) → ParsesUnsigned 32 10 text r → text ≡ decimal n → n ≤ greatest → greatest < 2 ^ 32 → r ≡ Ok n
reads text r n greatest h e le lt = let b = below n greatest le lt in parse-decimal 32 n text r b.0 b.1 e h

pub returns-in_default-parse : goal.returns-in_default-parse
returns-in_default-parse c = λ n e one le. c.in_default-parse.not-Ok n (reads c.args.text.now c.parse.result n c.args.greatest c.parse.ensures.value.0 e le c.ranges.greatest.fits)

-- what begins with a digit from 1 on and is read is the decimal spelling of what was read
spelled : {E : Type 0} (text : List ℕ) (r : Result ℕ E) (n : ℕ) → r ≡ Ok n → ParsesUnsigned 32 10 text r → 48 < get_or text 0 0 → text ≡ decimal n
spelled text (Err e) n is h first = absurd cc
spelled text (Ok m) n is h first =
    let same : m ≡ n = cc in
    let plain : without_leading_plus text ≡ text = without_leading_plus_none text (λ e. omega (arith, e, first)) in
    let P : List ℕ → Type 0 = λ l. ((0 < length l) × AllDigits 10 l) × (m ≡ digits_value 10 l) in
    let all : ((0 < length text) × AllDigits 10 text) × (m ≡ digits_value 10 text) = subst P plain (h.0.0, h.1) in
    let low : m < 2 ^ 32 = omega (arith, h.0.1, h.1) in
    let lt : digits_value 10 text < 2 ^ 64 = omega (arith, low, all.1) in
    let own = numerals_by_value (AllDigits 10) tells_digits in
    sym (decimal-digits_value own text all.0.1 all.0.0 (λ e. absurd (omega (arith, e, first))) lt) ∙ ap decimal (sym all.1 ∙ same)

-- and it isn't 0
positive : (text : List ℕ) (n : ℕ) → text ≡ decimal n → 48 < get_or text 0 0 → 1 ≤ n
positive text zero e first = absurd (let at : get_or text 0 0 ≡ 48 = ap (λ (l : List ℕ). get_or l 0 0) (e ∙ decimal_digit 0 (omega arith)) in omega (arith, at, first))
positive text (suc n) e first = omega arith

pub returns-then-number-greatest : goal.returns-then-number-greatest
returns-then-number-greatest c =
    let first : 48 < get_or c.args.text.now 0 0 = omega (arith, c.if-first-le48.false, ap (λ (l : List ℕ). get_or l 0 0) c.as_bytes.ensures.value) in
    let text = spelled c.args.text.now c.parse.result c.in-Ok.number c.in-Ok.is c.parse.ensures.value.0 first in
    (text, positive c.args.text.now c.in-Ok.number text first, c.if-number-greatest.true)

pub returns-else-number-greatest : goal.returns-else-number-greatest
returns-else-number-greatest c = λ n e one le.
    let same = sym c.in-Ok.is ∙ reads c.args.text.now c.parse.result n c.args.greatest c.parse.ensures.value.0 e le c.ranges.greatest.fits in
    let is : c.in-Ok.number ≡ n = cc in
    omega (arith, is, le, c.if-number-greatest.false)

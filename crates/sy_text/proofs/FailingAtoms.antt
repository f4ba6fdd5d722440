-- An atom that is bad by what stands there isn't read.
use Rattle.std.proofs.Common.{◌≡◌, ◌≢◌, ℕ, zero, suc, ◌+◌, ◌-◌, ◌*◌, ◌^◌, ◌<◌, ◌≤◌, Bool, true, false, cond, not, ◌&&◌, ◌||◌, nat_eq, nat_lt, List, [], ◌∷◌, ◌++◌, length, take, drop, Result, Ok, Err, refl, sym, ap, subst, ◌∙◌, inl, inr, arith, append_assoc}
use Rattle.std.proofs.lemmas.List.{take_at, drop_at, append-nil}
use Rattle.std.proofs.lemmas.Bool.{eqb-true, lt-ltb, le-ltb}
use Rattle.std.specs.List.{prefix_len}
use Rattle.sy_text_items.specs.declared.atom.Atom.{Atom}
use Rattle.sy_text_items.specs.declared.atom.Atom.TheVariants.{Symbol, Keyword, Numeral, Decimal, Bits, Text}
use Rattle.sy_text_items.specs.declared.fault.TextFault.{TextFault}
use Rattle.sy_text_items.specs.declared.fault.TextFault.TheVariants.{BadByte, Unclosed, LiteralRange}
use Rattle.sy_text_items.specs.Lexicon.{space, letter, mark, digit, binary_digit, hexadecimal_digit, symbol_byte, quotable, bar_content, separator, value_in}
use Rattle.sy_text.specs.Reading.{missing, may_follow, ended, literal_read, symbol_at, closing_bar, barred_at, text_at, keyword_at, vector_of, hexadecimal_at, binary_at, vector_at, decimal_at, integer_at, number_at, numeral_at, atom_at}
use Rattle.sy_text.specs.Spelling.{all_bytes, bare, doubled, is_numeral}
use Rattle.sy_text.specs.Faults.{may_begin, IsBroken, at_first, in_symbol, in_bars, in_quotes, in_keyword, behind_sign, in_hexadecimal, in_binary, behind_zero, in_numeral, behind_point, IsCut, bars, quotes, colon, sign, hexadecimal_sign, binary_sign, point, IsTooLarge, numeral, hexadecimal, binary, IsBadAtom, byte, cut, large}
use Rattle.sy_text.proofs.Shorter.{ok, err}
use Rattle.sy_text.proofs.Nested.{test_no}
use Rattle.sy_text.proofs.Again.{and_both, not_true, differs, Stops, stops_at, no_digit, no_hexadecimal, no_binary, no_point, run_again, point_stops, starts_symbol, starts_digit, numeral_front}

abbrev Read : Type 0
Read = Atom × List ℕ

abbrev broken_at : ℕ → ℕ → List ℕ → Result Read TextFault
broken_at total c rest = Err (BadByte (total - length (c ∷ rest)))

-- ---- ends

ended_fails : (total : ℕ) (atom : Atom) (left : List ℕ) (c : ℕ) (rest : List ℕ) → left ≡ c ∷ rest → separator c ≡ false → ended total atom left ≡ broken_at total c rest
unfolding ended may_follow
ended_fails total atom left c rest is unlike = rw (is, unlike) refl

literal_fails : (total start : ℕ) (fits : Bool) (atom : Atom) (left : List ℕ) (c : ℕ) (rest : List ℕ) → left ≡ c ∷ rest → separator c ≡ false → literal_read total start fits atom left ≡ broken_at total c rest
unfolding literal_read may_follow
literal_fails total start fits atom left c rest is unlike = rw (is, unlike) refl

literal_large : (total start : ℕ) (fits : Bool) (atom : Atom) (left : List ℕ) → may_follow left ≡ true → fits ≡ false → literal_read total start fits atom left ≡ err (LiteralRange start)
unfolding literal_read
literal_large total start fits atom left follows unlike = rw (follows, unlike) refl

missing_byte : (total start c : ℕ) (rest : List ℕ) → err {A = Read} (missing total start (c ∷ rest)) ≡ broken_at total c rest
unfolding missing
missing_byte total start c rest = refl

-- where a run stops
behind : (p : ℕ → Bool) (run : List ℕ) (c : ℕ) (rest : List ℕ) → all_bytes p run ≡ true → p c ≡ false → drop (prefix_len p (run ++ (c ∷ rest))) (run ++ (c ∷ rest)) ≡ c ∷ rest
behind p run c rest all unlike = drop_at run (c ∷ rest) _ (sym (run_again p run (c ∷ rest) all unlike))

no_run : (p : ℕ → Bool) (c : ℕ) (rest : List ℕ) → p c ≡ false → nat_eq (prefix_len p (c ∷ rest)) 0 ≡ true
no_run p c rest unlike = rw unlike refl

some_run : (p : ℕ → Bool) (b : ℕ) (run : List ℕ) (c : ℕ) (rest : List ℕ) → all_bytes p (b ∷ run) ≡ true → p c ≡ false → nat_eq (prefix_len p ((b ∷ run) ++ (c ∷ rest))) 0 ≡ false
some_run p b run c rest all unlike =
    let n : prefix_len p ((b ∷ run) ++ (c ∷ rest)) ≡ length (b ∷ run) = run_again p (b ∷ run) (c ∷ rest) all unlike in
    test_no _ 0 (λ e. omega (arith, n, e))

positive : (b : ℕ) (run : List ℕ) → 0 < length (b ∷ run)
positive b run = omega arith

-- ---- unlike atom begins so

either_false : (a b : Bool) → (a || b) ≡ false → (a ≡ false) × (b ≡ false)
either_false true b e = absurd cc
either_false false b e = (refl, e)

first_fails : (total start c : ℕ) (rest : List ℕ) → may_begin c ≡ false → start ≡ total - length (c ∷ rest) → atom_at total start (c ∷ rest) ≡ broken_at total c rest
unfolding atom_at symbol_byte separator
first_fails total start c rest unlike at =
    let begins = either_false _ (symbol_byte c) unlike in
    let hash = either_false _ (nat_eq c 35) begins.0 in
    let colons = either_false (separator c) (nat_eq c 58) hash.0 in
    let bar = either_false _ (nat_eq c 124) colons.0 in
    let quote = either_false _ (nat_eq c 34) bar.0 in
    let marks = either_false (letter c || digit c) (mark c) begins.1 in
    let digits = either_false (letter c) (digit c) marks.0 in
    rw (bar.1, quote.1, colons.1, hash.1, digits.1, digits.0, marks.1) (ap (λ n. err (BadByte n)) at)

-- ---- symbols

symbol_fails : (total start : ℕ) (name : List ℕ) (c : ℕ) (rest : List ℕ) → bare name ≡ true → symbol_byte c ≡ false → separator c ≡ false → atom_at total start (name ++ (c ∷ rest)) ≡ broken_at total c rest
unfolding bare symbol_at
symbol_fails total start [] c rest h unlike sep = absurd cc
symbol_fails total start (b ∷ bs) c rest h unlike sep =
    let both = and_both (not (digit b)) (all_bytes symbol_byte (b ∷ bs)) h in
    let first = and_both (symbol_byte b) (all_bytes symbol_byte bs) both.1 in
    starts_symbol total start b (bs ++ (c ∷ rest)) first.0 (not_true (digit b) both.0)
    ∙ ended_fails total _ _ c rest (behind symbol_byte (b ∷ bs) c rest both.1 unlike) sep

closing_fails : (total start : ℕ) (atom : Atom) (left : List ℕ) (c : ℕ) (rest : List ℕ) → left ≡ c ∷ rest → c ≢ 124 → closing_bar total start atom left ≡ broken_at total c rest
unfolding closing_bar
closing_fails total start atom left c rest is other = rw (is, test_no c 124 other) refl

barred_fails : (total start : ℕ) (content : List ℕ) (c : ℕ) (rest : List ℕ) → all_bytes bar_content content ≡ true → bar_content c ≡ false → c ≢ 124 → atom_at total start (124 ∷ (content ++ (c ∷ rest))) ≡ broken_at total c rest
unfolding atom_at barred_at
barred_fails total start content c rest all unlike other = closing_fails total start _ _ c rest (behind bar_content content c rest all unlike) other

-- where a run goes on to the end
whole_run : (p : ℕ → Bool) (run : List ℕ) → all_bytes p run ≡ true → drop (prefix_len p run) run ≡ []
whole_run p run all =
    let n : prefix_len p (run ++ []) ≡ length run = run_again p run [] all tt in
    let rest : drop (prefix_len p (run ++ [])) (run ++ []) ≡ [] = drop_at run [] _ (sym n) in
    subst (λ (l : List ℕ). drop (prefix_len p l) l ≡ []) (append-nil run) rest

closing_ends : (total start : ℕ) (atom : Atom) (left : List ℕ) → left ≡ [] → closing_bar total start atom left ≡ err (Unclosed start)
unfolding closing_bar
closing_ends total start atom left is = rw is refl

barred_ends : (total start : ℕ) (content : List ℕ) → all_bytes bar_content content ≡ true → atom_at total start (124 ∷ content) ≡ err (Unclosed start)
unfolding atom_at barred_at
barred_ends total start content all = closing_ends total start _ _ (whole_run bar_content content all)

-- ---- texts

quote_passes : quotable 34 ≡ true
unfolding quotable space
quote_passes = refl

text_stops : (total start : ℕ) (front : List ℕ) (c : ℕ) (rest : List ℕ) → quotable c ≡ false → text_at total start false front (c ∷ rest) ≡ broken_at total c rest
unfolding text_at
text_stops total start front c rest unlike =
    let other : nat_eq c 34 ≡ false = test_no c 34 (λ is. (let clash : true ≡ false = sym quote_passes ∙ ap quotable (sym is) ∙ unlike in absurd cc)) in
    rw (other, unlike) refl

-- what was read before a byte of the content
text_step : (total start : ℕ) (front : List ℕ) (b : ℕ) (bs rest : List ℕ) (r : Result Read TextFault) (quote : Bool) → nat_eq b 34 ≡ quote → quotable b ≡ true →
    ((front : List ℕ) → text_at total start false front (doubled bs ++ rest) ≡ r) → text_at total start false front (cond quote (34 ∷ (34 ∷ doubled bs)) (b ∷ doubled bs) ++ rest) ≡ r
unfolding text_at
text_step total start front b bs rest r true e q goes = goes (front ++ (34 ∷ []))
text_step total start front b bs rest r false e q goes = rw (e, q) (goes (front ++ (b ∷ [])))

text_fails : (total start : ℕ) (front content : List ℕ) (rest : List ℕ) (r : Result Read TextFault) → all_bytes quotable content ≡ true → ((front : List ℕ) → text_at total start false front rest ≡ r) →
    text_at total start false front (doubled content ++ rest) ≡ r
text_fails total start front [] rest r all ends = ends front
text_fails total start front (b ∷ bs) rest r all ends =
    let both = and_both (quotable b) (all_bytes quotable bs) all in
    text_step total start front b bs rest r (nat_eq b 34) refl both.0 (λ front. text_fails total start front bs rest r both.1 ends)

quoted_fails : (total start : ℕ) (content : List ℕ) (c : ℕ) (rest : List ℕ) → all_bytes quotable content ≡ true → quotable c ≡ false → atom_at total start (34 ∷ (doubled content ++ (c ∷ rest))) ≡ broken_at total c rest
unfolding atom_at
quoted_fails total start content c rest all unlike = text_fails total start [] content (c ∷ rest) (broken_at total c rest) all (λ front. text_stops total start front c rest unlike)

text_is_open : (total start : ℕ) (front : List ℕ) → text_at total start false front [] ≡ err (Unclosed start)
unfolding text_at
text_is_open total start front = refl

quoted_ends : (total start : ℕ) (content : List ℕ) → all_bytes quotable content ≡ true → atom_at total start (34 ∷ doubled content) ≡ err (Unclosed start)
unfolding atom_at
quoted_ends total start content all =
    ap (λ l. text_at total start false [] l) (sym (append-nil (doubled content))) ∙ text_fails total start [] content [] (err (Unclosed start)) all (λ front. text_is_open total start front)

-- ---- keywords

keyword_fails : (total start : ℕ) (name : List ℕ) (c : ℕ) (rest : List ℕ) → all_bytes symbol_byte name ≡ true → symbol_byte c ≡ false → (0 < length name → separator c ≡ false) → atom_at total start (58 ∷ (name ++ (c ∷ rest))) ≡ broken_at total c rest
unfolding atom_at keyword_at
keyword_fails total start [] c rest all unlike sep = rw (no_run symbol_byte c rest unlike) (missing_byte total start c rest)
keyword_fails total start (b ∷ bs) c rest all unlike sep = rw (some_run symbol_byte b bs c rest all unlike) (ended_fails total _ _ c rest (behind symbol_byte (b ∷ bs) c rest all unlike) (sep (positive b bs)))

-- ---- vectors

sign_fails : (total start c : ℕ) (rest : List ℕ) → c ≢ 120 → c ≢ 98 → atom_at total start (35 ∷ (c ∷ rest)) ≡ broken_at total c rest
unfolding atom_at vector_at
sign_fails total start c rest hex bin = rw (test_no c 120 hex, test_no c 98 bin) refl

hexadecimal_fails : (total start : ℕ) (digits : List ℕ) (c : ℕ) (rest : List ℕ) → all_bytes hexadecimal_digit digits ≡ true → hexadecimal_digit c ≡ false → (0 < length digits → separator c ≡ false) →
    atom_at total start (35 ∷ (120 ∷ (digits ++ (c ∷ rest)))) ≡ broken_at total c rest
unfolding atom_at vector_at hexadecimal_at vector_of
hexadecimal_fails total start [] c rest all unlike sep = rw (no_run hexadecimal_digit c rest unlike) (missing_byte total start c rest)
hexadecimal_fails total start (b ∷ bs) c rest all unlike sep =
    rw (some_run hexadecimal_digit b bs c rest all unlike) (literal_fails total start _ _ _ c rest (behind hexadecimal_digit (b ∷ bs) c rest all unlike) (sep (positive b bs)))

binary_fails : (total start : ℕ) (digits : List ℕ) (c : ℕ) (rest : List ℕ) → all_bytes binary_digit digits ≡ true → binary_digit c ≡ false → (0 < length digits → separator c ≡ false) →
    atom_at total start (35 ∷ (98 ∷ (digits ++ (c ∷ rest)))) ≡ broken_at total c rest
unfolding atom_at vector_at binary_at vector_of
binary_fails total start [] c rest all unlike sep = rw (no_run binary_digit c rest unlike) (missing_byte total start c rest)
binary_fails total start (b ∷ bs) c rest all unlike sep =
    rw (some_run binary_digit b bs c rest all unlike) (literal_fails total start _ _ _ c rest (behind binary_digit (b ∷ bs) c rest all unlike) (sep (positive b bs)))

-- a run of digits that are too many, before what may follow them
large_run : (total start base bits : ℕ) (class : ℕ → Bool) (digits rest : List ℕ) → ((b : ℕ) → separator b ≡ true → class b ≡ false) → all_bytes class digits ≡ true → 64 < bits * length digits → may_follow rest ≡ true →
    cond (nat_eq (prefix_len class (digits ++ rest)) 0) (err (missing total start (digits ++ rest)))
    (vector_of total start base bits (take (prefix_len class (digits ++ rest)) (digits ++ rest)) (drop (prefix_len class (digits ++ rest)) (digits ++ rest))) ≡ err (LiteralRange start)
unfolding vector_of
large_run total start base bits class [] rest fails all more follows = absurd (omega (arith, more))
large_run total start base bits class (b ∷ bs) rest fails all more follows =
    let n : prefix_len class ((b ∷ bs) ++ rest) ≡ length (b ∷ bs) = run_again class (b ∷ bs) rest all (stops_at class fails rest follows) in
    let go : nat_eq (prefix_len class ((b ∷ bs) ++ rest)) 0 ≡ false = test_no _ 0 (λ e. omega (arith, n, e)) in
    let digits : take (prefix_len class ((b ∷ bs) ++ rest)) ((b ∷ bs) ++ rest) ≡ b ∷ bs = take_at (b ∷ bs) rest _ (sym n) in
    let left : drop (prefix_len class ((b ∷ bs) ++ rest)) ((b ∷ bs) ++ rest) ≡ rest = drop_at (b ∷ bs) rest _ (sym n) in
    rw go (literal_large total start _ _ _ (ap may_follow left ∙ follows) (ap (λ l. not (nat_lt 64 (bits * length l))) digits ∙ ap not (lt-ltb 64 (bits * length (b ∷ bs)) more)))

hexadecimal_large : (total start : ℕ) (digits rest : List ℕ) → all_bytes hexadecimal_digit digits ≡ true → 64 < 4 * length digits → may_follow rest ≡ true → atom_at total start (35 ∷ (120 ∷ (digits ++ rest))) ≡ err (LiteralRange start)
unfolding atom_at vector_at hexadecimal_at
hexadecimal_large total start digits rest all more follows = large_run total start 16 4 hexadecimal_digit digits rest no_hexadecimal all more follows

binary_large : (total start : ℕ) (digits rest : List ℕ) → all_bytes binary_digit digits ≡ true → 64 < length digits → may_follow rest ≡ true → atom_at total start (35 ∷ (98 ∷ (digits ++ rest))) ≡ err (LiteralRange start)
unfolding atom_at vector_at binary_at
binary_large total start digits rest all more follows = large_run total start 2 1 binary_digit digits rest no_binary all (omega (arith, more)) follows

-- ---- numbers

digit_48 : digit 48 ≡ true
unfolding digit
digit_48 = refl

zero_fails : (total start c : ℕ) (rest : List ℕ) → digit c ≡ true → length (48 ∷ (c ∷ rest)) ≤ total → start ≡ total - length (48 ∷ (c ∷ rest)) → atom_at total start (48 ∷ (c ∷ rest)) ≡ broken_at total c rest
unfolding numeral_at
zero_fails total start c rest d fits at =
    let two : prefix_len digit (48 ∷ (c ∷ rest)) ≡ 1 + (1 + prefix_len digit rest) = rw (digit_48, d) refl in
    let more : nat_lt 1 (prefix_len digit (48 ∷ (c ∷ rest))) ≡ true = lt-ltb 1 (prefix_len digit (48 ∷ (c ∷ rest))) (omega (arith, two)) in
    let place : start + 1 ≡ total - length (c ∷ rest) = omega (arith, at, fits) in
    starts_digit total start 48 (c ∷ rest) digit_48 ∙ (rw more (ap (λ n. err (BadByte n)) place))

numeral_fails : (total start : ℕ) (text : List ℕ) (c : ℕ) (rest : List ℕ) → is_numeral text ≡ true → digit c ≡ false → c ≢ 46 → separator c ≡ false → atom_at total start (text ++ (c ∷ rest)) ≡ broken_at total c rest
unfolding number_at integer_at
numeral_fails total start text c rest w unlike other sep =
    numeral_front total start text (c ∷ rest) w unlike ∙ (rw (test_no c 46 other) (literal_fails total start _ _ (c ∷ rest) c rest refl sep))

point_front : (total start : ℕ) (whole bytes : List ℕ) → is_numeral whole ≡ true → atom_at total start (whole ++ (46 ∷ bytes)) ≡ decimal_at total start whole bytes
unfolding number_at
point_front total start whole bytes w = numeral_front total start whole (46 ∷ bytes) w (point_stops bytes)

decimal_fails : (total start : ℕ) (whole part : List ℕ) (c : ℕ) (rest : List ℕ) → all_bytes digit part ≡ true → digit c ≡ false → (0 < length part → separator c ≡ false) → decimal_at total start whole (part ++ (c ∷ rest)) ≡ broken_at total c rest
unfolding decimal_at
decimal_fails total start whole [] c rest all unlike sep = rw (no_run digit c rest unlike) (missing_byte total start c rest)
decimal_fails total start whole (b ∷ bs) c rest all unlike sep = rw (some_run digit b bs c rest all unlike) (ended_fails total _ _ c rest (behind digit (b ∷ bs) c rest all unlike) (sep (positive b bs)))

decimal_ends : (total start : ℕ) (whole : List ℕ) → decimal_at total start whole [] ≡ err (Unclosed start)
unfolding decimal_at missing
decimal_ends total start whole = refl

number_large : (total start : ℕ) (text rest : List ℕ) → nat_lt (value_in 10 text) (2 ^ 127) ≡ false → may_follow rest ≡ true → number_at total start text rest ≡ err (LiteralRange start)
unfolding number_at integer_at may_follow
number_large total start text [] unlike follows = literal_large total start (nat_lt (value_in 10 text) (2 ^ 127)) (Numeral (value_in 10 text)) [] refl unlike
number_large total start text (b ∷ rest) unlike follows = rw (no_point b follows) (literal_large total start (nat_lt (value_in 10 text) (2 ^ 127)) (Numeral (value_in 10 text)) (b ∷ rest) follows unlike)

-- ---- an atom

grouped : (total start : ℕ) (front : List ℕ) (b : ℕ) (run : List ℕ) (c : ℕ) (rest : List ℕ) → front ≡ b ∷ run → atom_at total start (b ∷ (run ++ (c ∷ rest))) ≡ broken_at total c rest → atom_at total start (front ++ (c ∷ rest)) ≡ broken_at total c rest
grouped total start front b run c rest is fails = ap (λ l. atom_at total start (l ++ (c ∷ rest))) is ∙ fails

broken_fails : (total start : ℕ) (front : List ℕ) (c : ℕ) (rest : List ℕ) → IsBroken front c → length (front ++ (c ∷ rest)) ≤ total → start ≡ total - length (front ++ (c ∷ rest)) → atom_at total start (front ++ (c ∷ rest)) ≡ broken_at total c rest
broken_fails total start front c rest (at_first is unlike) fits at =
    let same : front ++ (c ∷ rest) ≡ c ∷ rest = ap (λ l. l ++ (c ∷ rest)) is in
    ap (atom_at total start) same ∙ first_fails total start c rest unlike (at ∙ ap (λ l. total - length l) same)
broken_fails total start front c rest (in_symbol h unlike sep) fits at = symbol_fails total start front c rest h unlike sep
broken_fails total start front c rest (in_bars content is all unlike other) fits at = grouped total start front 124 content c rest is (barred_fails total start content c rest all unlike other)
broken_fails total start front c rest (in_quotes content is all unlike) fits at = grouped total start front 34 (doubled content) c rest is (quoted_fails total start content c rest all unlike)
broken_fails total start front c rest (in_keyword name is all unlike sep) fits at = grouped total start front 58 name c rest is (keyword_fails total start name c rest all unlike sep)
broken_fails total start front c rest (behind_sign is hex bin) fits at = grouped total start front 35 [] c rest is (sign_fails total start c rest hex bin)
broken_fails total start front c rest (in_hexadecimal digits is all unlike sep) fits at = grouped total start front 35 (120 ∷ digits) c rest is (hexadecimal_fails total start digits c rest all unlike sep)
broken_fails total start front c rest (in_binary digits is all unlike sep) fits at = grouped total start front 35 (98 ∷ digits) c rest is (binary_fails total start digits c rest all unlike sep)
broken_fails total start front c rest (behind_zero is d) fits at =
    let same : front ++ (c ∷ rest) ≡ 48 ∷ (c ∷ rest) = ap (λ l. l ++ (c ∷ rest)) is in
    ap (atom_at total start) same ∙ zero_fails total start c rest d (subst (λ (l : List ℕ). length l ≤ total) same fits) (at ∙ ap (λ l. total - length l) same)
broken_fails total start front c rest (in_numeral w unlike other sep) fits at = numeral_fails total start front c rest w unlike other sep
broken_fails total start front c rest (behind_point whole part is w all unlike sep) fits at =
    ap (λ l. atom_at total start (l ++ (c ∷ rest))) is ∙ ap (atom_at total start) (append_assoc whole (46 ∷ part) (c ∷ rest))
    ∙ point_front total start whole (part ++ (c ∷ rest)) w ∙ decimal_fails total start whole part c rest all unlike sep

cut_fails : (total start : ℕ) (text : List ℕ) → IsCut text → atom_at total start text ≡ err (Unclosed start)
unfolding atom_at keyword_at vector_at hexadecimal_at binary_at missing
cut_fails total start text (bars content is all) = ap (atom_at total start) is ∙ barred_ends total start content all
cut_fails total start text (quotes content is all) = ap (atom_at total start) is ∙ quoted_ends total start content all
cut_fails total start text (colon is) = ap (atom_at total start) is
cut_fails total start text (sign is) = ap (atom_at total start) is
cut_fails total start text (hexadecimal_sign is) = ap (atom_at total start) is
cut_fails total start text (binary_sign is) = ap (atom_at total start) is
cut_fails total start text (point whole is w) = ap (atom_at total start) is ∙ point_front total start whole [] w ∙ decimal_ends total start whole

large_fails : (total start : ℕ) (text rest : List ℕ) → IsTooLarge text → may_follow rest ≡ true → atom_at total start (text ++ rest) ≡ err (LiteralRange start)
large_fails total start text rest (numeral w more) follows =
    numeral_front total start text rest w (stops_at digit no_digit rest follows) ∙ number_large total start text rest (le-ltb (value_in 10 text) (2 ^ 127) more) follows
large_fails total start text rest (hexadecimal digits is all more) follows = ap (λ l. atom_at total start (l ++ rest)) is ∙ hexadecimal_large total start digits rest all more follows
large_fails total start text rest (binary digits is all more) follows = ap (λ l. atom_at total start (l ++ rest)) is ∙ binary_large total start digits rest all more follows

pub atom_fails : (total : ℕ) (f : TextFault) (bytes : List ℕ) → IsBadAtom total f bytes → length bytes ≤ total → atom_at total (total - length bytes) bytes ≡ Err f
atom_fails total f bytes (byte front rest c is breaks fault) fits =
    ap (atom_at total (total - length bytes)) is
    ∙ broken_fails total (total - length bytes) front c rest breaks (subst (λ (l : List ℕ). length l ≤ total) is fits) (ap (λ l. total - length l) is)
    ∙ ap (λ g. err g) (sym fault)
atom_fails total f bytes (cut cuts fault) fits = cut_fails total (total - length bytes) bytes cuts ∙ ap (λ g. err g) (sym fault)
atom_fails total f bytes (large text rest is grows follows fault) fits =
    ap (atom_at total (total - length bytes)) is ∙ large_fails total (total - length bytes) text rest grows follows ∙ ap (λ g. err g) (sym fault)

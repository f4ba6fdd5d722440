-- An atom that isn't read is bad by what stands there.
use Rattle.std.proofs.Common.{◌≡◌, ◌≢◌, ℕ, zero, suc, ◌+◌, ◌-◌, ◌*◌, ◌^◌, ◌<◌, ◌≤◌, Bool, true, false, cond, not, ◌&&◌, ◌||◌, nat_eq, nat_lt, List, [], ◌∷◌, ◌++◌, length, take, drop, Result, Ok, Err, refl, sym, ap, subst, ◌∙◌, ◌⊎◌, inl, inr, arith, append_assoc}
use Rattle.std.proofs.lemmas.List.{take-append-drop, append-nil}
use Rattle.std.proofs.lemmas.Bool.{eqb-true, eqb-false, ltb-true, ltb-false}
use Rattle.std.specs.List.{prefix_len}
use Rattle.sy_text_items.specs.declared.atom.Atom.{Atom}
use Rattle.sy_text_items.specs.declared.atom.Atom.TheVariants.{Symbol, Keyword, Numeral, Decimal, Bits, Text}
use Rattle.sy_text_items.specs.declared.fault.TextFault.{TextFault}
use Rattle.sy_text_items.specs.declared.fault.TextFault.TheVariants.{BadByte, Unclosed, LiteralRange}
use Rattle.sy_text_items.specs.Lexicon.{space, digit, binary_digit, hexadecimal_digit, symbol_byte, quotable, bar_content, separator, value_in}
use Rattle.sy_text.specs.Reading.{missing, may_follow, ended, literal_read, symbol_at, closing_bar, barred_at, text_at, keyword_at, vector_of, hexadecimal_at, binary_at, vector_at, decimal_at, integer_at, number_at, numeral_at, atom_at}
use Rattle.sy_text.specs.Spelling.{all_bytes, bare, doubled, is_numeral}
use Rattle.sy_text.specs.Faults.{may_begin, IsBroken, at_first, in_symbol, in_bars, in_quotes, in_keyword, behind_sign, in_hexadecimal, in_binary, behind_zero, in_numeral, behind_point, IsCut, bars, quotes, colon, sign, hexadecimal_sign, binary_sign, point, IsTooLarge, numeral, hexadecimal, binary, IsBadAtom, byte, cut, large}
use Rattle.sy_text.proofs.Shorter.{ok, err, chosen}
use Rattle.sy_text.proofs.Found.{run_passes, some_run, bare_of, numeral_of}

abbrev Read : Type 0
Read = Atom × List ℕ

-- ---- which fault

pub is_err : {A : Type 0} (f g : TextFault) → err {A = A} f ≡ Err g → f ≡ g
is_err f g e = cc

pub no_ok : {A B : Type 0} (x : A) (f : TextFault) → ok x ≡ Err f → B
no_ok x f e = absurd cc

pub pick_err : {A : Type 0} (b : Bool) (x : A) (f g : TextFault) → cond b (Ok x) (Err f) ≡ Err g → (b ≡ false) × (g ≡ f)
pick_err true x f g e = no_ok x g e
pick_err false x f g e = (refl, sym (is_err f g e))

ended_err : (total : ℕ) (atom : Atom) (left : List ℕ) (f : TextFault) → ended total atom left ≡ Err f → (may_follow left ≡ false) × (f ≡ BadByte (total - length left))
unfolding ended
ended_err total atom left f e = pick_err (may_follow left) (atom, left) (BadByte (total - length left)) f e

literal_err : (total start : ℕ) (fits : Bool) (atom : Atom) (left : List ℕ) (f : TextFault) → literal_read total start fits atom left ≡ Err f →
    ((may_follow left ≡ false) × (f ≡ BadByte (total - length left))) ⊎ ((may_follow left ≡ true) × (fits ≡ false) × (f ≡ LiteralRange start))
unfolding literal_read
literal_err total start fits atom left f e =
    elim (chosen (may_follow left) (cond fits (ok (atom, left)) (err (LiteralRange start))) (err (BadByte (total - length left))) (Err f) e) [
      | inl h ↦ (let k = pick_err fits (atom, left) (LiteralRange start) f h.1 in inr (h.0, k.0, k.1))
      | inr h ↦ inl (h.0, sym (is_err (BadByte (total - length left)) f h.1))
    ]

-- a byte that stands where none may
record Stopped (left : List ℕ) : Type 0 where
  pub byte : ℕ
  pub rest : List ℕ
  pub is : left ≡ byte ∷ rest
  pub stops : separator byte ≡ false

stopped : (left : List ℕ) → may_follow left ≡ false → Stopped left
unfolding may_follow
stopped [] e = absurd cc
stopped (b ∷ rest) e = record { byte = b; rest = rest; is = refl; stops = e }

stop_step : (p : ℕ → Bool) (x : ℕ) (xs : List ℕ) (c : ℕ) (rest : List ℕ) (b : Bool) → p x ≡ b → (drop (prefix_len p xs) xs ≡ c ∷ rest → p c ≡ false) →
    drop (cond b (1 + prefix_len p xs) 0) (x ∷ xs) ≡ c ∷ rest → p c ≡ false
stop_step p x xs c rest true e h d =
    let one : 1 + prefix_len p xs ≡ suc (prefix_len p xs) = omega arith in
    h (ap (λ n. drop n (x ∷ xs)) (sym one) ∙ d)
stop_step p x xs c rest false e h d = let same : x ≡ c = cc in ap p (sym same) ∙ e

-- the byte behind a run fails its test
run_stop : (p : ℕ → Bool) (xs : List ℕ) (c : ℕ) (rest : List ℕ) → drop (prefix_len p xs) xs ≡ c ∷ rest → p c ≡ false
run_stop p [] c rest e = absurd cc
run_stop p (x ∷ xs) c rest e = stop_step p x xs c rest (p x) refl (run_stop p xs c rest) e

-- a byte that breaks what is the front of the bytes
broken : (total : ℕ) (bytes front left : List ℕ) (f : TextFault) → bytes ≡ front ++ left → (s : Stopped left) → f ≡ BadByte (total - length left) →
    ((c : ℕ) (rest : List ℕ) → left ≡ c ∷ rest → separator c ≡ false → IsBroken front c) → IsBadAtom total f bytes
broken total bytes front left f parts s is h =
    byte front s.rest s.byte (parts ∙ ap (λ l. front ++ l) s.is) (h s.byte s.rest s.is s.stops) (is ∙ ap (λ l. BadByte (total - length l)) s.is)

-- ---- symbols

symbol_bad : (total b : ℕ) (rest : List ℕ) (f : TextFault) → symbol_byte b ≡ true → digit b ≡ false → symbol_at total (b ∷ rest) ≡ Err f → IsBadAtom total f (b ∷ rest)
unfolding symbol_at
symbol_bad total b rest f s d e =
    let front = take (prefix_len symbol_byte (b ∷ rest)) (b ∷ rest) in
    let left = drop (prefix_len symbol_byte (b ∷ rest)) (b ∷ rest) in
    let h = ended_err total (Symbol front) left f e in
    broken total (b ∷ rest) front left f (sym (take-append-drop (prefix_len symbol_byte (b ∷ rest)) (b ∷ rest))) (stopped left h.0) h.1
    (λ c more is sep. in_symbol (bare_of b rest s d) (run_stop symbol_byte (b ∷ rest) c more is) sep)

closing_bad : (total start : ℕ) (name left : List ℕ) (f : TextFault) → all_bytes bar_content name ≡ true → ((c : ℕ) (rest : List ℕ) → left ≡ c ∷ rest → bar_content c ≡ false) →
    start ≡ total - length (124 ∷ (name ++ left)) → closing_bar total start (Symbol name) left ≡ Err f → IsBadAtom total f (124 ∷ (name ++ left))
unfolding closing_bar
closing_bad total start name [] f a stop at e = cut (bars name (ap (λ l. 124 ∷ l) (append-nil name)) a) (sym (is_err (Unclosed start) f e) ∙ ap (λ n. Unclosed n) at)
closing_bad total start name (b ∷ rest) f a stop at e =
    let h = pick_err (nat_eq b 124) (Symbol name, rest) (BadByte (total - length (b ∷ rest))) f e in
    byte (124 ∷ name) rest b refl (in_bars name refl a (stop b rest refl) (eqb-false b 124 h.0)) h.1

barred_bad : (total start : ℕ) (bytes : List ℕ) (f : TextFault) → start ≡ total - length (124 ∷ bytes) → barred_at total start bytes ≡ Err f → IsBadAtom total f (124 ∷ bytes)
unfolding barred_at
barred_bad total start bytes f at e =
    let whole = take-append-drop (prefix_len bar_content bytes) bytes in
    subst (λ l. IsBadAtom total f (124 ∷ l)) whole
    (closing_bad total start (take (prefix_len bar_content bytes) bytes) (drop (prefix_len bar_content bytes) bytes) f (run_passes bar_content bytes)
    (λ c rest is. run_stop bar_content bytes c rest is) (at ∙ ap (λ l. total - length (124 ∷ l)) (sym whole)) e)

-- ---- texts

both_hold : (p q : Bool) → (p && q) ≡ true → (p ≡ true) × (q ≡ true)
both_hold true q h = (refl, h)
both_hold false q h = absurd cc

doubled_more : (content more : List ℕ) → doubled (content ++ more) ≡ doubled content ++ doubled more
doubled_more [] more = refl
doubled_more (b ∷ content) more = at (nat_eq b 34) refl (doubled_more content more)
  where
    at : (q : Bool) → nat_eq b 34 ≡ q → doubled (content ++ more) ≡ doubled content ++ doubled more → doubled (b ∷ (content ++ more)) ≡ doubled (b ∷ content) ++ doubled more
    at true h rest = rw h (ap (λ l. 34 ∷ (34 ∷ l)) rest)
    at false h rest = rw h (ap (λ l. b ∷ l) rest)

all_more : (p : ℕ → Bool) (content : List ℕ) (b : ℕ) → all_bytes p content ≡ true → p b ≡ true → all_bytes p (content ++ b ∷ []) ≡ true
all_more p [] b a h = rw h refl
all_more p (c ∷ content) b a h =
    let both = both_hold (p c) (all_bytes p content) a in
    rw both.0 (all_more p content b both.1 h)

quote_passes : quotable 34 ≡ true
unfolding quotable space
quote_passes = refl

-- what stands behind the opening quote, where part of the content was read, and then a quote or none
abbrev opened : Bool → List ℕ → List ℕ → List ℕ
opened true content bytes = 34 ∷ (doubled content ++ (34 ∷ bytes))
opened false content bytes = 34 ∷ (doubled content ++ bytes)

quote_more : (content rest : List ℕ) → doubled (content ++ 34 ∷ []) ++ rest ≡ doubled content ++ (34 ∷ (34 ∷ rest))
quote_more content rest = ap (λ l. l ++ rest) (doubled_more content (34 ∷ [])) ∙ append_assoc (doubled content) (34 ∷ (34 ∷ [])) rest

byte_more : (content : List ℕ) (b : ℕ) (rest : List ℕ) → nat_eq b 34 ≡ false → doubled (content ++ b ∷ []) ++ rest ≡ doubled content ++ (b ∷ rest)
byte_more content b rest h =
    let one : doubled (b ∷ []) ≡ b ∷ [] = rw h refl in
    ap (λ l. l ++ rest) (doubled_more content (b ∷ []) ∙ ap (λ l. doubled content ++ l) one) ∙ append_assoc (doubled content) (b ∷ []) rest

text_bad : (total start : ℕ) (quote : Bool) (content bytes : List ℕ) (f : TextFault) → all_bytes quotable content ≡ true →
    start ≡ total - length (opened quote content bytes) → text_at total start quote content bytes ≡ Err f → IsBadAtom total f (opened quote content bytes)
unfolding text_at
text_bad total start true content [] f a at e = no_ok (Text content, []) f e
text_bad total start false content [] f a at e = cut (quotes content (ap (λ l. 34 ∷ l) (append-nil (doubled content))) a) (sym (is_err (Unclosed start) f e) ∙ ap (λ n. Unclosed n) at)
text_bad total start true content (b ∷ rest) f a at e =
    elim (chosen (nat_eq b 34) (text_at total start false (content ++ 34 ∷ []) rest) (ok (Text content, b ∷ rest)) (Err f) e) [
      | inl h ↦
          (let same : opened false (content ++ 34 ∷ []) rest ≡ opened true content (b ∷ rest) = ap (λ l. 34 ∷ l) (quote_more content rest) ∙ ap (λ k. 34 ∷ (doubled content ++ (34 ∷ (k ∷ rest)))) (sym (eqb-true b 34 h.0)) in
          subst (IsBadAtom total f) same (text_bad total start false (content ++ 34 ∷ []) rest f (all_more quotable content 34 a quote_passes) (at ∙ ap (λ l. total - length l) (sym same)) h.1))
      | inr h ↦ no_ok (Text content, b ∷ rest) f h.1
    ]
text_bad total start false content (b ∷ rest) f a at e =
    elim (chosen (nat_eq b 34) (text_at total start true content rest) _ (Err f) e) [
      | inl h ↦
          (let same : opened true content rest ≡ opened false content (b ∷ rest) = ap (λ k. 34 ∷ (doubled content ++ (k ∷ rest))) (sym (eqb-true b 34 h.0)) in
          subst (IsBadAtom total f) same (text_bad total start true content rest f a (at ∙ ap (λ l. total - length l) (sym same)) h.1))
      | inr h ↦ elim (chosen (quotable b) (text_at total start false (content ++ b ∷ []) rest) _ (Err f) h.1) [
        | inl k ↦
            (let same : opened false (content ++ b ∷ []) rest ≡ opened false content (b ∷ rest) = ap (λ l. 34 ∷ l) (byte_more content b rest h.0) in
            subst (IsBadAtom total f) same (text_bad total start false (content ++ b ∷ []) rest f (all_more quotable content b a k.0) (at ∙ ap (λ l. total - length l) (sym same)) k.1))
        | inr k ↦ byte (34 ∷ doubled content) rest b refl (in_quotes content refl a k.0) (sym (is_err (BadByte (total - length (b ∷ rest))) f k.1))
      ]
    ]

-- ---- runs behind a sign

-- the digits or bytes are missing: the front is all that there is, or the next byte breaks it
missing_bad : (total start : ℕ) (front bytes : List ℕ) (f : TextFault) → IsCut front → ((c : ℕ) (rest : List ℕ) → bytes ≡ c ∷ rest → IsBroken front c) →
    start ≡ total - length (front ++ bytes) → err {A = Read} (missing total start bytes) ≡ Err f → IsBadAtom total f (front ++ bytes)
unfolding missing
missing_bad total start front [] f c b at e = cut (subst IsCut (sym (append-nil front)) c) (sym (is_err (Unclosed start) f e) ∙ ap (λ n. Unclosed n) at)
missing_bad total start front (x ∷ rest) f c b at e = byte front rest x refl (b x rest refl) (sym (is_err (BadByte (total - length (x ∷ rest))) f e))

-- nothing passes the test
nothing_passes : (p : ℕ → Bool) (bytes : List ℕ) (c : ℕ) (rest : List ℕ) → nat_eq (prefix_len p bytes) 0 ≡ true → bytes ≡ c ∷ rest → p c ≡ false
nothing_passes p bytes c rest h is = run_stop p bytes c rest (ap (λ n. drop n bytes) (eqb-true (prefix_len p bytes) 0 h) ∙ is)

no_length : {P : Type 0} → 0 < length (let none : List ℕ = [] in none) → P
no_length h = absurd (omega (arith, h))

keyword_bad : (total start : ℕ) (bytes : List ℕ) (f : TextFault) → start ≡ total - length (58 ∷ bytes) → keyword_at total start bytes ≡ Err f → IsBadAtom total f (58 ∷ bytes)
unfolding keyword_at
keyword_bad total start bytes f at e =
    elim (chosen (nat_eq (prefix_len symbol_byte bytes) 0) (err (missing total start bytes)) _ (Err f) e) [
      | inl h ↦ missing_bad total start (58 ∷ []) bytes f (colon refl) (λ c rest is. in_keyword [] refl refl (nothing_passes symbol_byte bytes c rest h.0 is) no_length) at h.1
      | inr h ↦
          (let front = take (prefix_len symbol_byte bytes) bytes in
          let left = drop (prefix_len symbol_byte bytes) bytes in
          let k = ended_err total (Keyword front) left f h.1 in
          broken total (58 ∷ bytes) (58 ∷ front) left f (ap (λ l. 58 ∷ l) (sym (take-append-drop (prefix_len symbol_byte bytes) bytes))) (stopped left k.0) k.1
          (λ c rest is sep. in_keyword front refl (run_passes symbol_byte bytes) (run_stop symbol_byte bytes c rest is) (λ some. sep)))
    ]

-- ---- vectors

not_false : (p : Bool) → not p ≡ false → p ≡ true
not_false true h = refl
not_false false h = absurd cc

vector_run_bad : (total start first base bits : ℕ) (class : ℕ → Bool) (bytes : List ℕ) (f : TextFault) →
    ((digits : List ℕ) (c : ℕ) → all_bytes class digits ≡ true → class c ≡ false → (0 < length digits → separator c ≡ false) → IsBroken (35 ∷ first ∷ digits) c) →
    IsCut (35 ∷ first ∷ []) → ((digits : List ℕ) → all_bytes class digits ≡ true → 64 < bits * length digits → IsTooLarge (35 ∷ first ∷ digits)) →
    start ≡ total - length (35 ∷ first ∷ bytes) →
    cond (nat_eq (prefix_len class bytes) 0) (err (missing total start bytes)) (vector_of total start base bits (take (prefix_len class bytes) bytes) (drop (prefix_len class bytes) bytes)) ≡ Err f →
    IsBadAtom total f (35 ∷ first ∷ bytes)
unfolding vector_of
vector_run_bad total start first base bits class bytes f breaks cuts grows at e =
    elim (chosen (nat_eq (prefix_len class bytes) 0) (err (missing total start bytes)) _ (Err f) e) [
      | inl h ↦ missing_bad total start (35 ∷ first ∷ []) bytes f cuts (λ c rest is. breaks [] c refl (nothing_passes class bytes c rest h.0 is) no_length) at h.1
      | inr h ↦
          (let digits = take (prefix_len class bytes) bytes in
          let left = drop (prefix_len class bytes) bytes in
          let parts : 35 ∷ first ∷ bytes ≡ (35 ∷ first ∷ digits) ++ left = ap (λ l. 35 ∷ first ∷ l) (sym (take-append-drop (prefix_len class bytes) bytes)) in
          elim (literal_err total start (not (nat_lt 64 (bits * length digits))) _ left f h.1) [
            | inl k ↦ broken total (35 ∷ first ∷ bytes) (35 ∷ first ∷ digits) left f parts (stopped left k.0) k.1
                (λ c rest is sep. breaks digits c (run_passes class bytes) (run_stop class bytes c rest is) (λ some. sep))
            | inr k ↦ large (35 ∷ first ∷ digits) left parts (grows digits (run_passes class bytes) (ltb-true 64 (bits * length digits) (not_false (nat_lt 64 (bits * length digits)) k.1))) k.0 (k.2 ∙ ap (λ n. LiteralRange n) at)
          ])
    ]

hexadecimal_bad : (total start : ℕ) (bytes : List ℕ) (f : TextFault) → start ≡ total - length (35 ∷ 120 ∷ bytes) → hexadecimal_at total start bytes ≡ Err f → IsBadAtom total f (35 ∷ 120 ∷ bytes)
unfolding hexadecimal_at
hexadecimal_bad total start bytes f at e =
    vector_run_bad total start 120 16 4 hexadecimal_digit bytes f (λ digits c a stop sep. in_hexadecimal digits refl a stop sep) (hexadecimal_sign refl) (λ digits a more. hexadecimal digits refl a more) at e

binary_bad : (total start : ℕ) (bytes : List ℕ) (f : TextFault) → start ≡ total - length (35 ∷ 98 ∷ bytes) → binary_at total start bytes ≡ Err f → IsBadAtom total f (35 ∷ 98 ∷ bytes)
unfolding binary_at
binary_bad total start bytes f at e =
    vector_run_bad total start 98 2 1 binary_digit bytes f (λ digits c a stop sep. in_binary digits refl a stop sep) (binary_sign refl) (λ digits a more. binary digits refl a (omega (arith, more))) at e

vector_bad : (total start : ℕ) (bytes : List ℕ) (f : TextFault) → start ≡ total - length (35 ∷ bytes) → vector_at total start bytes ≡ Err f → IsBadAtom total f (35 ∷ bytes)
unfolding vector_at
vector_bad total start [] f at e = cut (sign refl) (sym (is_err (Unclosed start) f e) ∙ ap (λ n. Unclosed n) at)
vector_bad total start (b ∷ rest) f at e =
    elim (chosen (nat_eq b 120) (hexadecimal_at total start rest) _ (Err f) e) [
      | inl h ↦ (let P : ℕ → Type 0 = λ c. IsBadAtom total f (35 ∷ c ∷ rest) in subst P (sym (eqb-true b 120 h.0)) (hexadecimal_bad total start rest f at h.1))
      | inr h ↦ elim (chosen (nat_eq b 98) (binary_at total start rest) _ (Err f) h.1) [
        | inl k ↦ (let P : ℕ → Type 0 = λ c. IsBadAtom total f (35 ∷ c ∷ rest) in subst P (sym (eqb-true b 98 k.0)) (binary_bad total start rest f at k.1))
        | inr k ↦ byte (35 ∷ []) rest b refl (behind_sign refl (eqb-false b 120 h.0) (eqb-false b 98 k.0)) (sym (is_err (BadByte (total - length (b ∷ rest))) f k.1))
      ]
    ]

-- ---- numbers

integer_bad : (total start : ℕ) (digits left : List ℕ) (f : TextFault) → is_numeral digits ≡ true → ((c : ℕ) (rest : List ℕ) → left ≡ c ∷ rest → digit c ≡ false) →
    ((c : ℕ) (rest : List ℕ) → left ≡ c ∷ rest → c ≢ 46) → start ≡ total - length (digits ++ left) → integer_at total start digits left ≡ Err f → IsBadAtom total f (digits ++ left)
unfolding integer_at
integer_bad total start digits left f w stop other at e =
    elim (literal_err total start (nat_lt (value_in 10 digits) (2 ^ 127)) (Numeral (value_in 10 digits)) left f e) [
      | inl k ↦ broken total (digits ++ left) digits left f refl (stopped left k.0) k.1 (λ c rest is sep. in_numeral w (stop c rest is) (other c rest is) sep)
      | inr k ↦ large digits left refl (numeral w (ltb-false (value_in 10 digits) (2 ^ 127) k.1)) k.0 (k.2 ∙ ap (λ n. LiteralRange n) at)
    ]

decimal_bad : (total start : ℕ) (whole bytes : List ℕ) (f : TextFault) → is_numeral whole ≡ true → start ≡ total - length (whole ++ 46 ∷ bytes) → decimal_at total start whole bytes ≡ Err f → IsBadAtom total f (whole ++ 46 ∷ bytes)
unfolding decimal_at
decimal_bad total start whole bytes f w at e =
    elim (chosen (nat_eq (prefix_len digit bytes) 0) (err (missing total start bytes)) _ (Err f) e) [
      | inl h ↦
          (let same : (whole ++ 46 ∷ []) ++ bytes ≡ whole ++ 46 ∷ bytes = append_assoc whole (46 ∷ []) bytes in
          subst (IsBadAtom total f) same
          (missing_bad total start (whole ++ 46 ∷ []) bytes f (point whole refl w) (λ c rest is. behind_point whole [] refl w refl (nothing_passes digit bytes c rest h.0 is) no_length) (at ∙ ap (λ l. total - length l) (sym same)) h.1))
      | inr h ↦
          (let part = take (prefix_len digit bytes) bytes in
          let left = drop (prefix_len digit bytes) bytes in
          let k = ended_err total (Decimal (whole ++ 46 ∷ part)) left f h.1 in
          broken total (whole ++ 46 ∷ bytes) (whole ++ 46 ∷ part) left f
          (ap (λ l. whole ++ 46 ∷ l) (sym (take-append-drop (prefix_len digit bytes) bytes)) ∙ sym (append_assoc whole (46 ∷ part) left)) (stopped left k.0) k.1
          (λ c rest is sep. behind_point whole part refl w (run_passes digit bytes) (run_stop digit bytes c rest is) (λ some. sep)))
    ]

no_first : (c : ℕ) (rest : List ℕ) {P : Type 0} → (let none : List ℕ = [] in none) ≡ c ∷ rest → P
no_first c rest e = absurd cc

first_is : (b c : ℕ) (rest more : List ℕ) → b ∷ rest ≡ c ∷ more → b ≡ c
first_is b c rest more e = cc

number_bad : (total start : ℕ) (digits left : List ℕ) (f : TextFault) → is_numeral digits ≡ true → ((c : ℕ) (rest : List ℕ) → left ≡ c ∷ rest → digit c ≡ false) →
    start ≡ total - length (digits ++ left) → number_at total start digits left ≡ Err f → IsBadAtom total f (digits ++ left)
unfolding number_at
number_bad total start digits [] f w stop at e = integer_bad total start digits [] f w stop (λ c rest is. no_first c rest is) at e
number_bad total start digits (b ∷ rest) f w stop at e =
    elim (chosen (nat_eq b 46) (decimal_at total start digits rest) _ (Err f) e) [
      | inl h ↦
          (let P : ℕ → Type 0 = λ c. start ≡ total - length (digits ++ c ∷ rest) in
          let Q : ℕ → Type 0 = λ c. IsBadAtom total f (digits ++ c ∷ rest) in
          let same = eqb-true b 46 h.0 in
          subst Q (sym same) (decimal_bad total start digits rest f w (subst P same at) h.1))
      | inr h ↦ integer_bad total start digits (b ∷ rest) f w stop (λ c more is at46. eqb-false b 46 h.0 (first_is b c rest more is ∙ at46)) at h.1
    ]

record Second (rest : List ℕ) : Type 0 where
  pub byte : ℕ
  pub more : List ℕ
  pub is : rest ≡ byte ∷ more
  pub passes : digit byte ≡ true

second_step : (c : ℕ) (more : List ℕ) (b : Bool) → digit c ≡ b → 0 < cond b (1 + prefix_len digit more) 0 → Second (c ∷ more)
second_step c more true e h = record { byte = c; more = more; is = refl; passes = e }
second_step c more false e h = absurd (omega (arith, h))

second : (rest : List ℕ) → 0 < prefix_len digit rest → Second rest
second [] h = absurd (omega (arith, h))
second (c ∷ more) h = second_step c more (digit c) refl h

longer : (b : ℕ) (rest : List ℕ) → digit b ≡ true → 1 < prefix_len digit (b ∷ rest) → 0 < prefix_len digit rest
longer b rest d h = let more : 1 < 1 + prefix_len digit rest = rw d at h in omega (arith, more)

numeral_bad : (total start b : ℕ) (rest : List ℕ) (f : TextFault) → digit b ≡ true → length (b ∷ rest) ≤ total → start ≡ total - length (b ∷ rest) → numeral_at total start (b ∷ rest) ≡ Err f → IsBadAtom total f (b ∷ rest)
unfolding numeral_at
numeral_bad total start b rest f d within at e =
    elim (chosen (nat_eq b 48 && nat_lt 1 (prefix_len digit (b ∷ rest))) (err (BadByte (start + 1))) _ (Err f) e) [
      | inl h ↦
          (let both = both_hold (nat_eq b 48) (nat_lt 1 (prefix_len digit (b ∷ rest))) h.0 in
          let s = second rest (longer b rest d (ltb-true 1 (prefix_len digit (b ∷ rest)) both.1)) in
          let zero = eqb-true b 48 both.0 in
          let place : start + 1 ≡ total - length rest = omega (arith, at, within) in
          byte (48 ∷ []) s.more s.byte (ap (λ c. c ∷ rest) zero ∙ ap (λ l. 48 ∷ l) s.is) (behind_zero refl s.passes)
          (sym (is_err (BadByte (start + 1)) f h.1) ∙ ap (λ n. BadByte n) place ∙ ap (λ l. BadByte (total - length l)) s.is))
      | inr h ↦
          (let n = prefix_len digit (b ∷ rest) in
          let whole = take-append-drop (prefix_len digit (b ∷ rest)) (b ∷ rest) in
          subst (IsBadAtom total f) whole
          (number_bad total start (take (prefix_len digit (b ∷ rest)) (b ∷ rest)) (drop (prefix_len digit (b ∷ rest)) (b ∷ rest)) f (numeral_of b rest d h.0)
          (λ c more is. run_stop digit (b ∷ rest) c more is) (at ∙ ap (λ l. total - length l) (sym whole)) h.1))
    ]

-- ---- an atom

-- neither white space, nor a bracket, nor the sign of a comment
pub record Starts (b : ℕ) : Type 0 where
  pub solid : space b ≡ false
  pub no_list : nat_eq b 40 ≡ false
  pub no_end : nat_eq b 41 ≡ false
  pub no_comment : nat_eq b 59 ≡ false

begins_nothing : (b : ℕ) → Starts b → nat_eq b 124 ≡ false → nat_eq b 34 ≡ false → nat_eq b 58 ≡ false → nat_eq b 35 ≡ false → symbol_byte b ≡ false → may_begin b ≡ false
unfolding separator
begins_nothing b s no_bar no_quote no_colon no_sign no_symbol = rw (s.solid, s.no_list, s.no_end, s.no_comment, no_bar, no_quote, no_colon, no_sign, no_symbol) refl

headed : (total : ℕ) (f : TextFault) (b k : ℕ) (rest : List ℕ) → nat_eq b k ≡ true → IsBadAtom total f (k ∷ rest) → IsBadAtom total f (b ∷ rest)
headed total f b k rest e h = let P : ℕ → Type 0 = λ c. IsBadAtom total f (c ∷ rest) in subst P (sym (eqb-true b k e)) h

pub atom_bad : (total start b : ℕ) (rest : List ℕ) (f : TextFault) → Starts b → length (b ∷ rest) ≤ total → start ≡ total - length (b ∷ rest) → atom_at total start (b ∷ rest) ≡ Err f → IsBadAtom total f (b ∷ rest)
unfolding atom_at
atom_bad total start b rest f s within at e =
    elim (chosen (nat_eq b 124) (barred_at total start rest) _ (Err f) e) [
      | inl h ↦ headed total f b 124 rest h.0 (barred_bad total start rest f at h.1)
      | inr h1 ↦ elim (chosen (nat_eq b 34) (text_at total start false [] rest) _ (Err f) h1.1) [
        | inl h ↦ headed total f b 34 rest h.0 (text_bad total start false [] rest f refl at h.1)
        | inr h2 ↦ elim (chosen (nat_eq b 58) (keyword_at total start rest) _ (Err f) h2.1) [
          | inl h ↦ headed total f b 58 rest h.0 (keyword_bad total start rest f at h.1)
          | inr h3 ↦ elim (chosen (nat_eq b 35) (vector_at total start rest) _ (Err f) h3.1) [
            | inl h ↦ headed total f b 35 rest h.0 (vector_bad total start rest f at h.1)
            | inr h4 ↦ elim (chosen (digit b) (numeral_at total start (b ∷ rest)) _ (Err f) h4.1) [
              | inl h ↦ numeral_bad total start b rest f h.0 within at h.1
              | inr h5 ↦ elim (chosen (symbol_byte b) (symbol_at total (b ∷ rest)) _ (Err f) h5.1) [
                | inl h ↦ symbol_bad total b rest f h.0 h5.0 h.1
                | inr h6 ↦ byte [] rest b refl (at_first refl (begins_nothing b s h1.0 h2.0 h3.0 h4.0 h6.0)) (sym (is_err (BadByte start) f h6.1) ∙ ap (λ n. BadByte n) at)
              ]
            ]
          ]
        ]
      ]
    ]

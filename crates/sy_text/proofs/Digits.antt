-- Numbers as digits, and what is written as text of the grammar.
use Rattle.std.proofs.Common.{◌≡◌, ℕ, zero, suc, ◌+◌, ◌-◌, ◌*◌, ◌/◌, ◌%◌, ◌^◌, ◌<◌, ◌≤◌, Bool, true, false, cond, not, ◌||◌, nat_eq, nat_lt, List, [], ◌∷◌, ◌++◌, length, refl, sym, ap, subst, ◌∙◌, inl, inr, arith, Result, Ok, Err}
use Rattle.std.specs.Prelude.{IfOk}
use Rattle.std.proofs.Math.Nat.{mul-le-mul_left, pow-succ', pow-zero, div-add-mod, mod-lt, mod-eq_of_lt}
use Rattle.std.proofs.lemmas.List.{length-append}
use Rattle.std.proofs.lemmas.List.Sums.{fold-append}
use Rattle.std.proofs.lemmas.Bool.{cases_lt, ltb-true, ltb-false, lt-ltb, eqb-true}
use Rattle.sy_text_items.specs.declared.atom.Atom.{Atom}
use Rattle.sy_text_items.specs.declared.atom.Atom.TheVariants.{Symbol, Keyword, Numeral, Decimal, Bits, Text}
use Rattle.sy_text_items.specs.Items.{Item, leaf, group, Items, none, more}
use Rattle.sy_text_items.specs.Lexicon.{space, digit, binary_digit, hexadecimal_digit, bar_content, separator, digit_value, value_in}
use Rattle.sy_text.specs.Reading.{may_follow}
use Rattle.sy_text.specs.Spelling.{all_bytes, bare, is_numeral, digit_of, digits_of, decimal_len, vector_text, symbol_text, atom_text, item_text, inner_text, others_text, AtomFits, ItemFits, ItemsFit, parted}
use Rattle.sy_text.specs.Grammar.{is_layout, no_quote, IsAtom, IsItem, AreItems}
use Rattle.sy_text.proofs.Values.{next, pow_of_pow}
use Rattle.sy_text.proofs.Again.{and_both}
use Rattle.sy_text.proofs.Nested.{test_no}

below2 : (P : ℕ → Type 0) → P 0 → P 1 → (m : ℕ) → m < 2 → P m
below2 P p0 p1 zero lt = p0
below2 P p0 p1 (suc zero) lt = p1
below2 P p0 p1 (suc (suc m)) lt = absurd (omega arith)

below10 : (P : ℕ → Type 0) → P 0 → P 1 → P 2 → P 3 → P 4 → P 5 → P 6 → P 7 → P 8 → P 9 → (m : ℕ) → m < 10 → P m
below10 P p0 p1 p2 p3 p4 p5 p6 p7 p8 p9 zero lt = p0
below10 P p0 p1 p2 p3 p4 p5 p6 p7 p8 p9 (suc zero) lt = p1
below10 P p0 p1 p2 p3 p4 p5 p6 p7 p8 p9 (suc (suc zero)) lt = p2
below10 P p0 p1 p2 p3 p4 p5 p6 p7 p8 p9 (suc (suc (suc zero))) lt = p3
below10 P p0 p1 p2 p3 p4 p5 p6 p7 p8 p9 (suc (suc (suc (suc zero)))) lt = p4
below10 P p0 p1 p2 p3 p4 p5 p6 p7 p8 p9 (suc (suc (suc (suc (suc zero))))) lt = p5
below10 P p0 p1 p2 p3 p4 p5 p6 p7 p8 p9 (suc (suc (suc (suc (suc (suc zero)))))) lt = p6
below10 P p0 p1 p2 p3 p4 p5 p6 p7 p8 p9 (suc (suc (suc (suc (suc (suc (suc zero))))))) lt = p7
below10 P p0 p1 p2 p3 p4 p5 p6 p7 p8 p9 (suc (suc (suc (suc (suc (suc (suc (suc zero)))))))) lt = p8
below10 P p0 p1 p2 p3 p4 p5 p6 p7 p8 p9 (suc (suc (suc (suc (suc (suc (suc (suc (suc zero))))))))) lt = p9
below10 P p0 p1 p2 p3 p4 p5 p6 p7 p8 p9 (suc (suc (suc (suc (suc (suc (suc (suc (suc (suc m)))))))))) lt = absurd (omega arith)

below16 : (P : ℕ → Type 0) → P 0 → P 1 → P 2 → P 3 → P 4 → P 5 → P 6 → P 7 → P 8 → P 9 → P 10 → P 11 → P 12 → P 13 → P 14 → P 15 → (m : ℕ) → m < 16 → P m
below16 P p0 p1 p2 p3 p4 p5 p6 p7 p8 p9 p10 p11 p12 p13 p14 p15 zero lt = p0
below16 P p0 p1 p2 p3 p4 p5 p6 p7 p8 p9 p10 p11 p12 p13 p14 p15 (suc zero) lt = p1
below16 P p0 p1 p2 p3 p4 p5 p6 p7 p8 p9 p10 p11 p12 p13 p14 p15 (suc (suc zero)) lt = p2
below16 P p0 p1 p2 p3 p4 p5 p6 p7 p8 p9 p10 p11 p12 p13 p14 p15 (suc (suc (suc zero))) lt = p3
below16 P p0 p1 p2 p3 p4 p5 p6 p7 p8 p9 p10 p11 p12 p13 p14 p15 (suc (suc (suc (suc zero)))) lt = p4
below16 P p0 p1 p2 p3 p4 p5 p6 p7 p8 p9 p10 p11 p12 p13 p14 p15 (suc (suc (suc (suc (suc zero))))) lt = p5
below16 P p0 p1 p2 p3 p4 p5 p6 p7 p8 p9 p10 p11 p12 p13 p14 p15 (suc (suc (suc (suc (suc (suc zero)))))) lt = p6
below16 P p0 p1 p2 p3 p4 p5 p6 p7 p8 p9 p10 p11 p12 p13 p14 p15 (suc (suc (suc (suc (suc (suc (suc zero))))))) lt = p7
below16 P p0 p1 p2 p3 p4 p5 p6 p7 p8 p9 p10 p11 p12 p13 p14 p15 (suc (suc (suc (suc (suc (suc (suc (suc zero)))))))) lt = p8
below16 P p0 p1 p2 p3 p4 p5 p6 p7 p8 p9 p10 p11 p12 p13 p14 p15 (suc (suc (suc (suc (suc (suc (suc (suc (suc zero))))))))) lt = p9
below16 P p0 p1 p2 p3 p4 p5 p6 p7 p8 p9 p10 p11 p12 p13 p14 p15 (suc (suc (suc (suc (suc (suc (suc (suc (suc (suc zero)))))))))) lt = p10
below16 P p0 p1 p2 p3 p4 p5 p6 p7 p8 p9 p10 p11 p12 p13 p14 p15 (suc (suc (suc (suc (suc (suc (suc (suc (suc (suc (suc zero))))))))))) lt = p11
below16 P p0 p1 p2 p3 p4 p5 p6 p7 p8 p9 p10 p11 p12 p13 p14 p15 (suc (suc (suc (suc (suc (suc (suc (suc (suc (suc (suc (suc zero)))))))))))) lt = p12
below16 P p0 p1 p2 p3 p4 p5 p6 p7 p8 p9 p10 p11 p12 p13 p14 p15 (suc (suc (suc (suc (suc (suc (suc (suc (suc (suc (suc (suc (suc zero))))))))))))) lt = p13
below16 P p0 p1 p2 p3 p4 p5 p6 p7 p8 p9 p10 p11 p12 p13 p14 p15 (suc (suc (suc (suc (suc (suc (suc (suc (suc (suc (suc (suc (suc (suc zero)))))))))))))) lt = p14
below16 P p0 p1 p2 p3 p4 p5 p6 p7 p8 p9 p10 p11 p12 p13 p14 p15 (suc (suc (suc (suc (suc (suc (suc (suc (suc (suc (suc (suc (suc (suc (suc zero))))))))))))))) lt = p15
below16 P p0 p1 p2 p3 p4 p5 p6 p7 p8 p9 p10 p11 p12 p13 p14 p15 (suc (suc (suc (suc (suc (suc (suc (suc (suc (suc (suc (suc (suc (suc (suc (suc m)))))))))))))))) lt = absurd (omega arith)

digit_back : (m : ℕ) → m < 16 → digit_value (digit_of m) ≡ m
unfolding digit_value digit_of
digit_back m lt = below16 (λ n. digit_value (digit_of n) ≡ n) refl refl refl refl refl refl refl refl refl refl refl refl refl refl refl refl m lt

hexadecimal_class : (m : ℕ) → m < 16 → hexadecimal_digit (digit_of m) ≡ true
unfolding hexadecimal_digit digit_of
hexadecimal_class m lt = below16 (λ n. hexadecimal_digit (digit_of n) ≡ true) refl refl refl refl refl refl refl refl refl refl refl refl refl refl refl refl m lt

digit_class : (m : ℕ) → m < 10 → digit (digit_of m) ≡ true
unfolding digit digit_of
digit_class m lt = below10 (λ n. digit (digit_of n) ≡ true) refl refl refl refl refl refl refl refl refl refl m lt

binary_class : (m : ℕ) → m < 2 → binary_digit (digit_of m) ≡ true
unfolding binary_digit digit_of
binary_class m lt = below2 (λ n. binary_digit (digit_of n) ≡ true) refl refl m lt

divided : (base k n : ℕ) → n < base ^ (suc k) → n / base < base ^ k
divided base k n lt =
    elim (cases_lt (n / base) (base ^ k)) [
      | inl h ↦ h
      | inr h ↦ absurd (let room : base * base ^ k ≤ base * (n / base) = mul-le-mul_left base h in omega (arith, room, div-add-mod n base, pow-succ' base k))
    ]

-- ---- digits

length_digits : (k base n : ℕ) → length (digits_of k base n) ≡ k
unfolding digits_of
length_digits zero base n = refl
length_digits (suc k) base n = omega (arith, length-append (digits_of k base (n / base)) (digit_of (n % base) ∷ []), length_digits k base (n / base))

value_digits : (k base n : ℕ) → 1 ≤ base → base ≤ 16 → n < base ^ k → value_in base (digits_of k base n) ≡ n
unfolding digits_of
value_digits zero base n low high lt = omega (arith, pow-zero base)
value_digits (suc k) base n low high lt =
    let small : n % base < base = mod-lt n low in
    let below : n % base < 16 = omega (arith, small, high) in
    let front : value_in base (digits_of k base (n / base)) ≡ n / base = value_digits k base (n / base) low high (divided base k n lt) in
    fold-append (next base) 0 (digits_of k base (n / base)) (digit_of (n % base) ∷ [])
    ∙ ap (λ (m : ℕ). base * m + digit_value (digit_of (n % base))) front
    ∙ ap (λ (m : ℕ). base * (n / base) + m) (digit_back (n % base) below)
    ∙ div-add-mod n base

all_append : (p : ℕ → Bool) (xs : List ℕ) (b : ℕ) → all_bytes p xs ≡ true → p b ≡ true → all_bytes p (xs ++ b ∷ []) ≡ true
all_append p [] b h e = rw e refl
all_append p (x ∷ xs) b h e = let both = and_both (p x) (all_bytes p xs) h in rw both.0 (all_append p xs b both.1 e)

all_digits : (p : ℕ → Bool) (k base n : ℕ) → 1 ≤ base → ((m : ℕ) → m < base → p (digit_of m) ≡ true) → all_bytes p (digits_of k base n) ≡ true
unfolding digits_of
all_digits p zero base n low h = refl
all_digits p (suc k) base n low h = all_append p (digits_of k base (n / base)) (digit_of (n % base)) (all_digits p k base (n / base) low h) (h (n % base) (mod-lt n low))

-- ---- numerals

len_cases : (most n : ℕ) (small : Bool) → nat_lt n 10 ≡ small → n / 10 < 10 ^ decimal_len most (n / 10) → n < 10 ^ cond small 1 (decimal_len most (n / 10) + 1)
len_cases most n true e h = ltb-true n 10 e
len_cases most n false e h =
    let one : decimal_len most (n / 10) + 1 ≡ suc (decimal_len most (n / 10)) = omega arith in
    let rest : n % 10 < 10 = omega arith in
    rw one (omega (arith, pow-succ' 10 (decimal_len most (n / 10)), h))

len_fits : (most n : ℕ) → n < 10 ^ (suc most) → n < 10 ^ decimal_len most n
unfolding decimal_len
len_fits zero n lt = lt
len_fits (suc most) n lt = len_cases most n (nat_lt n 10) refl (len_fits most (n / 10) (divided 10 (suc most) n lt))

-- digits that don't begin with 0
pub record Leads (text : List ℕ) : Type 0 where
  pub first : ℕ
  pub others : List ℕ
  pub parts : text ≡ first ∷ others
  pub some : nat_eq first 48 ≡ false

leads_one : (n : ℕ) → 1 ≤ n → n < 10 → Leads (digits_of 1 10 n)
unfolding digits_of digit_of
leads_one n some lt =
    let same : n % 10 ≡ n = mod-eq_of_lt lt in
    record {
      first = digit_of (n % 10);
      others = [];
      parts = refl;
      some = rw (same, lt-ltb n 10 lt) (test_no (n + 48) 48 (λ e. omega (arith, e)));
    }

leads_more : (k n : ℕ) → Leads (digits_of k 10 (n / 10)) → Leads (digits_of (suc k) 10 n)
unfolding digits_of
leads_more k n h = record { first = h.first; others = h.others ++ digit_of (n % 10) ∷ []; parts = ap (λ (l : List ℕ). l ++ digit_of (n % 10) ∷ []) h.parts; some = h.some }

leads_cases : (most n : ℕ) (small : Bool) → nat_lt n 10 ≡ small → 1 ≤ n → (1 ≤ n / 10 → Leads (digits_of (decimal_len most (n / 10)) 10 (n / 10))) → Leads (digits_of (cond small 1 (decimal_len most (n / 10) + 1)) 10 n)
leads_cases most n true e some h = leads_one n some (ltb-true n 10 e)
leads_cases most n false e some h =
    let one : decimal_len most (n / 10) + 1 ≡ suc (decimal_len most (n / 10)) = omega arith in
    let large : 10 ≤ n = ltb-false n 10 e in
    let P : ℕ → Type 0 = λ k. Leads (digits_of k 10 n) in
    subst P (sym one) (leads_more (decimal_len most (n / 10)) n (h (omega arith)))

leads : (most n : ℕ) → 1 ≤ n → n < 10 ^ (suc most) → Leads (digits_of (decimal_len most n) 10 n)
unfolding decimal_len
leads zero n some lt = leads_one n some (omega (arith, lt))
leads (suc most) n some lt = leads_cases most n (nat_lt n 10) refl some (λ more. leads most (n / 10) more (divided 10 (suc most) n lt))

is_numeral_of : (text : List ℕ) → Leads text → all_bytes digit text ≡ true → is_numeral text ≡ true
unfolding is_numeral
is_numeral_of text h e =
    let P : List ℕ → Type 0 = λ l. all_bytes digit l ≡ true → is_numeral l ≡ true in
    subst P (sym h.parts) (λ a. rw (a, h.some) refl) e

zero_text : is_numeral (digits_of (decimal_len 38 0) 10 0) ≡ true
unfolding is_numeral digits_of decimal_len digit_of digit
zero_text = refl

numeral_spelled : (n : ℕ) → n < 2 ^ 127 → is_numeral (digits_of (decimal_len 38 n) 10 n) ≡ true
numeral_spelled zero lt = zero_text
numeral_spelled (suc n) lt =
    let fits : suc n < 10 ^ 39 = omega (arith, lt) in
    is_numeral_of _ (leads 38 (suc n) (omega arith) fits) (all_digits digit (decimal_len 38 (suc n)) 10 (suc n) (omega arith) digit_class)

-- ---- atoms

parted_byte : (s c o p q r : Bool) → (s || c) ≡ true → (((((s || o) || c) || p) || q) || r) ≡ true
parted_byte true c o p q r h = refl
parted_byte false true false p q r h = refl
parted_byte false true true p q r h = refl
parted_byte false false o p q r h = absurd cc

quote_parts : (b : ℕ) → b ≡ 34 → (space b || nat_eq b 41) ≡ true → ⊥
unfolding space
quote_parts b e h = let P : ℕ → Type 0 = λ n. (space n || nat_eq n 41) ≡ true in let clash : false ≡ true = subst P e h in absurd cc

parted_follows : (rest : List ℕ) → parted rest ≡ true → may_follow rest ≡ true
unfolding may_follow separator
parted_follows [] h = refl
parted_follows (b ∷ rest) h = parted_byte (space b) (nat_eq b 41) (nat_eq b 40) (nat_eq b 59) (nat_eq b 34) (nat_eq b 124) h

no_quote_of : (rest : List ℕ) → parted rest ≡ true → no_quote rest ≡ true
unfolding space
no_quote_of [] h = refl
no_quote_of (b ∷ rest) h = ap not (test_no b 34 (λ e. quote_parts b e h))

symbol_spelled : (name : List ℕ) (is_bare : Bool) (rest : List ℕ) → bare name ≡ is_bare → all_bytes bar_content name ≡ true → parted rest ≡ true → IsAtom (Symbol name) (cond is_bare name (124 ∷ name ++ 124 ∷ [])) rest
symbol_spelled name true rest e h p = inl (e, refl, parted_follows rest p)
symbol_spelled name false rest e h p = inr (h, refl)

vector_spelled : (width n : ℕ) (rest : List ℕ) (four : Bool) → nat_eq (width % 4) 0 ≡ four → 1 ≤ width → width ≤ 64 → n < 2 ^ width → parted rest ≡ true
    → IsAtom (Bits width n) (cond four (35 ∷ 120 ∷ digits_of (width / 4) 16 n) (35 ∷ 98 ∷ digits_of width 2 n)) rest
vector_spelled width n rest false e some le lt p = (
  inr (record {
    digits = digits_of width 2 n;
    spelled = refl;
    of_class = all_digits binary_digit width 2 n (omega arith) binary_class;
    some = omega (arith, length_digits width 2 n, some);
    wide = omega (arith, length_digits width 2 n);
    narrow = le;
    value = sym (value_digits width 2 n (omega arith) (omega arith) lt);
  }),
  parted_follows rest p,
)
vector_spelled width n rest true e some le lt p =
    let whole : width % 4 ≡ 0 = eqb-true (width % 4) 0 e in
    let parts : 4 * (width / 4) ≡ width = omega (arith, div-add-mod width 4, whole) in
    let power : 2 ^ width ≡ 16 ^ (width / 4) = ap (λ (w : ℕ). 2 ^ w) (sym parts) ∙ pow_of_pow (width / 4) in (
      inl (record {
        digits = digits_of (width / 4) 16 n;
        spelled = refl;
        of_class = all_digits hexadecimal_digit (width / 4) 16 n (omega arith) hexadecimal_class;
        some = omega (arith, length_digits (width / 4) 16 n, some, parts);
        wide = omega (arith, length_digits (width / 4) 16 n, parts);
        narrow = le;
        value = sym (value_digits (width / 4) 16 n (omega arith) (omega arith) (omega (arith, lt, power)));
      }),
      parted_follows rest p,
    )

pub atom_spelled : (a : Atom) (rest : List ℕ) → AtomFits a → parted rest ≡ true → IsAtom a (atom_text a) rest
unfolding atom_text symbol_text vector_text
atom_spelled (Symbol name) rest h p = symbol_spelled name (bare name) rest refl h p
atom_spelled (Keyword name) rest h p = (h.0, h.1, refl, parted_follows rest p)
atom_spelled (Numeral n) rest h p =
    let fits : n < 10 ^ 39 = omega (arith, h) in
    (numeral_spelled n h, sym (value_digits (decimal_len 38 n) 10 n (omega arith) (omega arith) (len_fits 38 n fits)), h, parted_follows rest p)
atom_spelled (Decimal name) rest h p = (h, refl, parted_follows rest p)
atom_spelled (Bits width n) rest h p = vector_spelled width n rest (nat_eq (width % 4) 0) refl h.0 h.1 h.2 p
atom_spelled (Text content) rest h p = (h, refl, no_quote_of rest p)

-- ---- items

blank_gap : is_layout false (32 ∷ []) ≡ true
unfolding is_layout space
blank_gap = refl

pub empty_gap : is_layout false [] ≡ true
unfolding is_layout
empty_gap = refl

-- what stands behind an item in a list
others_part : (xs : Items) (rest : List ℕ) → parted (others_text xs ++ rest) ≡ true
unfolding space
others_part none rest = refl
others_part (more x xs) rest = refl

mutual
  pub item_spelled : (x : Item) (room depth : ℕ) (rest : List ℕ) → ItemFits room x → room + depth ≡ 1200 → parted rest ≡ true → IsItem depth x (item_text x) rest
  item_spelled (leaf a p) room depth rest h e f = atom_spelled a rest h f
  item_spelled (group xs p) room depth rest h e f = (inner_text xs, refl, omega (arith, e, h.0), inner_spelled xs (room - 1) (depth + 1) rest h.1 (omega (arith, e, h.0)))

  inner_spelled : (xs : Items) (room depth : ℕ) (rest : List ℕ) → ItemsFit room xs → room + depth ≡ 1200 → AreItems depth xs (inner_text xs) rest
  inner_spelled none room depth rest h e = ([], empty_gap, refl)
  inner_spelled (more x xs) room depth rest h e =
      ([], item_text x, others_text xs, empty_gap, item_spelled x room depth (others_text xs ++ rest) h.0 e (others_part xs rest), others_spelled xs room depth rest h.1 e, refl)

  others_spelled : (xs : Items) (room depth : ℕ) (rest : List ℕ) → ItemsFit room xs → room + depth ≡ 1200 → AreItems depth xs (others_text xs) rest
  others_spelled none room depth rest h e = ([], empty_gap, refl)
  others_spelled (more x xs) room depth rest h e =
      (32 ∷ [], item_text x, others_text xs, blank_gap, item_spelled x room depth (others_text xs ++ rest) h.0 e (others_part xs rest), others_spelled xs room depth rest h.1 e, refl)

pub on_ok_all : {A E : Type 0} (r : Result A E) (P Q : A → Type 0) → IfOk r P → ((x : A) → P x → Q x) → IfOk r Q
on_ok_all (Ok x) P Q h f = f x h
on_ok_all (Err e) P Q h f = tt

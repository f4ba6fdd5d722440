-- Where a fault stands, reading ends with it.
use Rattle.std.proofs.Common.{◌≡◌, ◌≢◌, ℕ, zero, suc, ◌+◌, ◌-◌, ◌<◌, ◌≤◌, Bool, true, false, cond, ◌||◌, nat_eq, List, [], ◌∷◌, ◌++◌, length, Option, Some, None, Result, Ok, Err, refl, sym, ap, subst, ◌∙◌, inl, inr, arith, append_assoc}
use Rattle.std.proofs.lemmas.List.{length-append}
use Rattle.sy_text_items.specs.declared.fault.TextFault.{TextFault}
use Rattle.sy_text_items.specs.declared.fault.TextFault.TheVariants.{BadByte, Unclosed, Stray, TooDeep}
use Rattle.sy_text_items.specs.Items.{Item, leaf, Items, none, more}
use Rattle.sy_text_items.specs.Lexicon.{space, letter, mark, digit, symbol_byte, separator}
use Rattle.sy_text.specs.Reading.{◌>>=◌, after_layout, item_by, item_joined, items_at, command_at}
use Rattle.sy_text.specs.Spelling.{all_bytes, bare, doubled, is_numeral}
use Rattle.sy_text.specs.Grammar.{is_layout, is_blank, IsItem}
use Rattle.sy_text.specs.Faults.{may_begin, IsBroken, at_first, in_symbol, in_bars, in_quotes, in_keyword, behind_sign, in_hexadecimal, in_binary, behind_zero, in_numeral, behind_point, IsCut, bars, quotes, colon, sign, hexadecimal_sign, binary_sign, point, IsTooLarge, numeral, hexadecimal, binary, IsBadAtom, byte, cut, large, AreFront, IsBadItem, too_deep, unclosed, within, atom, IsFault, stray, bad}
use Rattle.sy_text.proofs.Shorter.{ok, err}
use Rattle.sy_text.proofs.Nested.{Inside, turn, turn_is, item_leaf, item_shorter, items_shorter, front_item, command_turn, command_is}
use Rattle.sy_text.proofs.Again.{and_both, no_symbol, no_digit}
use Rattle.sy_text.proofs.Nests.{Starts, stays, skip_gap, turn_item, open_starts, below_limit, item_again}
use Rattle.sy_text.proofs.FoundItems.{blank_empty}
use Rattle.sy_text.proofs.FailingAtoms.{atom_fails}

-- ---- what a bad atom begins with

record Begins (bytes : List ℕ) : Type 0 where
  pub starts : Starts bytes
  pub no_list : nat_eq starts.first 40 ≡ false

either_false : (a b : Bool) → (a || b) ≡ false → (a ≡ false) × (b ≡ false)
either_false true b e = absurd cc
either_false false b e = (refl, e)

no_separator : (b : ℕ) (rest : List ℕ) → separator b ≡ false → Begins (b ∷ rest)
unfolding separator
no_separator b rest unlike =
    let bar = either_false _ (nat_eq b 124) unlike in
    let quote = either_false _ (nat_eq b 34) bar.0 in
    let comment = either_false _ (nat_eq b 59) quote.0 in
    let close = either_false _ (nat_eq b 41) comment.0 in
    let list = either_false (space b) (nat_eq b 40) close.0 in
    record {
      starts = record { first = b; others = rest; parts = refl; no_space = list.0; no_comment = comment.1; no_close = close.1 };
      no_list = list.1;
    }

-- a byte of a class that unlike separator is of
of_class : (p : ℕ → Bool) → ((b : ℕ) → separator b ≡ true → p b ≡ false) → (b : ℕ) (rest : List ℕ) → p b ≡ true → Begins (b ∷ rest)
of_class p fails b rest h = no_separator b rest (at (separator b) refl)
  where
    at : (q : Bool) → separator b ≡ q → separator b ≡ false
    at true e = (let clash : true ≡ false = sym h ∙ fails b e in absurd cc)
    at false e = e

begins_bar : (rest : List ℕ) → Begins (124 ∷ rest)
unfolding space
begins_bar rest = record { starts = record { first = 124; others = rest; parts = refl; no_space = refl; no_comment = refl; no_close = refl }; no_list = refl }

begins_quote : (rest : List ℕ) → Begins (34 ∷ rest)
unfolding space
begins_quote rest = record { starts = record { first = 34; others = rest; parts = refl; no_space = refl; no_comment = refl; no_close = refl }; no_list = refl }

begins_colon : (rest : List ℕ) → Begins (58 ∷ rest)
unfolding space
begins_colon rest = record { starts = record { first = 58; others = rest; parts = refl; no_space = refl; no_comment = refl; no_close = refl }; no_list = refl }

begins_sign : (rest : List ℕ) → Begins (35 ∷ rest)
unfolding space
begins_sign rest = record { starts = record { first = 35; others = rest; parts = refl; no_space = refl; no_comment = refl; no_close = refl }; no_list = refl }

begins_bare : (name rest : List ℕ) → bare name ≡ true → Begins (name ++ rest)
unfolding bare
begins_bare [] rest h = absurd cc
begins_bare (b ∷ bs) rest h =
    let both = and_both _ (all_bytes symbol_byte (b ∷ bs)) h in
    of_class symbol_byte no_symbol b (bs ++ rest) (and_both (symbol_byte b) (all_bytes symbol_byte bs) both.1).0

begins_numeral : (text rest : List ℕ) → is_numeral text ≡ true → Begins (text ++ rest)
unfolding is_numeral
begins_numeral [] rest h = absurd cc
begins_numeral (b ∷ bs) rest h =
    let both = and_both (all_bytes digit (b ∷ bs)) _ h in
    of_class digit no_digit b (bs ++ rest) (and_both (digit b) (all_bytes digit bs) both.0).0

digit_48 : digit 48 ≡ true
unfolding digit
digit_48 = refl

of_first : (b : ℕ) (rest : List ℕ) → may_begin b ≡ false → Begins (b ∷ rest)
of_first b rest unlike =
    let begins = either_false _ (symbol_byte b) unlike in
    let hash = either_false _ (nat_eq b 35) begins.0 in
    no_separator b rest (either_false (separator b) (nat_eq b 58) hash.0).0

grouped : (front run rest : List ℕ) (b : ℕ) → front ≡ b ∷ run → Begins (b ∷ (run ++ rest)) → Begins (front ++ rest)
grouped front run rest b is h = subst (λ (l : List ℕ). Begins (l ++ rest)) (sym is) h

broken_begins : (front : List ℕ) (c : ℕ) (rest : List ℕ) → IsBroken front c → Begins (front ++ (c ∷ rest))
broken_begins front c rest (at_first is unlike) = subst (λ (l : List ℕ). Begins (l ++ (c ∷ rest))) (sym is) (of_first c rest unlike)
broken_begins front c rest (in_symbol h unlike sep) = begins_bare front (c ∷ rest) h
broken_begins front c rest (in_bars content is all unlike other) = grouped front content (c ∷ rest) 124 is (begins_bar (content ++ (c ∷ rest)))
broken_begins front c rest (in_quotes content is all unlike) = grouped front (doubled content) (c ∷ rest) 34 is (begins_quote (doubled content ++ (c ∷ rest)))
broken_begins front c rest (in_keyword name is all unlike sep) = grouped front name (c ∷ rest) 58 is (begins_colon (name ++ (c ∷ rest)))
broken_begins front c rest (behind_sign is hex bin) = grouped front [] (c ∷ rest) 35 is (begins_sign (c ∷ rest))
broken_begins front c rest (in_hexadecimal digits is all unlike sep) = grouped front (120 ∷ digits) (c ∷ rest) 35 is (begins_sign (120 ∷ (digits ++ (c ∷ rest))))
broken_begins front c rest (in_binary digits is all unlike sep) = grouped front (98 ∷ digits) (c ∷ rest) 35 is (begins_sign (98 ∷ (digits ++ (c ∷ rest))))
broken_begins front c rest (behind_zero is d) = grouped front [] (c ∷ rest) 48 is (of_class digit no_digit 48 (c ∷ rest) digit_48)
broken_begins front c rest (in_numeral w unlike other sep) = begins_numeral front (c ∷ rest) w
broken_begins front c rest (behind_point whole part is w all unlike sep) =
    subst (λ (l : List ℕ). Begins (l ++ (c ∷ rest))) (sym is) (subst Begins (sym (append_assoc whole (46 ∷ part) (c ∷ rest))) (begins_numeral whole (46 ∷ (part ++ (c ∷ rest))) w))

cut_begins : (text : List ℕ) → IsCut text → Begins text
cut_begins text (bars content is all) = subst Begins (sym is) (begins_bar content)
cut_begins text (quotes content is all) = subst Begins (sym is) (begins_quote (doubled content))
cut_begins text (colon is) = subst Begins (sym is) (begins_colon [])
cut_begins text (sign is) = subst Begins (sym is) (begins_sign [])
cut_begins text (hexadecimal_sign is) = subst Begins (sym is) (begins_sign (120 ∷ []))
cut_begins text (binary_sign is) = subst Begins (sym is) (begins_sign (98 ∷ []))
cut_begins text (point whole is w) = subst Begins (sym is) (begins_numeral whole (46 ∷ []) w)

large_begins : (text rest : List ℕ) → IsTooLarge text → Begins (text ++ rest)
large_begins text rest (numeral w much) = begins_numeral text rest w
large_begins text rest (hexadecimal digits is all much) = grouped text (120 ∷ digits) rest 35 is (begins_sign (120 ∷ (digits ++ rest)))
large_begins text rest (binary digits is all much) = grouped text (98 ∷ digits) rest 35 is (begins_sign (98 ∷ (digits ++ rest)))

atom_begins : (total : ℕ) (f : TextFault) (bytes : List ℕ) → IsBadAtom total f bytes → Begins bytes
atom_begins total f bytes (byte front rest c is breaks fault) = subst Begins (sym is) (broken_begins front c rest breaks)
atom_begins total f bytes (cut cuts fault) = cut_begins bytes cuts
atom_begins total f bytes (large text rest is grows follows fault) = subst Begins (sym is) (large_begins text rest grows)

-- ---- behind whole items

front_fails : (xs : Items) (n total depth start : ℕ) (text tail : List ℕ) (f : TextFault) → AreFront depth xs text tail → length (text ++ tail) < n →
    ((m : ℕ) → length tail < m → items_at m total depth start tail ≡ Err f) → items_at n total depth start (text ++ tail) ≡ Err f
front_fails none n total depth start text tail f h few fails =
    let same : text ++ tail ≡ tail = ap (λ (l : List ℕ). l ++ tail) h in
    ap (items_at n total depth start) same ∙ fails n (subst (λ (l : List ℕ). length l < n) same few)
front_fails (more x xs) zero total depth start text tail f h few fails = absurd (omega (arith, few))
front_fails (more x xs) (suc n) total depth start text tail f h few fails =
    let front : List ℕ = h.1 ++ (h.2 ++ tail) in
    let parts : text ++ tail ≡ h.0 ++ front = ap (λ (l : List ℕ). l ++ tail) h.6 ∙ append_assoc h.0 (h.1 ++ h.2) tail ∙ ap (λ (l : List ℕ). h.0 ++ l) (append_assoc h.1 h.2 tail) in
    let short : length front ≤ n = omega (arith, few, ap length parts, length-append h.0 front) in
    let one = item_again x n total depth (total - length front) h.1 (h.2 ++ tail) h.4 short in
    let shorter : length (h.2 ++ tail) < length front
    = item_shorter (items_at n total (depth + 1) (total - length front)) total depth (total - length front) front (one.item, h.2 ++ tail) (λ ys y. items_shorter n total (depth + 1) (total - length front) ys y) one.reads in
    let lay : after_layout false (text ++ tail) ≡ front = ap (after_layout false) parts ∙ skip_gap false h.0 front h.3 ∙ stays front one.starts in
    turn_is n total depth start (text ++ tail)
    ∙ ap (turn (λ d s. items_at n total d s) total depth start) lay
    ∙ turn_item (λ d s. items_at n total d s) total depth start front one.starts.first one.starts.others one.starts.parts one.starts.no_close
    ∙ ap (λ (r : Result (Item × List ℕ) TextFault). r >>= λ x. item_joined x.0 (items_at n total depth start x.1)) one.reads
    ∙ ap (item_joined one.item) (front_fails xs n total depth start h.2 tail f h.5 (omega (arith, shorter, short)) fails)

-- the input ends
ends_open : (m total depth start : ℕ) (gap : List ℕ) → is_blank false gap ≡ true → length gap < m → items_at m total depth start gap ≡ Err (Unclosed start)
ends_open zero total depth start gap blank few = absurd (omega (arith, few))
ends_open (suc m) total depth start gap blank few = turn_is m total depth start gap ∙ ap (turn (λ d s. items_at m total d s) total depth start) (blank_empty false gap blank)

-- ---- an item

list_is : (inside : Inside) (total depth start : ℕ) (bytes rest : List ℕ) (f : TextFault) → bytes ≡ 40 ∷ rest → depth < 1200 → inside rest ≡ Err f → item_by inside total depth start bytes ≡ Err f
unfolding item_by
list_is inside total depth start bytes rest f is low fails = rw (is, below_limit depth low, fails) refl

deep_is : (inside : Inside) (total depth start : ℕ) (bytes rest : List ℕ) → depth ≡ 1200 → bytes ≡ 40 ∷ rest → item_by inside total depth start bytes ≡ Err (TooDeep start)
unfolding item_by
deep_is inside total depth start bytes rest deep is = rw (is, deep) refl

record Fails (total depth : ℕ) (f : TextFault) (bytes : List ℕ) : Type 0 where
  pub reads : (n : ℕ) → length bytes ≤ n → item_by (items_at n total (depth + 1) (total - length bytes)) total depth (total - length bytes) bytes ≡ Err f
  pub starts : Starts bytes

-- an item that fails behind white space and comments
one_fails : (m total depth start : ℕ) (gap tail : List ℕ) (f : TextFault) → is_layout false gap ≡ true → Fails total depth f tail → length (gap ++ tail) < m → items_at m total depth start (gap ++ tail) ≡ Err f
one_fails zero total depth start gap tail f layout fails few = absurd (omega (arith, few))
one_fails (suc m) total depth start gap tail f layout fails few =
    let lay : after_layout false (gap ++ tail) ≡ tail = skip_gap false gap tail layout ∙ stays tail fails.starts in
    let short : length tail ≤ m = omega (arith, few, length-append gap tail) in
    turn_is m total depth start (gap ++ tail)
    ∙ ap (turn (λ d s. items_at m total d s) total depth start) lay
    ∙ turn_item (λ d s. items_at m total d s) total depth start tail fails.starts.first fails.starts.others fails.starts.parts fails.starts.no_close
    ∙ ap (λ (r : Result (Item × List ℕ) TextFault). r >>= λ x. item_joined x.0 (items_at m total depth start x.1)) (fails.reads m short)

opened : (bytes rest : List ℕ) → bytes ≡ 40 ∷ rest → Starts bytes
opened bytes rest is = subst Starts (sym is) (open_starts rest)

leaf_fails : (total depth : ℕ) (f : TextFault) (bytes : List ℕ) → IsBadAtom total f bytes → length bytes ≤ total → Fails total depth f bytes
leaf_fails total depth f bytes is fits =
    let b = atom_begins total f bytes is in
    record {
      reads = λ n few. item_leaf (items_at n total (depth + 1) (total - length bytes)) total depth (total - length bytes) b.starts.first b.starts.others bytes b.starts.parts b.no_list
          ∙ ap (λ r. r >>= λ a. ok (leaf a.0 (record { at = total - length bytes }), a.1)) (atom_fails total f bytes is fits);
      starts = b.starts;
    }

item_fails : (total : ℕ) (f : TextFault) (depth : ℕ) (bytes : List ℕ) → IsBadItem total f depth bytes → length bytes ≤ total → Fails total depth f bytes
item_fails total f _ _ (too_deep depth bytes rest deep is fault) fits = record {
  reads = λ n few. deep_is (items_at n total (depth + 1) (total - length bytes)) total depth (total - length bytes) bytes rest deep is ∙ ap (λ g. Err g) (sym fault);
  starts = opened bytes rest is;
}
item_fails total f _ _ (unclosed depth bytes text gap items low is front blank fault) fits = record {
  reads = λ n few. list_is (items_at n total (depth + 1) (total - length bytes)) total depth (total - length bytes) bytes (text ++ gap) f is low
      (front_fails items n total (depth + 1) (total - length bytes) text gap f front (omega (arith, few, ap length is))
      (λ m short. ends_open m total (depth + 1) (total - length bytes) gap blank short ∙ ap (λ g. Err g) (sym fault)));
  starts = opened bytes (text ++ gap) is;
}
item_fails total f _ _ (within depth bytes text gap tail items low is front layout bads) fits =
    let longer : length tail ≤ length bytes = omega (arith, ap length is, length-append text (gap ++ tail), length-append gap tail) in
    let one = item_fails total f (depth + 1) tail bads (omega (arith, longer, fits)) in
    record {
      reads = λ n few. list_is (items_at n total (depth + 1) (total - length bytes)) total depth (total - length bytes) bytes (text ++ (gap ++ tail)) f is low
          (front_fails items n total (depth + 1) (total - length bytes) text (gap ++ tail) f front (omega (arith, few, ap length is))
          (λ m short. one_fails m total (depth + 1) (total - length bytes) gap tail f layout one short));
      starts = opened bytes (text ++ (gap ++ tail)) is;
    }
item_fails total f _ _ (atom depth bytes is) fits = leaf_fails total depth f bytes is fits

-- ---- a command

stray_front : (rest : List ℕ) → after_layout false (41 ∷ rest) ≡ 41 ∷ rest
unfolding after_layout space
stray_front rest = refl

command_item : (total : ℕ) (bytes : List ℕ) (b : ℕ) (rest : List ℕ) → bytes ≡ b ∷ rest → nat_eq b 41 ≡ false
    → command_turn total bytes ≡ (front_item total 0 bytes >>= λ x. Ok (Some (x.0, total - length x.1)))
command_item total bytes b rest e k = rw (e, k) refl

pub faults_are_answered : (total : ℕ) (bytes : List ℕ) (f : TextFault) → length bytes ≤ total → IsFault total f bytes → command_at total bytes ≡ Err f
faults_are_answered total bytes f fits (stray gap rest is layout fault) =
    let lay : after_layout false bytes ≡ 41 ∷ rest = ap (after_layout false) is ∙ skip_gap false gap (41 ∷ rest) layout ∙ stray_front rest in
    command_is total bytes ∙ ap (command_turn total) lay ∙ ap (λ g. Err g) (sym fault)
faults_are_answered total bytes f fits (bad gap tail is layout bads) =
    let longer : length tail ≤ length bytes = omega (arith, ap length is, length-append gap tail) in
    let one = item_fails total f 0 tail bads (omega (arith, longer, fits)) in
    let lay : after_layout false bytes ≡ tail = ap (after_layout false) is ∙ skip_gap false gap tail layout ∙ stays tail one.starts in
    command_is total bytes ∙ ap (command_turn total) lay ∙ command_item total tail one.starts.first one.starts.others one.starts.parts one.starts.no_close
    ∙ ap (λ (r : Result (Item × List ℕ) TextFault). r >>= λ x. ok (Some (x.0, total - length x.1))) (one.reads (length tail) (omega arith))

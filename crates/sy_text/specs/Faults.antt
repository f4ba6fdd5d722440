-- What is wrong with text, by cases on what stands there. The offset of what is left is the number of all bytes less its own.
use Rattle.std.specs.Prelude.{◌≡◌, ◌≢◌, ℕ, ◌+◌, ◌-◌, ◌*◌, ◌^◌, ◌<◌, ◌≤◌, Bool, true, false, ◌||◌, nat_eq, List, [], ◌∷◌, ◌++◌, length}
use Rattle.sy_text_items.specs.Items.{Item, Items, none, more}
use Rattle.sy_text_items.specs.Lexicon.{space, digit, binary_digit, hexadecimal_digit, symbol_byte, quotable, bar_content, separator, value_in}
use Rattle.sy_text_items.specs.declared.fault.TextFault.{TextFault}
use Rattle.sy_text_items.specs.declared.fault.TextFault.TheVariants.{BadByte, Unclosed, Stray, LiteralRange, TooDeep}
use Rattle.sy_text.specs.Spelling.{all_bytes, bare, doubled, is_numeral}
use Rattle.sy_text.specs.Reading.{may_follow}
use Rattle.sy_text.specs.Grammar.{is_layout, is_blank, IsItem}

-- white space, a bracket, or the first byte of a comment or an atom
abbrev pub may_begin : ℕ → Bool
may_begin b = separator b || nat_eq b 58 || nat_eq b 35 || symbol_byte b

-- The byte can't stand behind these, which are the front of an atom, or none.
pub data IsBroken (front : List ℕ) (b : ℕ) : Type 0 where
  at_first : front ≡ [] → may_begin b ≡ false → IsBroken front b
  in_symbol : bare front ≡ true → symbol_byte b ≡ false → separator b ≡ false → IsBroken front b
  in_bars : (content : List ℕ) → front ≡ 124 ∷ content → all_bytes bar_content content ≡ true → bar_content b ≡ false → b ≢ 124 → IsBroken front b
  in_quotes : (content : List ℕ) → front ≡ 34 ∷ doubled content → all_bytes quotable content ≡ true → quotable b ≡ false → IsBroken front b
  in_keyword : (name : List ℕ) → front ≡ 58 ∷ name → all_bytes symbol_byte name ≡ true → symbol_byte b ≡ false → (0 < length name → separator b ≡ false) → IsBroken front b
  behind_sign : front ≡ 35 ∷ [] → b ≢ 120 → b ≢ 98 → IsBroken front b
  in_hexadecimal : (digits : List ℕ) → front ≡ 35 ∷ 120 ∷ digits → all_bytes hexadecimal_digit digits ≡ true → hexadecimal_digit b ≡ false → (0 < length digits → separator b ≡ false) → IsBroken front b
  in_binary : (digits : List ℕ) → front ≡ 35 ∷ 98 ∷ digits → all_bytes binary_digit digits ≡ true → binary_digit b ≡ false → (0 < length digits → separator b ≡ false) → IsBroken front b
  behind_zero : front ≡ 48 ∷ [] → digit b ≡ true → IsBroken front b
  in_numeral : is_numeral front ≡ true → digit b ≡ false → b ≢ 46 → separator b ≡ false → IsBroken front b
  behind_point : (whole part : List ℕ) → front ≡ whole ++ 46 ∷ part → is_numeral whole ≡ true → all_bytes digit part ≡ true → digit b ≡ false → (0 < length part → separator b ≡ false) → IsBroken front b

-- The text is the front of an atom, and nothing whole.
pub data IsCut (text : List ℕ) : Type 0 where
  bars : (content : List ℕ) → text ≡ 124 ∷ content → all_bytes bar_content content ≡ true → IsCut text
  quotes : (content : List ℕ) → text ≡ 34 ∷ doubled content → all_bytes quotable content ≡ true → IsCut text
  colon : text ≡ 58 ∷ [] → IsCut text
  sign : text ≡ 35 ∷ [] → IsCut text
  hexadecimal_sign : text ≡ 35 ∷ 120 ∷ [] → IsCut text
  binary_sign : text ≡ 35 ∷ 98 ∷ [] → IsCut text
  point : (whole : List ℕ) → text ≡ whole ++ 46 ∷ [] → is_numeral whole ≡ true → IsCut text

-- The text is a numeral above 2 ^ 127 - 1, or a vector of more than 64 bits.
pub data IsTooLarge (text : List ℕ) : Type 0 where
  numeral : is_numeral text ≡ true → 2 ^ 127 ≤ value_in 10 text → IsTooLarge text
  hexadecimal : (digits : List ℕ) → text ≡ 35 ∷ 120 ∷ digits → all_bytes hexadecimal_digit digits ≡ true → 64 < 4 * length digits → IsTooLarge text
  binary : (digits : List ℕ) → text ≡ 35 ∷ 98 ∷ digits → all_bytes binary_digit digits ≡ true → 64 < length digits → IsTooLarge text

-- What is wrong with an atom at the front: a byte, at its own offset; the end of the input, or its value, at the atom's.
pub data IsBadAtom (total : ℕ) (fault : TextFault) (bytes : List ℕ) : Type 0 where
  byte : (front rest : List ℕ) (b : ℕ) → bytes ≡ front ++ (b ∷ rest) → IsBroken front b → fault ≡ BadByte (total - length (b ∷ rest)) → IsBadAtom total fault bytes
  cut : IsCut bytes → fault ≡ Unclosed (total - length bytes) → IsBadAtom total fault bytes
  large : (text rest : List ℕ) → bytes ≡ text ++ rest → IsTooLarge text → may_follow rest ≡ true → fault ≡ LiteralRange (total - length bytes) → IsBadAtom total fault bytes

-- the text spells these items, each behind white space and comments, before what follows them
abbrev pub AreFront : ℕ → Items → List ℕ → List ℕ → Type 0
AreFront depth none text rest = text ≡ []
AreFront depth (more x xs) text rest =
    (gap : List ℕ) × (first : List ℕ) × (others : List ℕ) × (is_layout false gap ≡ true) × IsItem depth x first (others ++ rest) × AreFront depth xs others rest × (text ≡ gap ++ (first ++ others))

-- What is wrong with an item at the front, where depth lists are open: a list too many; a list that the input ends in, behind
-- whole items; an item of a list, behind whole ones; or an atom.
pub data IsBadItem (total : ℕ) (fault : TextFault) : ℕ → List ℕ → Type 0 where
  too_deep : (depth : ℕ) (bytes rest : List ℕ) → depth ≡ 1200 → bytes ≡ 40 ∷ rest → fault ≡ TooDeep (total - length bytes) → IsBadItem total fault depth bytes
  unclosed : (depth : ℕ) (bytes text gap : List ℕ) (items : Items) → depth < 1200 → bytes ≡ 40 ∷ (text ++ gap) → AreFront (depth + 1) items text gap →
      is_blank false gap ≡ true → fault ≡ Unclosed (total - length bytes) → IsBadItem total fault depth bytes
  within : (depth : ℕ) (bytes text gap tail : List ℕ) (items : Items) → depth < 1200 → bytes ≡ 40 ∷ (text ++ (gap ++ tail)) → AreFront (depth + 1) items text (gap ++ tail) →
      is_layout false gap ≡ true → IsBadItem total fault (depth + 1) tail → IsBadItem total fault depth bytes
  atom : (depth : ℕ) (bytes : List ℕ) → IsBadAtom total fault bytes → IsBadItem total fault depth bytes

-- What is wrong with the first item: a closing bracket stands in its place, or it is bad.
pub data IsFault (total : ℕ) (fault : TextFault) (bytes : List ℕ) : Type 0 where
  stray : (gap rest : List ℕ) → bytes ≡ gap ++ 41 ∷ rest → is_layout false gap ≡ true → fault ≡ Stray (total - length (41 ∷ rest)) → IsFault total fault bytes
  bad : (gap tail : List ℕ) → bytes ≡ gap ++ tail → is_layout false gap ≡ true → IsBadItem total fault 0 tail → IsFault total fault bytes

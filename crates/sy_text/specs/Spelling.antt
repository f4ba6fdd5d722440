-- How items are written, and what can be written.
use Rattle.std.specs.Prelude.{◌≡◌, ℕ, zero, suc, ◌+◌, ◌-◌, ◌/◌, ◌%◌, ◌^◌, ◌<◌, ◌≤◌, Bool, true, false, not, ◌&&◌, ◌||◌, nat_eq, nat_lt, List, [], ◌∷◌, ◌++◌, length, take, drop, if◌then◌else◌}
use Rattle.std.specs.List.{prefix_len}
use Rattle.sy_text_items.specs.declared.atom.Atom.{Atom}
use Rattle.sy_text_items.specs.declared.atom.Atom.TheVariants.{Symbol, Keyword, Numeral, Decimal, Bits, Text}
use Rattle.sy_text_items.specs.Items.{Item, leaf, group, Items, none, more}
use Rattle.sy_text_items.specs.Lexicon.{space, digit, symbol_byte, bar_content, quotable}

-- all bytes pass a test
abbrev pub all_bytes : (ℕ → Bool) → List ℕ → Bool
all_bytes test [] = true
all_bytes test (b ∷ bs) = test b && all_bytes test bs

-- symbol bytes that don't begin with a digit
unfoldable pub bare : List ℕ → Bool
bare [] = false
bare (b ∷ bs) = not (digit b) && all_bytes symbol_byte (b ∷ bs)

-- a symbol stands bare where it can, and in bars otherwise
unfoldable pub symbol_text : List ℕ → List ℕ
symbol_text name = if bare name then name else 124 ∷ name ++ 124 ∷ []

-- the digit of a number below 16
unfoldable pub digit_of : ℕ → ℕ
digit_of n = if nat_lt n 10 then n + 48 else n + 87

-- so many digits of a number
unfoldable pub digits_of : ℕ → ℕ → ℕ → List ℕ
digits_of zero base n = []
digits_of (suc count) base n = digits_of count base (n / base) ++ digit_of (n % base) ∷ []

-- how many decimal digits a number has; the first bounds them
unfoldable pub decimal_len : ℕ → ℕ → ℕ
decimal_len zero n = 1
decimal_len (suc most) n = if nat_lt n 10 then 1 else decimal_len most (n / 10) + 1

-- a number in decimal; 39 digits write each number of 128 bits
abbrev pub numeral_text : ℕ → List ℕ
numeral_text n = digits_of (decimal_len 38 n) 10 n

-- lower case hexadecimal digits where they fit the width
unfoldable pub vector_text : ℕ → ℕ → List ℕ
vector_text width n = if nat_eq (width % 4) 0 then 35 ∷ 120 ∷ digits_of (width / 4) 16 n else 35 ∷ 98 ∷ digits_of width 2 n

-- each quote is doubled
abbrev pub doubled : List ℕ → List ℕ
doubled [] = []
doubled (b ∷ bs) = if nat_eq b 34 then 34 ∷ 34 ∷ doubled bs else b ∷ doubled bs

unfoldable pub atom_text : Atom → List ℕ
atom_text (Symbol name) = symbol_text name
atom_text (Keyword name) = 58 ∷ name
atom_text (Numeral n) = numeral_text n
atom_text (Decimal name) = name
atom_text (Bits width n) = vector_text width n
atom_text (Text content) = 34 ∷ doubled content ++ 34 ∷ []

abbrev mutual
  pub item_text : Item → List ℕ
  item_text (leaf a p) = atom_text a
  item_text (group xs p) = 40 ∷ inner_text xs

  -- the items with one space between them, and the closing bracket
  pub inner_text : Items → List ℕ
  inner_text none = 41 ∷ []
  inner_text (more x xs) = item_text x ++ others_text xs

  -- the items with one space before each, and the closing bracket
  pub others_text : Items → List ℕ
  others_text none = 41 ∷ []
  others_text (more x xs) = 32 ∷ item_text x ++ others_text xs

-- digits, of which the first is 0 only where it stands alone
unfoldable pub is_numeral : List ℕ → Bool
is_numeral [] = false
is_numeral (b ∷ bs) = all_bytes digit (b ∷ bs) && (not (nat_eq b 48) || nat_eq (length bs) 0)

-- a point and one or more digits
unfoldable pub is_fraction : List ℕ → Bool
is_fraction [] = false
is_fraction (b ∷ bs) = nat_eq b 46 && all_bytes digit bs && nat_lt 0 (length bs)

-- a numeral, a point and digits
unfoldable pub is_decimal : List ℕ → Bool
is_decimal name = is_numeral (take (prefix_len digit name) name) && is_fraction (drop (prefix_len digit name) name)

-- what can be spelled
abbrev pub AtomFits : Atom → Type 0
AtomFits (Symbol name) = all_bytes bar_content name ≡ true
AtomFits (Keyword name) = (all_bytes symbol_byte name ≡ true) × (0 < length name)
AtomFits (Numeral n) = n < 2 ^ 127
AtomFits (Decimal name) = is_decimal name ≡ true
AtomFits (Bits width n) = (1 ≤ width) × (width ≤ 64) × (n < 2 ^ width)
AtomFits (Text content) = all_bytes quotable content ≡ true

-- what can be spelled, where so many more lists may be open at once
abbrev mutual
  pub ItemFits : ℕ → Item → Type 0
  ItemFits room (leaf a p) = AtomFits a
  ItemFits room (group xs p) = (1 ≤ room) × ItemsFit (room - 1) xs

  pub ItemsFit : ℕ → Items → Type 0
  ItemsFit room none = Unit {0}
  ItemsFit room (more x xs) = ItemFits room x × ItemsFit room xs

-- white space, a closing bracket or the end
abbrev pub parted : List ℕ → Bool
parted [] = true
parted (b ∷ rest) = space b || nat_eq b 41

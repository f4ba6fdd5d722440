-- Reading from left to right, with the first fault that is met.
-- What is read is a value and the bytes behind it. An offset is the number of all bytes less those that are left.
use Rattle.std.specs.Prelude.{◌≡◌, ℕ, zero, suc, ◌+◌, ◌-◌, ◌*◌, ◌^◌, ◌<◌, Bool, true, false, not, ◌&&◌, nat_eq, nat_lt, List, [], ◌∷◌, ◌++◌, length, take, drop, Option, Some, None, Result, Ok, Err, if◌then◌else◌}
use Rattle.std.specs.List.{prefix_len}
use Rattle.sy_text_items.specs.declared.atom.Atom.{Atom}
use Rattle.sy_text_items.specs.declared.atom.Atom.TheVariants.{Symbol, Keyword, Numeral, Decimal, Bits, Text}
use Rattle.sy_text_items.specs.declared.fault.TextFault.{TextFault}
use Rattle.sy_text_items.specs.declared.fault.TextFault.TheVariants.{BadByte, Unclosed, Stray, LiteralRange, TooDeep}
use Rattle.sy_text.specs.declared.fault.TextEnd.{TextEnd}
use Rattle.sy_text.specs.declared.fault.TextEnd.TheVariants as ends
use Rattle.sy_text_items.specs.Items.{Item, leaf, group, Items, none, more}
use Rattle.sy_text_items.specs.Lexicon.{space, line_end, digit, binary_digit, hexadecimal_digit, symbol_byte, quotable, bar_content, separator, value_in}

-- the offset of a fault
abbrev pub offset_of : TextFault → ℕ
offset_of (BadByte at) = at
offset_of (Unclosed at) = at
offset_of (Stray at) = at
offset_of (LiteralRange at) = at
offset_of (TooDeep at) = at

-- a fault, where one came, lies below a number
abbrev pub FaultBelow : ℕ → TextEnd → Type 0
FaultBelow total ends.Want = Unit {0}
FaultBelow total (ends.Fault f) = offset_of f < total

infixl 10 ◌>>=◌
abbrev pub ◌>>=◌ : {A B : Type 0} → Result A TextFault → (A → Result B TextFault) → Result B TextFault
(Ok x) >>= f = f x
(Err e) >>= f = Err e

-- What a function returned, seen by view, is what reading gives, unless memory ran out.
abbrev pub TextFails : {Y : Type 0} → TextEnd → Result Y TextFault → Type 0
TextFails ends.Want read = Unit {0}
TextFails (ends.Fault f) read = read ≡ Err f

abbrev pub TextGives : {X Y : Type 0} → (X → Y) → Result X TextEnd → Result Y TextFault → Type 0
TextGives view (Ok x) read = read ≡ Ok (view x)
TextGives view (Err e) read = TextFails e read

-- what is left behind white space and comments; inside says that a comment has begun
unfoldable pub after_layout : Bool → List ℕ → List ℕ
after_layout inside [] = []
after_layout true (b ∷ rest) = after_layout (not (line_end b)) rest
after_layout false (b ∷ rest) = if nat_eq b 59 then after_layout true rest else if space b then after_layout false rest else b ∷ rest

-- the next byte, which cannot stand there, or the end, where an atom that began at start is open
unfoldable pub missing : ℕ → ℕ → List ℕ → TextFault
missing total start [] = Unclosed start
missing total start (b ∷ rest) = BadByte (total - length (b ∷ rest))

-- what may stand behind an atom without a closing sign
unfoldable pub may_follow : List ℕ → Bool
may_follow [] = true
may_follow (b ∷ rest) = separator b

-- an atom without a closing sign
unfoldable pub ended : ℕ → Atom → List ℕ → Result (Atom × List ℕ) TextFault
ended total atom left = if may_follow left then Ok (atom, left) else Err (BadByte (total - length left))

-- the same for a literal, which ends well before its range counts
unfoldable pub literal_read : ℕ → ℕ → Bool → Atom → List ℕ → Result (Atom × List ℕ) TextFault
literal_read total start fits atom left =
    if may_follow left then (if fits then Ok (atom, left) else Err (LiteralRange start)) else Err (BadByte (total - length left))

unfoldable pub symbol_at : ℕ → List ℕ → Result (Atom × List ℕ) TextFault
symbol_at total bytes = ended total (Symbol (take (prefix_len symbol_byte bytes) bytes)) (drop (prefix_len symbol_byte bytes) bytes)

-- the bar that closes a symbol
unfoldable pub closing_bar : ℕ → ℕ → Atom → List ℕ → Result (Atom × List ℕ) TextFault
closing_bar total start atom [] = Err (Unclosed start)
closing_bar total start atom (b ∷ rest) = if nat_eq b 124 then Ok (atom, rest) else Err (BadByte (total - length (b ∷ rest)))

-- behind the first bar
unfoldable pub barred_at : ℕ → ℕ → List ℕ → Result (Atom × List ℕ) TextFault
barred_at total start bytes = closing_bar total start (Symbol (take (prefix_len bar_content bytes) bytes)) (drop (prefix_len bar_content bytes) bytes)

-- behind the first quote, or behind part of the content; quote says that a quote has come, which is the last unless one more follows
unfoldable pub text_at : ℕ → ℕ → Bool → List ℕ → List ℕ → Result (Atom × List ℕ) TextFault
text_at total start quote content [] = if quote then Ok (Text content, []) else Err (Unclosed start)
text_at total start true content (b ∷ rest) =
    if nat_eq b 34 then text_at total start false (content ++ 34 ∷ []) rest else Ok (Text content, b ∷ rest)
text_at total start false content (b ∷ rest) =
    if nat_eq b 34 then text_at total start true content rest
    else if quotable b then text_at total start false (content ++ b ∷ []) rest
    else Err (BadByte (total - length (b ∷ rest)))

-- behind the colon
unfoldable pub keyword_at : ℕ → ℕ → List ℕ → Result (Atom × List ℕ) TextFault
keyword_at total start bytes =
    if nat_eq (prefix_len symbol_byte bytes) 0 then Err (missing total start bytes)
    else ended total (Keyword (take (prefix_len symbol_byte bytes) bytes)) (drop (prefix_len symbol_byte bytes) bytes)

-- a vector of the digits, each of which stands for some bits
unfoldable pub vector_of : ℕ → ℕ → ℕ → ℕ → List ℕ → List ℕ → Result (Atom × List ℕ) TextFault
vector_of total start base bits digits left =
    literal_read total start (not (nat_lt 64 (bits * length digits))) (Bits (bits * length digits) (value_in base digits)) left

-- behind #x
unfoldable pub hexadecimal_at : ℕ → ℕ → List ℕ → Result (Atom × List ℕ) TextFault
hexadecimal_at total start bytes =
    if nat_eq (prefix_len hexadecimal_digit bytes) 0 then Err (missing total start bytes)
    else vector_of total start 16 4 (take (prefix_len hexadecimal_digit bytes) bytes) (drop (prefix_len hexadecimal_digit bytes) bytes)

-- behind #b
unfoldable pub binary_at : ℕ → ℕ → List ℕ → Result (Atom × List ℕ) TextFault
binary_at total start bytes =
    if nat_eq (prefix_len binary_digit bytes) 0 then Err (missing total start bytes)
    else vector_of total start 2 1 (take (prefix_len binary_digit bytes) bytes) (drop (prefix_len binary_digit bytes) bytes)

-- behind the sign of a vector
unfoldable pub vector_at : ℕ → ℕ → List ℕ → Result (Atom × List ℕ) TextFault
vector_at total start [] = Err (Unclosed start)
vector_at total start (b ∷ rest) =
    if nat_eq b 120 then hexadecimal_at total start rest
    else if nat_eq b 98 then binary_at total start rest
    else Err (BadByte (total - length (b ∷ rest)))

-- behind the point of a decimal that begins with the digits
unfoldable pub decimal_at : ℕ → ℕ → List ℕ → List ℕ → Result (Atom × List ℕ) TextFault
decimal_at total start whole bytes =
    if nat_eq (prefix_len digit bytes) 0 then Err (missing total start bytes)
    else ended total (Decimal (whole ++ 46 ∷ take (prefix_len digit bytes) bytes)) (drop (prefix_len digit bytes) bytes)

-- the numeral of the digits
unfoldable pub integer_at : ℕ → ℕ → List ℕ → List ℕ → Result (Atom × List ℕ) TextFault
integer_at total start digits left = literal_read total start (nat_lt (value_in 10 digits) (2 ^ 127)) (Numeral (value_in 10 digits)) left

-- behind the digits of a numeral or decimal
unfoldable pub number_at : ℕ → ℕ → List ℕ → List ℕ → Result (Atom × List ℕ) TextFault
number_at total start digits [] = integer_at total start digits []
number_at total start digits (b ∷ rest) = if nat_eq b 46 then decimal_at total start digits rest else integer_at total start digits (b ∷ rest)

-- a numeral or decimal; a first digit 0 is the only one before the point
unfoldable pub numeral_at : ℕ → ℕ → List ℕ → Result (Atom × List ℕ) TextFault
numeral_at total start [] = Err (Unclosed start)
numeral_at total start (b ∷ rest) =
    if nat_eq b 48 && nat_lt 1 (prefix_len digit (b ∷ rest)) then Err (BadByte (start + 1))
    else number_at total start (take (prefix_len digit (b ∷ rest)) (b ∷ rest)) (drop (prefix_len digit (b ∷ rest)) (b ∷ rest))

-- what an atom's first byte chooses
unfoldable pub atom_at : ℕ → ℕ → List ℕ → Result (Atom × List ℕ) TextFault
atom_at total start [] = Err (Unclosed start)
atom_at total start (b ∷ rest) =
    if nat_eq b 124 then barred_at total start rest
    else if nat_eq b 34 then text_at total start false [] rest
    else if nat_eq b 58 then keyword_at total start rest
    else if nat_eq b 35 then vector_at total start rest
    else if digit b then numeral_at total start (b ∷ rest)
    else if symbol_byte b then symbol_at total (b ∷ rest)
    else Err (BadByte start)

-- the list or atom at the front, where depth lists are open and inside reads behind a bracket
unfoldable pub item_by : (List ℕ → Result (Items × List ℕ) TextFault) → ℕ → ℕ → ℕ → List ℕ → Result (Item × List ℕ) TextFault
item_by inside total depth start [] = Err (Unclosed start)
item_by inside total depth start (b ∷ rest) =
    if nat_eq b 40 then (if nat_eq depth 1200 then Err (TooDeep start) else (inside rest >>= λ xs. Ok (group xs.0 (record { at = start }), xs.1)))
    else (atom_at total start (b ∷ rest) >>= λ a. Ok (leaf a.0 (record { at = start }), a.1))

abbrev pub item_joined : Item → Result (Items × List ℕ) TextFault → Result (Items × List ℕ) TextFault
item_joined x (Ok xs) = Ok (more x xs.0, xs.1)
item_joined x (Err f) = Err f

-- The items up to the bracket that closes the list which began at start. The first number bounds the turns:
-- each turn takes a byte, so one more than there are bytes is enough.
unfoldable pub items_at : ℕ → ℕ → ℕ → ℕ → List ℕ → Result (Items × List ℕ) TextFault
items_at zero total depth start bytes = Err (Unclosed start)
items_at (suc n) total depth start bytes = elim (after_layout false bytes) [
  | [] ↦ Err (Unclosed start)
  | b ∷ rest ↦ if nat_eq b 41 then Ok (none, rest)
      else (item_by (items_at n total (depth + 1) (total - length (b ∷ rest))) total depth (total - length (b ∷ rest)) (b ∷ rest) >>= λ x. item_joined x.0 (items_at n total depth start x.1))
]

-- the next item, where no list is open, and the offset behind it
unfoldable pub command_at : ℕ → List ℕ → Result (Option (Item × ℕ)) TextFault
command_at total bytes = elim (after_layout false bytes) [
  | [] ↦ Ok None
  | b ∷ rest ↦ if nat_eq b 41 then Err (Stray (total - length (b ∷ rest)))
      else (item_by (items_at (length (b ∷ rest)) total 1 (total - length (b ∷ rest))) total 0 (total - length (b ∷ rest)) (b ∷ rest) >>= λ x. Ok (Some (x.0, total - length x.1)))
]

-- The grammar of text, by cases on what is spelled. Places take no part.
use Rattle.std.specs.Prelude.{◌≡◌, ℕ, ◌+◌, ◌-◌, ◌*◌, ◌^◌, ◌<◌, ◌≤◌, ◌⊎◌, Bool, true, false, not, ◌&&◌, nat_eq, List, [], ◌∷◌, ◌++◌, length, if◌then◌else◌, Option, Some, None, Result, Ok, Err}
use Rattle.sy_text_items.specs.declared.atom.Atom.{Atom}
use Rattle.sy_text_items.specs.declared.atom.Atom.TheVariants.{Symbol, Keyword, Numeral, Decimal, Bits, Text}
use Rattle.sy_text_items.specs.declared.fault.TextFault.{TextFault}
use Rattle.sy_text_items.specs.Items.{Item, leaf, group, Items, none, more}
use Rattle.sy_text_items.specs.Lexicon.{space, line_end, binary_digit, hexadecimal_digit, symbol_byte, quotable, bar_content, value_in}
use Rattle.sy_text.specs.Spelling.{all_bytes, bare, doubled, is_numeral, is_decimal}
use Rattle.sy_text.specs.Reading.{may_follow}
use Rattle.sy_text_items.specs.Views.{item_of}
use Rattle.sy_text_items.specs.declared.sexp.Sexp.{Sexp}
use Rattle.sy_text.specs.declared.fault.TextEnd.{TextEnd}
use Rattle.sy_text.specs.declared.fault.TextEnd.TheVariants as ends

-- white space and whole comments; inside says that a comment has begun
unfoldable pub is_layout : Bool → List ℕ → Bool
is_layout inside [] = not inside
is_layout true (b ∷ rest) = is_layout (not (line_end b)) rest
is_layout false (b ∷ rest) = if nat_eq b 59 then is_layout true rest else space b && is_layout false rest

-- only white space and comments, of which the last may run to the end; inside says that a comment has begun
unfoldable pub is_blank : Bool → List ℕ → Bool
is_blank inside [] = true
is_blank true (b ∷ rest) = is_blank (not (line_end b)) rest
is_blank false (b ∷ rest) = if nat_eq b 59 then is_blank true rest else space b && is_blank false rest

-- the digits of a vector of some bits a digit
pub record IsVector (class : ℕ → Bool) (sign bits base width n : ℕ) (text : List ℕ) : Type 0 where
  pub digits : List ℕ
  pub spelled : text ≡ 35 ∷ sign ∷ digits
  pub of_class : all_bytes class digits ≡ true
  pub some : 0 < length digits
  pub wide : width ≡ bits * length digits
  pub narrow : width ≤ 64
  pub value : n ≡ value_in base digits

-- no quote stands at the front
abbrev pub no_quote : List ℕ → Bool
no_quote [] = true
no_quote (b ∷ rest) = not (nat_eq b 34)

-- the text spells the atom, before what follows it
abbrev pub IsAtom : Atom → List ℕ → List ℕ → Type 0
IsAtom (Symbol name) text rest =
    ((bare name ≡ true) × (text ≡ name) × (may_follow rest ≡ true)) ⊎ ((all_bytes bar_content name ≡ true) × (text ≡ 124 ∷ name ++ 124 ∷ []))
IsAtom (Keyword name) text rest = (all_bytes symbol_byte name ≡ true) × (0 < length name) × (text ≡ 58 ∷ name) × (may_follow rest ≡ true)
IsAtom (Numeral n) text rest = (is_numeral text ≡ true) × (n ≡ value_in 10 text) × (n < 2 ^ 127) × (may_follow rest ≡ true)
IsAtom (Decimal name) text rest = (is_decimal name ≡ true) × (text ≡ name) × (may_follow rest ≡ true)
IsAtom (Bits width n) text rest = (IsVector hexadecimal_digit 120 4 16 width n text ⊎ IsVector binary_digit 98 1 2 width n text) × (may_follow rest ≡ true)
IsAtom (Text content) text rest = (all_bytes quotable content ≡ true) × (text ≡ 34 ∷ doubled content ++ 34 ∷ []) × (no_quote rest ≡ true)

-- the text spells the item, before what follows it, where depth lists are open
abbrev mutual
  pub IsItem : ℕ → Item → List ℕ → List ℕ → Type 0
  IsItem depth (leaf a p) text rest = IsAtom a text rest
  IsItem depth (group xs p) text rest = (inner : List ℕ) × (text ≡ 40 ∷ inner) × (depth < 1200) × AreItems (depth + 1) xs inner rest

  -- the same for the items up to the closing bracket, with white space and comments between them
  pub AreItems : ℕ → Items → List ℕ → List ℕ → Type 0
  AreItems depth none text rest = (gap : List ℕ) × (is_layout false gap ≡ true) × (text ≡ gap ++ 41 ∷ [])
  AreItems depth (more x xs) text rest =
      (gap : List ℕ) × (first : List ℕ) × (others : List ℕ) × (is_layout false gap ≡ true) × IsItem depth x first (others ++ rest) × AreItems depth xs others rest × (text ≡ gap ++ (first ++ others))

-- the same items apart from places
abbrev mutual
  pub Alike : Item → Item → Type 0
  Alike (leaf a p) (leaf b q) = a ≡ b
  Alike (leaf a p) (group ys q) = ⊥
  Alike (group xs p) (leaf b q) = ⊥
  Alike (group xs p) (group ys q) = AllAlike xs ys

  pub AllAlike : Items → Items → Type 0
  AllAlike none none = Unit {0}
  AllAlike none (more y ys) = ⊥
  AllAlike (more x xs) none = ⊥
  AllAlike (more x xs) (more y ys) = Alike x y × AllAlike xs ys

-- the item was read apart from places, and the rest is left
abbrev pub ReadAs : Item → ℕ → Result (Option (Item × ℕ)) TextFault → Type 0
ReadAs x behind (Ok (Some y)) = Alike x y.0 × (y.1 ≡ behind)
ReadAs x behind (Ok None) = ⊥
ReadAs x behind (Err f) = ⊥

-- what next_command answers where the item stands there: the item apart from places, unless memory ran out
abbrev pub Reads : Item → ℕ → Result (Option (Sexp × ℕ)) TextEnd → Type 0
Reads x behind (Ok (Some y)) = Alike x (item_of y.0) × (y.1 ≡ behind)
Reads x behind (Ok None) = ⊥
Reads x behind (Err ends.Want) = Unit {0}
Reads x behind (Err (ends.Fault f)) = ⊥

-- what next_command answers where nothing but white space and comments is left: None, unless memory ran out
abbrev pub EndsBlank : Result (Option (Sexp × ℕ)) TextEnd → Type 0
EndsBlank (Ok None) = Unit {0}
EndsBlank (Ok (Some y)) = ⊥
EndsBlank (Err ends.Want) = Unit {0}
EndsBlank (Err (ends.Fault f)) = ⊥

-- the item stands at the front, behind white space and comments, and the offset behind it leaves what follows it
pub record StandsInFront (x : Item) (behind total : ℕ) (bytes : List ℕ) : Type 0 where
  pub gap : List ℕ
  pub text : List ℕ
  pub rest : List ℕ
  pub layout : is_layout false gap ≡ true
  pub spells : IsItem 0 x text rest
  pub parts : bytes ≡ gap ++ (text ++ rest)
  pub place : behind ≡ total - length rest

-- What is read can be written, and lies within the bytes.
use Rattle.std.proofs.Common.{◌≡◌, ℕ, ◌+◌, ◌-◌, ◌*◌, ◌^◌, ◌<◌, ◌≤◌, Bool, true, not, List, [], ◌∷◌, ◌++◌, length, Option, Some, None, Result, Ok, Err, refl, ap, ◌∙◌, inl, inr, arith}
use Rattle.std.specs.Prelude.{IfOk, IfSome}
use Rattle.std.proofs.lemmas.Grind.{common_steps}
use Rattle.std.proofs.Math.Nat.{le_trans}
use Rattle.std.specs.List.{fold}
use Rattle.sy_text_items.specs.declared.atom.Atom.{Atom}
use Rattle.sy_text_items.specs.declared.atom.Atom.TheVariants.{Symbol, Keyword, Numeral, Decimal, Bits, Text}
use Rattle.sy_text_items.specs.declared.sexp.Sexp.{Sexp}
use Rattle.sy_text.specs.declared.fault.TextEnd.{TextEnd}
use Rattle.sy_text_items.specs.Items.{Item, leaf, group, Items, none, more}
use Rattle.sy_text_items.specs.Views.{item_of}
use Rattle.sy_text_items.specs.Lexicon.{space, letter, mark, digit, binary_digit, hexadecimal_digit, symbol_byte, quotable, bar_content, digit_value}
use Rattle.sy_text.specs.Spelling.{all_bytes, bare, AtomFits, ItemFits, ItemsFit}
use Rattle.sy_text.specs.Grammar.{IsVector, IsAtom, IsItem, AreItems, StandsInFront}
use Rattle.sy_text.proofs.Again.{and_both}
use Rattle.sy_text.proofs.Values.{next, step, nothing, hexadecimal_small, binary_small, pow_of_pow}

-- ---- atoms

symbol_content : (b : ℕ) → symbol_byte b ≡ true → bar_content b ≡ true
unfolding symbol_byte bar_content quotable letter digit mark space
symbol_content b h = grind (arith, common_steps)

all_content : (bs : List ℕ) → all_bytes symbol_byte bs ≡ true → all_bytes bar_content bs ≡ true
all_content [] h = refl
all_content (b ∷ bs) h = let p = and_both (symbol_byte b) (all_bytes symbol_byte bs) h in rw (symbol_content b p.0) (all_content bs p.1)

bare_content : (name : List ℕ) → bare name ≡ true → all_bytes bar_content name ≡ true
unfolding bare
bare_content [] h = absurd cc
bare_content (b ∷ bs) h = all_content (b ∷ bs) (and_both (not (digit b)) (all_bytes symbol_byte (b ∷ bs)) h).1

-- digits of a class stand for less than a power of the base
all_below : (test : ℕ → Bool) (base acc : ℕ) (xs : List ℕ) → ((b : ℕ) → test b ≡ true → digit_value b < base) → all_bytes test xs ≡ true
    → fold (next base) acc xs + 1 ≤ (acc + 1) * base ^ length xs
all_below test base acc [] h a = nothing base acc
all_below test base acc (x ∷ xs) h a =
    let both = and_both (test x) (all_bytes test xs) a in
    le_trans (all_below test base (next base acc x) xs h both.1) (step base acc (digit_value x) (length xs) (h x both.0))

hexadecimal_range : (width n : ℕ) (text : List ℕ) → IsVector hexadecimal_digit 120 4 16 width n text → AtomFits (Bits width n)
hexadecimal_range width n text v =
    let power : 2 ^ width ≡ 16 ^ length v.digits = ap (λ (w : ℕ). 2 ^ w) v.wide ∙ pow_of_pow (length v.digits) in
    (omega (arith, v.wide, v.some), v.narrow, omega (arith, v.value, power, all_below hexadecimal_digit 16 0 v.digits hexadecimal_small v.of_class))

binary_range : (width n : ℕ) (text : List ℕ) → IsVector binary_digit 98 1 2 width n text → AtomFits (Bits width n)
binary_range width n text v =
    let one : width ≡ length v.digits = omega (arith, v.wide) in
    let power : 2 ^ width ≡ 2 ^ length v.digits = ap (λ (w : ℕ). 2 ^ w) one in
    (omega (arith, one, v.some), v.narrow, omega (arith, v.value, power, all_below binary_digit 2 0 v.digits binary_small v.of_class))

pub atom_fits : (a : Atom) (text rest : List ℕ) → IsAtom a text rest → AtomFits a
atom_fits (Symbol name) text rest (inl h) = bare_content name h.0
atom_fits (Symbol name) text rest (inr h) = h.0
atom_fits (Keyword name) text rest h = (h.0, h.1)
atom_fits (Numeral n) text rest h = h.2
atom_fits (Decimal name) text rest h = h.0
atom_fits (Bits width n) text rest (inl v, f) = hexadecimal_range width n text v
atom_fits (Bits width n) text rest (inr v, f) = binary_range width n text v
atom_fits (Text content) text rest h = h.0

-- ---- items

mutual
  pub item_fits : (depth room : ℕ) (x : Item) (text rest : List ℕ) → depth + room ≡ 1200 → IsItem depth x text rest → ItemFits room x
  item_fits depth room (leaf a p) text rest e h = atom_fits a text rest h
  item_fits depth room (group xs p) text rest e h =
      let lt : depth < 1200 = h.2 in
      (omega (arith, lt, e), all_fit (depth + 1) (room - 1) xs h.0 rest (omega (arith, lt, e)) h.3)

  pub all_fit : (depth room : ℕ) (xs : Items) (text rest : List ℕ) → depth + room ≡ 1200 → AreItems depth xs text rest → ItemsFit room xs
  all_fit depth room none text rest e h = tt
  all_fit depth room (more x xs) text rest e h = (item_fits depth room x h.1 (h.2 ++ rest) e h.4, all_fit depth room xs h.2 rest e h.5)

-- what next_command answers
pub answer_fits : (r : Result (Option (Sexp × ℕ)) TextEnd) (total : ℕ) (bytes : List ℕ) → IfOk r (λ a. IfSome a (λ x. StandsInFront (item_of x.0) x.1 total bytes)) → IfOk r (λ a. IfSome a (λ x. ItemFits 1200 (item_of x.0)))
answer_fits (Ok (Some x)) total bytes h = item_fits 0 1200 (item_of x.0) h.text h.rest refl h.spells
answer_fits (Ok None) total bytes h = tt
answer_fits (Err e) total bytes h = tt

-- Faults and the places of items lie within the bytes.
use Rattle.std.proofs.Common.{◌≡◌, ℕ, zero, suc, ◌+◌, ◌-◌, ◌<◌, ◌≤◌, Bool, true, false, cond, nat_eq, nat_lt, ◌&&◌, List, [], ◌∷◌, ◌++◌, length, drop, Option, Some, None, Result, Ok, Err, refl, sym, subst, arith}
use Rattle.std.specs.Prelude.{IfOk, IfSome, IfErr}
use Rattle.std.specs.List.{prefix_len}
use Rattle.sy_text_items.specs.declared.atom.Atom.{Atom}
use Rattle.sy_text_items.specs.declared.sexp.Sexp.{Sexp}
use Rattle.sy_text_items.specs.declared.fault.TextFault.{TextFault}
use Rattle.sy_text.specs.declared.fault.TextEnd.{TextEnd}
use Rattle.sy_text.specs.declared.fault.TextEnd.TheVariants as ends
use Rattle.sy_text_items.specs.Items.{Item, leaf, group, Items, Placed, AllPlaced}
use Rattle.sy_text_items.specs.Views.{item_of, command_of}
use Rattle.sy_text_items.specs.Lexicon.{digit, binary_digit, hexadecimal_digit, symbol_byte, quotable, bar_content, separator}
use Rattle.sy_text.specs.Reading.{offset_of, FaultBelow, ◌>>=◌, TextGives, after_layout, missing, may_follow, ended, literal_read, symbol_at, closing_bar, barred_at, text_at, keyword_at, vector_of, hexadecimal_at, binary_at, vector_at, decimal_at, integer_at, number_at, numeral_at, atom_at, item_by, item_joined, items_at, command_at}
use Rattle.sy_text.proofs.Shorter.{drop_le}
use Rattle.sy_text.proofs.Nested.{Inside, layout_within, turn, turn_is, item_shorter, items_shorter, front_item, command_turn, command_is}

abbrev Read : Type 0
Read = Result (Atom × List ℕ) TextFault

-- a fault lies below a number
abbrev AtomLies : ℕ → Read → Type 0
AtomLies total (Ok x) = Unit {0}
AtomLies total (Err f) = offset_of f < total

either : {A : Type 0} (P : A → Type 0) (b : Bool) (x y : A) → P x → P y → P (cond b x y)
either P true x y p q = p
either P false x y p q = q

here : (total b : ℕ) (rest : List ℕ) → length (b ∷ rest) ≤ total → total - length (b ∷ rest) < total
here total b rest le = omega arith

rest_le : (total n : ℕ) (bytes : List ℕ) → length bytes ≤ total → length (drop n bytes) ≤ total
rest_le total n bytes le = omega (arith, drop_le n bytes)

-- ---- atoms

missing_lies : (total start : ℕ) (left : List ℕ) → start < total → length left ≤ total → offset_of (missing total start left) < total
unfolding missing
missing_lies total start [] s le = s
missing_lies total start (b ∷ rest) s le = here total b rest le

ended_lies : (total : ℕ) (atom : Atom) (left : List ℕ) → length left ≤ total → AtomLies total (ended total atom left)
unfolding ended may_follow
ended_lies total atom [] le = tt
ended_lies total atom (b ∷ rest) le = either (AtomLies total) (separator b) _ _ tt (here total b rest le)

literal_lies : (total start : ℕ) (fits : Bool) (atom : Atom) (left : List ℕ) → start < total → length left ≤ total → AtomLies total (literal_read total start fits atom left)
unfolding literal_read may_follow
literal_lies total start fits atom [] s le = either (AtomLies total) fits _ _ tt s
literal_lies total start fits atom (b ∷ rest) s le = either (AtomLies total) (separator b) _ _ (either (AtomLies total) fits _ _ tt s) (here total b rest le)

closing_lies : (total start : ℕ) (atom : Atom) (left : List ℕ) → start < total → length left ≤ total → AtomLies total (closing_bar total start atom left)
unfolding closing_bar
closing_lies total start atom [] s le = s
closing_lies total start atom (b ∷ rest) s le = either (AtomLies total) (nat_eq b 124) _ _ tt (here total b rest le)

barred_lies : (total start : ℕ) (bytes : List ℕ) → start < total → length bytes ≤ total → AtomLies total (barred_at total start bytes)
unfolding barred_at
barred_lies total start bytes s le = closing_lies total start _ (drop (prefix_len bar_content bytes) bytes) s (rest_le total (prefix_len bar_content bytes) bytes le)

text_lies : (total start : ℕ) (quote : Bool) (content bytes : List ℕ) → start < total → length bytes ≤ total → AtomLies total (text_at total start quote content bytes)
unfolding text_at
text_lies total start true content [] s le = tt
text_lies total start false content [] s le = s
text_lies total start true content (b ∷ rest) s le = either (AtomLies total) (nat_eq b 34) _ _ (text_lies total start false (content ++ 34 ∷ []) rest s (omega arith)) tt
text_lies total start false content (b ∷ rest) s le =
    either (AtomLies total) (nat_eq b 34) _ _ (text_lies total start true content rest s (omega arith))
    (either (AtomLies total) (quotable b) _ _ (text_lies total start false (content ++ b ∷ []) rest s (omega arith)) (here total b rest le))

symbol_lies : (total : ℕ) (bytes : List ℕ) → length bytes ≤ total → AtomLies total (symbol_at total bytes)
unfolding symbol_at
symbol_lies total bytes le = ended_lies total _ (drop (prefix_len symbol_byte bytes) bytes) (rest_le total (prefix_len symbol_byte bytes) bytes le)

keyword_lies : (total start : ℕ) (bytes : List ℕ) → start < total → length bytes ≤ total → AtomLies total (keyword_at total start bytes)
unfolding keyword_at
keyword_lies total start bytes s le =
    either (AtomLies total) (nat_eq (prefix_len symbol_byte bytes) 0) _ _ (missing_lies total start bytes s le)
    (ended_lies total _ (drop (prefix_len symbol_byte bytes) bytes) (rest_le total (prefix_len symbol_byte bytes) bytes le))

vector_lies : (total start : ℕ) (bytes : List ℕ) → start < total → length bytes ≤ total → AtomLies total (vector_at total start bytes)
unfolding vector_at hexadecimal_at binary_at vector_of
vector_lies total start [] s le = s
vector_lies total start (b ∷ rest) s le =
    let short : length rest ≤ total = omega arith in
    either (AtomLies total) (nat_eq b 120) _ _
    (either (AtomLies total) (nat_eq (prefix_len hexadecimal_digit rest) 0) _ _ (missing_lies total start rest s short)
    (literal_lies total start _ _ (drop (prefix_len hexadecimal_digit rest) rest) s (rest_le total (prefix_len hexadecimal_digit rest) rest short)))
    (either (AtomLies total) (nat_eq b 98) _ _
    (either (AtomLies total) (nat_eq (prefix_len binary_digit rest) 0) _ _ (missing_lies total start rest s short)
    (literal_lies total start _ _ (drop (prefix_len binary_digit rest) rest) s (rest_le total (prefix_len binary_digit rest) rest short)))
    (here total b rest le))

number_lies : (total start : ℕ) (digits left : List ℕ) → start < total → length left ≤ total → AtomLies total (number_at total start digits left)
unfolding number_at integer_at decimal_at
number_lies total start digits [] s le = literal_lies total start _ _ [] s le
number_lies total start digits (b ∷ rest) s le =
    let short : length rest ≤ total = omega arith in
    either (AtomLies total) (nat_eq b 46) _ _
    (either (AtomLies total) (nat_eq (prefix_len digit rest) 0) _ _ (missing_lies total start rest s short)
    (ended_lies total _ (drop (prefix_len digit rest) rest) (rest_le total (prefix_len digit rest) rest short)))
    (literal_lies total start _ _ (b ∷ rest) s le)

-- a second digit stands within the bytes
second : (total start b c : ℕ) (rest : List ℕ) → start + length (b ∷ c ∷ rest) ≤ total → start + 1 < total
second total start b c rest le = omega arith

one_digit : (p q : Bool) → (p && nat_lt 1 (cond q 1 0)) ≡ false
one_digit true true = refl
one_digit true false = refl
one_digit false q = refl

numeral_lies : (total start : ℕ) (bytes : List ℕ) → start < total → start + length bytes ≤ total → AtomLies total (numeral_at total start bytes)
unfolding numeral_at
numeral_lies total start [] s le = s
numeral_lies total start (b ∷ []) s le =
    rw (one_digit (nat_eq b 48) (digit b)) (number_lies total start _ (drop (prefix_len digit (b ∷ [])) (b ∷ [])) s (rest_le total (prefix_len digit (b ∷ [])) (b ∷ []) (omega arith)))
numeral_lies total start (b ∷ c ∷ rest) s le =
    either (AtomLies total) (nat_eq b 48 && nat_lt 1 (prefix_len digit (b ∷ c ∷ rest))) _ _ (second total start b c rest le)
    (number_lies total start _ (drop (prefix_len digit (b ∷ c ∷ rest)) (b ∷ c ∷ rest)) s (rest_le total (prefix_len digit (b ∷ c ∷ rest)) (b ∷ c ∷ rest) (omega arith)))

atom_lies : (total start : ℕ) (bytes : List ℕ) → start < total → start + length bytes ≤ total → AtomLies total (atom_at total start bytes)
unfolding atom_at
atom_lies total start [] s le = s
atom_lies total start (b ∷ rest) s le =
    let short : length rest ≤ total = omega arith in
    let whole : length (b ∷ rest) ≤ total = omega arith in
    either (AtomLies total) (nat_eq b 124) _ _ (barred_lies total start rest s short)
    (either (AtomLies total) (nat_eq b 34) _ _ (text_lies total start false [] rest s short)
    (either (AtomLies total) (nat_eq b 58) _ _ (keyword_lies total start rest s short)
    (either (AtomLies total) (nat_eq b 35) _ _ (vector_lies total start rest s short)
    (either (AtomLies total) (digit b) _ _ (numeral_lies total start (b ∷ rest) s le)
    (either (AtomLies total) (symbol_byte b) _ _ (symbol_lies total (b ∷ rest) whole) s)))))

-- ---- items

abbrev Taken : Type 0
Taken = Items × List ℕ

abbrev ItemLies : ℕ → Result (Item × List ℕ) TextFault → Type 0
ItemLies total (Ok x) = Placed total x.0
ItemLies total (Err f) = offset_of f < total

abbrev ItemsLie : ℕ → Result Taken TextFault → Type 0
ItemsLie total (Ok x) = AllPlaced total x.0
ItemsLie total (Err f) = offset_of f < total

group_lies : (total start : ℕ) (r : Result Taken TextFault) → start < total → ItemsLie total r → ItemLies total (r >>= λ xs. Ok (group xs.0 (record { at = start }), xs.1))
group_lies total start (Ok x) s h = (s, h)
group_lies total start (Err f) s h = h

leaf_lies : (total start : ℕ) (r : Read) → start < total → AtomLies total r → ItemLies total (r >>= λ a. Ok (leaf a.0 (record { at = start }), a.1))
leaf_lies total start (Ok x) s h = s
leaf_lies total start (Err f) s h = h

item_lies : (inside : Inside) (total depth start : ℕ) (bytes : List ℕ) → start < total → start + length bytes ≤ total
    → ((ys : List ℕ) → length ys ≤ total → ItemsLie total (inside ys)) → ItemLies total (item_by inside total depth start bytes)
unfolding item_by
item_lies inside total depth start [] s le h = s
item_lies inside total depth start (b ∷ rest) s le h =
    either (ItemLies total) (nat_eq b 40) _ _
    (either (ItemLies total) (nat_eq depth 1200) _ _ s (group_lies total start (inside rest) s (h rest (omega arith))))
    (leaf_lies total start (atom_at total start (b ∷ rest)) s (atom_lies total start (b ∷ rest) s le))

joined_lies : (total : ℕ) (x : Item) (r : Result Taken TextFault) → Placed total x → ItemsLie total r → ItemsLie total (item_joined x r)
joined_lies total x (Ok xs) p h = (p, h)
joined_lies total x (Err f) p h = h

then_lies : (total : ℕ) (r : Result (Item × List ℕ) TextFault) (f : Item × List ℕ → Result Taken TextFault) → ItemLies total r
    → ((x : Item × List ℕ) → r ≡ Ok x → Placed total x.0 → ItemsLie total (f x)) → ItemsLie total (r >>= f)
then_lies total (Ok x) f p h = h x refl p
then_lies total (Err e) f p h = p

turn_lies : (read : ℕ → ℕ → Inside) (total depth start : ℕ) (bytes : List ℕ) → start < total → length bytes ≤ total
    → ((d s : ℕ) (ys : List ℕ) (y : Taken) → read d s ys ≡ Ok y → length y.1 ≤ length ys)
    → ((d s : ℕ) (ys : List ℕ) → s < total → length ys ≤ total → ItemsLie total (read d s ys)) → ItemsLie total (turn read total depth start bytes)
turn_lies read total depth start [] s le w h = s
turn_lies read total depth start (b ∷ rest) s le w h =
    let at = total - length (b ∷ rest) in
    let low : total - length (b ∷ rest) < total = here total b rest le in
    either (ItemsLie total) (nat_eq b 41) _ _ tt
    (then_lies total (item_by (read (depth + 1) (total - length (b ∷ rest))) total depth (total - length (b ∷ rest)) (b ∷ rest)) _
    (item_lies (read (depth + 1) (total - length (b ∷ rest))) total depth (total - length (b ∷ rest)) (b ∷ rest) low (omega arith) (λ ys. h (depth + 1) (total - length (b ∷ rest)) ys low))
    (λ x e p. joined_lies total x.0 (read depth start x.1) p
    (h depth start x.1 s (omega (arith, le, item_shorter (read (depth + 1) (total - length (b ∷ rest))) total depth (total - length (b ∷ rest)) (b ∷ rest) x (w (depth + 1) (total - length (b ∷ rest))) e)))))

pub items_lie : (n total depth start : ℕ) (bytes : List ℕ) → start < total → length bytes ≤ total → ItemsLie total (items_at n total depth start bytes)
unfolding items_at
items_lie zero total depth start bytes s le = s
items_lie (suc n) total depth start bytes s le =
    let P : Result Taken TextFault → Type 0 = ItemsLie total in
    subst P (sym (turn_is n total depth start bytes))
    (turn_lies (λ d s. items_at n total d s) total depth start (after_layout false bytes) s (omega (arith, layout_within false bytes)) (λ d s. items_shorter n total d s) (λ d s ys. items_lie n total d s ys))

-- ---- a command

abbrev CommandLies : ℕ → Result (Option (Item × ℕ)) TextFault → Type 0
CommandLies total (Ok (Some x)) = Placed total x.0
CommandLies total (Ok None) = Unit {0}
CommandLies total (Err f) = offset_of f < total

some_lies : (total : ℕ) (r : Result (Item × List ℕ) TextFault) → ItemLies total r → CommandLies total (r >>= λ x. Ok (Some (x.0, total - length x.1)))
some_lies total (Ok x) p = p
some_lies total (Err f) p = p

front_lies : (total : ℕ) (front : List ℕ) → length front ≤ total → CommandLies total (command_turn total front)
front_lies total [] le = tt
front_lies total (b ∷ rest) le =
    let low : total - length (b ∷ rest) < total = here total b rest le in
    either (CommandLies total) (nat_eq b 41) _ _ low
    (some_lies total (front_item total 0 (b ∷ rest))
    (item_lies (items_at (length (b ∷ rest)) total 1 (total - length (b ∷ rest))) total 0 (total - length (b ∷ rest)) (b ∷ rest) low (omega arith)
    (λ ys. items_lie (length (b ∷ rest)) total 1 (total - length (b ∷ rest)) ys low)))

pub command_lies : (total : ℕ) (bytes : List ℕ) → length bytes ≤ total → CommandLies total (command_at total bytes)
command_lies total bytes le =
    let P : Result (Option (Item × ℕ)) TextFault → Type 0 = CommandLies total in
    subst P (sym (command_is total bytes)) (front_lies total (after_layout false bytes) (omega (arith, layout_within false bytes)))

-- what next_command answers
given : (total : ℕ) (x y : Result (Option (Item × ℕ)) TextFault) → x ≡ y → CommandLies total x → CommandLies total y
given total x y e = let P : Result (Option (Item × ℕ)) TextFault → Type 0 = CommandLies total in subst P e

pub answer_placed : (r : Result (Option (Sexp × ℕ)) TextEnd) (total : ℕ) (bytes : List ℕ) → length bytes ≤ total → TextGives command_of r (command_at total bytes) → IfOk r (λ a. IfSome a (λ x. Placed total (item_of x.0)))
answer_placed (Ok (Some x)) total bytes le h = given total _ _ h (command_lies total bytes le)
answer_placed (Ok None) total bytes le h = tt
answer_placed (Err e) total bytes le h = tt

pub answer_fault : (r : Result (Option (Sexp × ℕ)) TextEnd) (total : ℕ) (bytes : List ℕ) → length bytes ≤ total → TextGives command_of r (command_at total bytes) → IfErr r (λ e. FaultBelow total e)
answer_fault (Ok x) total bytes le h = tt
answer_fault (Err ends.Want) total bytes le h = tt
answer_fault (Err (ends.Fault f)) total bytes le h = given total _ _ h (command_lies total bytes le)

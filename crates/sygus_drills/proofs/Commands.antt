-- The commands of a number's file, as text that is read again.
use Rattle.std.proofs.Common.{◌≡◌, ℕ, ◌%◌, ◌<◌, true, false, List, [], ◌∷◌, ◌++◌, refl, arith, append_assoc, ap}
use Rattle.std.specs.Prelude.{codes}
use Rattle.sy_text_items.specs.declared.atom.Atom.TheVariants.{Symbol, Numeral, Bits}
use Rattle.sy_text.specs.Grammar.{is_layout}
use Rattle.sy_text_items.specs.Lexicon.{space, digit, letter, mark, symbol_byte, quotable, bar_content}
use Rattle.sy_text.specs.Spelling.{all_bytes, atom_text, symbol_text, bare, vector_text, digits_of, decimal_len, digit_of, parted}
use Rattle.sygus_drills.specs.Files.{condition, function, heading, constraint, line}
use Rattle.sygus_drills.specs.declared.generator.Example.{Example}
use Rattle.sygus_drills.proofs.Laid.{Laid, word, list, Inside, close, next, text_in, texts_in, Stands, AllStand}

abbrev pub name : List ℕ → Laid
name text = word (Symbol text)

abbrev pub byte : ℕ → Laid
byte n = word (Bits 8 n)

-- items with a blank before each
abbrev pub behind : List Laid → Inside
behind [] = close []
behind (first ∷ rest) = next (32 ∷ []) first (behind rest)

-- a list of items with a blank between them
abbrev pub row : Laid → List Laid → Laid
row first rest = list (next [] first (behind rest))

-- an item on a line of its own, behind some blanks
abbrev pub below : List ℕ → Laid → Inside → Inside
below blanks item rest = next (10 ∷ blanks) item rest

-- ---- the commands

abbrev pub logic : Laid
logic = row (name (codes "set-logic")) (name (codes "BV") ∷ [])

abbrev pub byte_sort : Laid
byte_sort = row (name (codes "_")) (name (codes "BitVec") ∷ word (Numeral 8) ∷ [])

abbrev pub arguments : Laid
arguments = row (row (name (codes "x")) (byte_sort ∷ [])) []

abbrev pub nonterminals : Laid
nonterminals = row (row (name (codes "S")) (byte_sort ∷ [])) (row (name (codes "C")) (name (codes "Bool") ∷ []) ∷ [])

abbrev pub complement : Laid
complement = row (name (codes "bvnot")) (name (codes "x") ∷ [])

abbrev pub successor : Laid
successor = row (name (codes "bvadd")) (name (codes "x") ∷ byte 1 ∷ [])

abbrev pub choice : Laid
choice = row (name (codes "ite")) (name (codes "C") ∷ name (codes "S") ∷ name (codes "S") ∷ [])

abbrev pub value_rules : Laid
value_rules = row (name (codes "x")) (complement ∷ successor ∷ choice ∷ [])

abbrev pub test_term : ℕ → Laid
test_term k = row (name (codes "bvult")) (name (codes "x") ∷ byte k ∷ [])

abbrev pub test_rules : ℕ → Laid
test_rules k = row (test_term k) []

abbrev pub values : Laid
values = row (name (codes "S")) (byte_sort ∷ value_rules ∷ [])

abbrev pub tests : ℕ → Laid
tests k = row (name (codes "C")) (name (codes "Bool") ∷ test_rules k ∷ [])

abbrev pub groups : ℕ → Laid
groups k = list (next [] values (below (32 ∷ 32 ∷ 32 ∷ []) (tests k) (close [])))

abbrev pub synthesis : ℕ → Laid
synthesis k = list (next [] (name (codes "synth-fun")) (next (32 ∷ []) (name (codes "f")) (next (32 ∷ []) arguments (next (32 ∷ []) byte_sort
    (below (32 ∷ 32 ∷ []) nonterminals (below (32 ∷ 32 ∷ []) (groups k) (close [])))))))

abbrev pub call_at : Example → Laid
call_at e = row (name (codes "f")) (byte e.argument ∷ [])

abbrev pub equation_at : Example → Laid
equation_at e = row (name (codes "=")) (call_at e ∷ byte e.value ∷ [])

abbrev pub example_at : Example → Laid
example_at e = row (name (codes "constraint")) (equation_at e ∷ [])

abbrev pub check : Laid
check = row (name (codes "check-synth")) []

-- ---- they can be read

pub blank_gap : is_layout false (32 ∷ []) ≡ true
unfolding is_layout space
blank_gap = refl

pub empty_gap : is_layout false [] ≡ true
unfolding is_layout
empty_gap = refl

pub line_gap : is_layout false (10 ∷ []) ≡ true
unfolding is_layout space
line_gap = refl

pub two_gap : is_layout false (10 ∷ 32 ∷ 32 ∷ []) ≡ true
unfolding is_layout space
two_gap = refl

pub three_gap : is_layout false (10 ∷ 32 ∷ 32 ∷ 32 ∷ []) ≡ true
unfolding is_layout space
three_gap = refl

abbrev pub Each : List Laid → Type 0
Each [] = Unit {0}
Each (first ∷ rest) = Stands first × Each rest

parted_behind : (rest : List Laid) (after : List ℕ) → parted (texts_in (behind rest) ++ after) ≡ true
unfolding space
parted_behind [] after = refl
parted_behind (first ∷ rest) after = refl

behind_stands : (rest : List Laid) → Each rest → AllStand (behind rest)
behind_stands [] h = empty_gap
behind_stands (first ∷ rest) h = (blank_gap, h.0, parted_behind rest, behind_stands rest h.1)

pub row_stands : (first : Laid) (rest : List Laid) → Stands first → Each rest → Stands (row first rest)
row_stands first rest h hs = (empty_gap, h, parted_behind rest, behind_stands rest hs)

pub byte_stands : (n : ℕ) → n < 256 → Stands (byte n)
byte_stands n lt = (omega arith, omega arith, omega (arith, lt))

pub name_stands : (text : List ℕ) → all_bytes bar_content text ≡ true → Stands (name text)
name_stands text h = h

pub logic_stands : Stands logic
unfolding quotable bar_content space
logic_stands = row_stands (name (codes "set-logic")) (name (codes "BV") ∷ []) refl (refl, tt)

sort_stands : Stands byte_sort
unfolding quotable bar_content space
sort_stands = row_stands (name (codes "_")) (name (codes "BitVec") ∷ word (Numeral 8) ∷ []) refl (refl, (omega arith, tt))

-- `(x (_ BitVec 8))`, and `(S (_ BitVec 8))`
abbrev of_bytes : List ℕ → Laid
of_bytes text = row (name text) (byte_sort ∷ [])

bytes_stand : (text : List ℕ) → all_bytes bar_content text ≡ true → Stands (of_bytes text)
bytes_stand text h = row_stands (name text) (byte_sort ∷ []) h (sort_stands, tt)

arguments_stand : Stands arguments
unfolding quotable bar_content space
arguments_stand = row_stands (of_bytes (codes "x")) [] (bytes_stand (codes "x") refl) tt

truths_stand : Stands (row (name (codes "C")) (name (codes "Bool") ∷ []))
unfolding quotable bar_content space
truths_stand = row_stands (name (codes "C")) (name (codes "Bool") ∷ []) refl (refl, tt)

nonterminals_stand : Stands nonterminals
unfolding quotable bar_content space
nonterminals_stand = row_stands (of_bytes (codes "S")) (row (name (codes "C")) (name (codes "Bool") ∷ []) ∷ []) (bytes_stand (codes "S") refl) (truths_stand, tt)

complement_stands : Stands complement
unfolding quotable bar_content space
complement_stands = row_stands (name (codes "bvnot")) (name (codes "x") ∷ []) refl (refl, tt)

successor_stands : Stands successor
unfolding quotable bar_content space
successor_stands = row_stands (name (codes "bvadd")) (name (codes "x") ∷ byte 1 ∷ []) refl (refl, (byte_stands 1 (omega arith), tt))

choice_stands : Stands choice
unfolding quotable bar_content space
choice_stands = row_stands (name (codes "ite")) (name (codes "C") ∷ name (codes "S") ∷ name (codes "S") ∷ []) refl (refl, (refl, (refl, tt)))

value_rules_stand : Stands value_rules
unfolding quotable bar_content space
value_rules_stand = row_stands (name (codes "x")) (complement ∷ successor ∷ choice ∷ []) refl (complement_stands, (successor_stands, (choice_stands, tt)))

test_stands : (k : ℕ) → k < 256 → Stands (test_term k)
unfolding quotable bar_content space
test_stands k lt = row_stands (name (codes "bvult")) (name (codes "x") ∷ byte k ∷ []) refl (refl, (byte_stands k lt, tt))

test_rules_stand : (k : ℕ) → k < 256 → Stands (test_rules k)
test_rules_stand k lt = row_stands (test_term k) [] (test_stands k lt) tt

values_stand : Stands values
unfolding quotable bar_content space
values_stand = row_stands (name (codes "S")) (byte_sort ∷ value_rules ∷ []) refl (sort_stands, (value_rules_stand, tt))

tests_stand : (k : ℕ) → k < 256 → Stands (tests k)
unfolding quotable bar_content space
tests_stand k lt = row_stands (name (codes "C")) (name (codes "Bool") ∷ test_rules k ∷ []) refl (refl, (test_rules_stand k lt, tt))

groups_stand : (k : ℕ) → k < 256 → Stands (groups k)
unfolding space
groups_stand k lt = (empty_gap, values_stand, λ after. refl, (three_gap, tests_stand k lt, λ after. refl, empty_gap))

pub synthesis_stands : (k : ℕ) → k < 256 → Stands (synthesis k)
unfolding quotable bar_content space
synthesis_stands k lt = (
  empty_gap,
  refl,
  λ after. refl,
  (
    blank_gap,
    refl,
    λ after. refl,
    (
      blank_gap,
      arguments_stand,
      λ after. refl,
      (
        blank_gap,
        sort_stands,
        λ after. refl,
        (two_gap, nonterminals_stand, λ after. refl, (two_gap, groups_stand k lt, λ after. refl, empty_gap)),
      ),
    ),
  ),
)

call_stands : (e : Example) → e.argument < 256 → Stands (call_at e)
unfolding quotable bar_content space
call_stands e argument = row_stands (name (codes "f")) (byte e.argument ∷ []) refl (byte_stands e.argument argument, tt)

equation_stands : (e : Example) → e.argument < 256 → e.value < 256 → Stands (equation_at e)
unfolding quotable bar_content space
equation_stands e argument value = row_stands (name (codes "=")) (call_at e ∷ byte e.value ∷ []) refl (call_stands e argument, (byte_stands e.value value, tt))

pub example_stands : (e : Example) → e.argument < 256 → e.value < 256 → Stands (example_at e)
unfolding quotable bar_content space
example_stands e argument value = row_stands (name (codes "constraint")) (equation_at e ∷ []) refl (equation_stands e argument value, tt)

pub check_stands : Stands check
unfolding quotable bar_content space
check_stands = row_stands (name (codes "check-synth")) [] refl tt

-- ---- their text

pub logic_text : (rest : List ℕ) → line (codes "(set-logic BV)") ++ rest ≡ text_in logic ++ (10 ∷ rest)
unfolding atom_text symbol_text bare digit symbol_byte letter mark
logic_text rest = refl

-- both texts of an example behind their first bytes
regrouped : (u v rest : List ℕ) → ((((u ++ (41 ∷ 32 ∷ [])) ++ v) ++ (41 ∷ 41 ∷ [])) ++ 10 ∷ []) ++ rest ≡ (((u ++ 41 ∷ []) ++ (32 ∷ (v ++ 41 ∷ []))) ++ 41 ∷ []) ++ (10 ∷ rest)
regrouped u v rest = simp append_assoc

pub example_text : (e : Example) (rest : List ℕ) → constraint e ++ rest ≡ text_in (example_at e) ++ (10 ∷ rest)
unfolding constraint atom_text symbol_text bare digit symbol_byte letter mark
example_text e rest = ap (λ (l : List ℕ). codes "(constraint (= (f " ++ l) (regrouped (vector_text 8 e.argument) (vector_text 8 e.value) rest)

pub check_text : line (codes "(check-synth)") ≡ text_in check ++ (10 ∷ [])
unfolding atom_text symbol_text bare digit symbol_byte letter mark
check_text = refl

-- both texts of the function behind their first bytes
closed : (u rest : List ℕ) → ((u ++ (41 ∷ 41 ∷ 41 ∷ 41 ∷ 41 ∷ [])) ++ 10 ∷ []) ++ rest ≡ (((((u ++ 41 ∷ []) ++ 41 ∷ []) ++ 41 ∷ []) ++ 41 ∷ []) ++ 41 ∷ []) ++ (10 ∷ rest)
closed u rest = simp append_assoc

pub function_text : (number : ℕ) (rest : List ℕ) → function number ++ rest ≡ text_in logic ++ (10 ∷ (text_in (synthesis (number % 256)) ++ (10 ∷ rest)))
unfolding function condition atom_text symbol_text bare digit symbol_byte letter mark vector_text digits_of decimal_len digit_of
function_text number rest = ap (λ (l : List ℕ). heading ++ (codes "   (C Bool ((bvult x " ++ l)) (closed (vector_text 8 (number % 256)) rest)

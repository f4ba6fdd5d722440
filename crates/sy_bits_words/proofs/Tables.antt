-- What is known of a table of words as it grows.
use Rattle.std.proofs.Common.{◌≡◌, ℕ, Bool, ◌+◌, ◌≤◌, ◌<◌, List, [], ◌∷◌, ◌++◌, length, Option, Some, None, slice_get, get_or, bit_and, arith, refl, ap, sym, subst, ◌∙◌, zero, suc, inl, inr, ◌⊎◌}
use Rattle.std.proofs.lemmas.Option.{slice_get_within, slice_get-get_or}
use Rattle.std.proofs.lemmas.Nat.{and_le_l, and_comm, or_disjoint, and_or_self}
use Rattle.sy_gates.specs.declared.gate.Bit.{Bit}
use Rattle.sy_gates.specs.Circuits.{Plan, variables, GrownCircuit, word_number, word_bound}
use Rattle.sy_bits_sums.specs.declared.sum.Sum.{Sum}
use Rattle.sy_bits_sums.specs.Polynomials.{total, Agree}
use Rattle.sy_bits_sums.proofs.Agreeing.{agree-same, agree-sym, agree-trans}
use Rattle.sy_bits_words.specs.declared.known.Known.{Known}
use Rattle.sy_bits_words.specs.Standing.{place_number, AreNumbers, StandsFor, AllStand}

-- a word that is both words of its place

and-self : (n : ℕ) → bit_and n n ≡ n
and-self n =
    let none : bit_and 0 n ≡ 0 = omega (arith, and_le_l 0 n) in
    let plain : 0 + n ≡ n = omega arith in
    sym (ap (λ k. bit_and k n) (or_disjoint 0 n none ∙ plain)) ∙ and_or_self n 0

pub place-alone : (v : ℕ → Bool) (known : Known) (word : List Bit) → known.word ≡ word → known.other ≡ word → place_number v known ≡ word_number v word
place-alone v known word first second =
    ap (λ xs. bit_and (word_number v xs) (word_number v known.other)) first
    ∙ ap (λ xs. bit_and (word_number v word) (word_number v xs)) second ∙ and-self (word_number v word)

pub place-pair : (v : ℕ → Bool) (known : Known) (a b : List Bit) → known.word ≡ a → known.other ≡ b → place_number v known ≡ bit_and (word_number v a) (word_number v b)
place-pair v known a b first second =
    ap (λ xs. bit_and (word_number v xs) (word_number v known.other)) first
    ∙ ap (λ xs. bit_and (word_number v a) (word_number v xs)) second

pub place-turned : (v : ℕ → Bool) (known : Known) (a b : List Bit) → known.word ≡ b → known.other ≡ a → place_number v known ≡ bit_and (word_number v a) (word_number v b)
place-turned v known a b first second = place-pair v known b a first second ∙ and_comm (word_number v b) (word_number v a)

-- there are such values

abbrev number_at : (ℕ → Bool) → Option Known → ℕ
number_at v None = 0
number_at v (Some known) = place_number v known

abbrev pub numbers_of : (ℕ → Bool) → List Known → ℕ → ℕ
numbers_of v list place = number_at v (slice_get list place)

pub are-numbers : (v : ℕ → Bool) (list : List Known) → AreNumbers v list (numbers_of v list)
are-numbers v list = record { at = λ place known e. ap (number_at v) e }

-- a longer table

longer-at : (list more : List Known) (place : ℕ) (known : Known) → slice_get list place ≡ Some known → slice_get (list ++ more) place ≡ Some known
longer-at [] more place known e = absurd (omega (arith, slice_get_within [] place known e))
longer-at (x ∷ list) more zero known e = e
longer-at (x ∷ list) more (suc place) known e = longer-at list more place known e

last-at : (list : List Known) (known : Known) → slice_get (list ++ known ∷ []) (length list) ≡ Some known
last-at [] known = refl
last-at (x ∷ list) known = last-at list known

pushed-at : (list : List Known) (last : Known) (place : ℕ) (known : Known) → slice_get (list ++ last ∷ []) place ≡ Some known → (slice_get list place ≡ Some known) ⊎ (last ≡ known)
pushed-at [] last zero known e = inr cc
pushed-at [] last (suc place) known e = absurd (omega (arith, slice_get_within [] place known e))
pushed-at (x ∷ list) last zero known e = inl e
pushed-at (x ∷ list) last (suc place) known e = pushed-at list last place known e

shorter : (v : ℕ → Bool) (list more : List Known) (values : ℕ → ℕ) → AreNumbers v (list ++ more) values → AreNumbers v list values
shorter v list more values n = record { at = λ place known e. n.at place known (longer-at list more place known e) }

stands-longer : (circuit : Plan) (list more : List Known) (word : List Bit) (sum : Sum) → StandsFor circuit list word sum → StandsFor circuit (list ++ more) word sum
stands-longer circuit list more word sum s = record {
  width = s.width;
  inside = s.inside;
  value = λ v values f n. s.value v values f (shorter v list more values n);
}

pub none-stand : (circuit : Plan) (list : List Known) → list ≡ [] → AllStand circuit list
none-stand circuit list e = record { each = λ place known at. absurd (omega (arith, slice_get_within [] place known (subst (λ xs. slice_get xs place ≡ Some known) e at))) }

choose : (circuit : Plan) (list : List Known) (last known : Known) (place : ℕ) → StandsFor circuit (list ++ last ∷ []) last.word last.sum → AllStand circuit list → ((slice_get list place ≡ Some known) ⊎ (last ≡ known)) → StandsFor circuit (list ++ last ∷ []) known.word known.sum
choose circuit list last known place own all (inl at) = stands-longer circuit list (last ∷ []) known.word known.sum (all.each place known at)
choose circuit list last known place own all (inr same) = subst (λ (k : Known). StandsFor circuit (list ++ last ∷ []) k.word k.sum) same own

pub all-pushed : (circuit : Plan) (list after : List Known) (last : Known) → after ≡ list ++ last ∷ [] → AllStand circuit list → StandsFor circuit after last.word last.sum → AllStand circuit after
all-pushed circuit list after last is all new =
    let own : StandsFor circuit (list ++ last ∷ []) last.word last.sum = subst (λ xs. StandsFor circuit xs last.word last.sum) is new in
    let longer : AllStand circuit (list ++ last ∷ []) = record { each = λ place known e. choose circuit list last known place own all (pushed-at list last place known e) } in
    subst (AllStand circuit) (sym is) longer

-- one that stands for a sum of the table before
pub all-noted : (circuit : Plan) (list after : List Known) (last : Known) → after ≡ list ++ last ∷ [] → StandsFor circuit list last.word last.sum → AllStand circuit list → AllStand circuit after
all-noted circuit list after last is new all = all-pushed circuit list after last is all (subst (λ xs. StandsFor circuit xs last.word last.sum) (sym is) (stands-longer circuit list (last ∷ []) last.word last.sum new))

-- a circuit that has grown

pub stands-grown : (old new : Plan) (list : List Known) (word : List Bit) (sum : Sum) → GrownCircuit old new → StandsFor old list word sum → StandsFor new list word sum
stands-grown old new list word sum g s = let more = g.more in let inside = s.inside in record {
  width = s.width;
  inside = omega (arith, inside, more);
  value = λ v values f n. s.value v values (g.keeps v f) n;
}

pub all-grown : (old new : Plan) (list : List Known) → GrownCircuit old new → AllStand old list → AllStand new list
all-grown old new list g all = record { each = λ place known e. stands-grown old new list known.word known.sum g (all.each place known e) }

-- a new word, whose sum is a number or the word itself

pub all-entered : (circuit : Plan) (list after : List Known) (word : List Bit) (last : Known) → after ≡ list ++ last ∷ [] → last.word ≡ word → last.other ≡ word → length word ≡ last.sum.width → word_bound word ≤ variables circuit → ((v : ℕ → Bool) (values : ℕ → ℕ) → values (length list) ≡ word_number v word → Agree last.sum.width (total values last.sum.monomials.items) (word_number v word)) → AllStand circuit list → AllStand circuit after
all-entered circuit list after word last is same also width inside value all =
    all-pushed circuit list after last is all (record {
      width = ap (λ xs. length xs) same ∙ width;
      inside = rw same inside;
      value = λ v values f n.
          let here : values (length list) ≡ word_number v word = n.at (length list) last (ap (λ xs. slice_get xs (length list)) is ∙ last-at list last) ∙ place-alone v last word same also in
          let own : Agree (length word) (total values last.sum.monomials.items) (word_number v word) = rw width (value v values here) in
          rw same (agree-sym (length word) (total values last.sum.monomials.items) (word_number v word) own);
    })

-- what is known at a place of a table that has one word more

get-front : (list : List Known) (last : Known) (i : ℕ) (d : Known) → i < length list → get_or (list ++ last ∷ []) i d ≡ get_or list i d
get-front [] last i d h = absurd (omega arith)
get-front (x ∷ list) last zero d h = refl
get-front (x ∷ list) last (suc i) d h = get-front list last i d (omega arith)

pub get-last : (list : List Known) (last d : Known) → get_or (list ++ last ∷ []) (length list) d ≡ last
get-last [] last d = refl
get-last (x ∷ list) last d = get-last list last d

pub kept-pushed : (old list after : List Known) (last : Known) → after ≡ list ++ last ∷ [] → length old ≤ length list → ((i : ℕ) (d : Known) → i < length old → get_or list i d ≡ get_or old i d) → (i : ℕ) (d : Known) → i < length old → get_or after i d ≡ get_or old i d
kept-pushed old list after last is longer kept i d h =
    ap (λ xs. get_or xs i d) is ∙ get-front list last i d (omega (arith, h, longer)) ∙ kept i d h

-- a word that stands for the value at its own place
pub own-stands : (circuit : Plan) (list : List Known) (place : ℕ) (word : List Bit) (last : Known) → place < length list → ((d : Known) → (get_or list place d).word ≡ word) → ((d : Known) → (get_or list place d).other ≡ word) → last.word ≡ word → last.sum.width ≡ length word → word_bound word ≤ variables circuit → ((values : ℕ → ℕ) → Agree (length word) (total values last.sum.monomials.items) (values place)) → StandsFor circuit list last.word last.sum
own-stands circuit list place word last h first second same width inside value =
    rw same (record {
      width = sym width;
      inside = inside;
      value = λ v values f n.
          let here : values place ≡ word_number v word = n.at place (get_or list place last) (slice_get-get_or list place last h) ∙ place-alone v (get_or list place last) word (first last) (second last) in
          agree-sym (length word) (total values last.sum.monomials.items) (word_number v word)
          (agree-trans (length word) (total values last.sum.monomials.items) (values place) (word_number v word) (value values) (agree-same (length word) (values place) (word_number v word) here));
    })

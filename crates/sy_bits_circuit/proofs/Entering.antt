-- The signals of the values whose bits are a circuit's first variables.
use Rattle.std.specs.Prelude.{ℕ, ◌+◌, ◌≤◌, ◌≡◌, max, Bool, true, false, List, [], ◌∷◌, ◌++◌, length, take, drop}
use Rattle.std.proofs.Common.{arith, ap, sym, ◌∙◌, refl, zero, suc, append_assoc, length-append, subst}
use Rattle.std.proofs.lemmas.Grind.{common_steps}
use Rattle.std.proofs.lemmas.List.{get_or-drop, map-append}
use Rattle.std.proofs.lemmas.List.Elements.{All-tail}
use Rattle.sy_terms.specs.Values.{Val}
use Rattle.sy_terms.specs.declared.sort.Sort.{Sort}
use Rattle.sy_gates.specs.declared.gate.Bit.{Bit}
use Rattle.sy_gates.specs.declared.gate.Bit.TheVariants.{Of}
use Rattle.sy_gates.specs.Circuits.{word_number, word_bound}
use Rattle.sy_gates.specs.Models.{values_of}
use Rattle.sy_gates.proofs.Words.{word_number-push, word_bound-push}
use Rattle.sy_bits_operators.specs.declared.signal.Signal.{Signal}
use Rattle.sy_bits_operators.specs.Signals.{signal_value, signal_values, signal_sort, signal_sorts, signal_bound, signals_bound, sort_width, total_width, has_signals, AllHaveSignals}
use Rattle.sy_bits_circuit.specs.Assignments.{number_of_bits, value_of_bits, assignment}
use Rattle.sy_bits_circuit.proofs.TermsReading.{number_of-more}

-- the bit of a variable
abbrev pub of_variable : ℕ → Bit
of_variable k = Of (record { var = k; positive = true })

-- one more variable at the top of a word

pub number-more : (word more : List Bit) (bit : Bit) (first i : ℕ) (m : List Bool) → more ≡ word ++ bit ∷ [] → bit ≡ of_variable (first + i) → length word ≡ i → word_number (values_of m) word ≡ number_of_bits (take i (drop first m)) → word_number (values_of m) more ≡ number_of_bits (take (i + 1) (drop first m))
number-more word more bit first i m e b l h =
    rw (e, b, word_number-push (values_of m) word (of_variable (first + i)), l, number_of-more (drop first m) i, get_or-drop first m i false, h) refl

pub long-more : (word more : List Bit) (bit : Bit) (i : ℕ) → more ≡ word ++ bit ∷ [] → length word ≡ i → length more ≡ i + 1
long-more word more bit i e l = ap (λ w. length w) e ∙ length-append word (bit ∷ []) ∙ ap (λ n. n + 1) l

pub bound-more : (word more : List Bit) (bit : Bit) (first i : ℕ) → more ≡ word ++ bit ∷ [] → bit ≡ of_variable (first + i) → word_bound word ≤ first + i → word_bound more ≤ first + (i + 1)
bound-more word more bit first i e b h = rw (e, b, word_bound-push word (of_variable (first + i))) (omega (arith, h))

-- one more signal

pub width-more : (sort : Sort) (left rest : List Sort) (count width all : ℕ) → width ≡ sort_width sort → left ≡ sort ∷ rest → count + total_width left ≡ all → count + width + total_width rest ≡ all
width-more sort left rest count width all w l h =
    let t : total_width left ≡ sort_width sort + total_width rest = ap (λ ss. total_width ss) l in
    omega (arith, t, w, h)

pub have-rest : (sort : Sort) (left rest : List Sort) → left ≡ sort ∷ rest → AllHaveSignals left → AllHaveSignals rest
have-rest sort left rest l all = All-tail (λ sort. has_signals sort ≡ true) sort rest (subst AllHaveSignals l all)

signals_bound-push : (signals : List Signal) (signal : Signal) → signals_bound (signals ++ signal ∷ []) ≡ max (signals_bound signals) (signal_bound signal)
signals_bound-push [] signal = omega arith
signals_bound-push (s ∷ signals) signal = omega (arith, signals_bound-push signals signal)

pub inside-more : (signals more : List Signal) (signal : Signal) (sort : Sort) (count width : ℕ) → more ≡ signals ++ signal ∷ [] → signal_sort signal ≡ sort → width ≡ sort_width sort → signal_bound signal ≤ count + sort_width sort → signals_bound signals ≤ count → signals_bound more ≤ count + width
inside-more signals more signal sort count width e s w h k = rw (e, signals_bound-push signals signal) (omega (arith, w, h, k))

pub sorts-more : (signals more : List Signal) (signal : Signal) (sort : Sort) (left rest whole : List Sort) → more ≡ signals ++ signal ∷ [] → signal_sort signal ≡ sort → left ≡ sort ∷ rest → signal_sorts signals ++ left ≡ whole → signal_sorts more ++ rest ≡ whole
sorts-more signals more signal sort left rest whole e s l h =
    rw (e, map-append signal_sort signals (signal ∷ []), append_assoc (signal_sorts signals) (signal_sort signal ∷ []) rest, s, ← l) h

drop-drop : (m n : ℕ) (bits : List Bool) → drop n (drop m bits) ≡ drop (m + n) bits
drop-drop zero n bits = let e : n ≡ 0 + n = omega arith in ap (λ k. drop k bits) e
drop-drop (suc m) n [] = grind (arith, common_steps)
drop-drop (suc m) n (b ∷ bits) = let e : suc (m + n) ≡ suc m + n = omega arith in drop-drop m n bits ∙ ap (λ k. drop k (b ∷ bits)) e

pub values-more : (m : List Bool) (signals more : List Signal) (signal : Signal) (sort : Sort) (left rest : List Sort) (first width : ℕ) (whole : List Val) → more ≡ signals ++ signal ∷ [] → width ≡ sort_width sort → signal_value (values_of m) signal ≡ value_of_bits sort (take (sort_width sort) (drop first m)) → left ≡ sort ∷ rest → signal_values (values_of m) signals ++ assignment left (drop first m) ≡ whole → signal_values (values_of m) more ++ assignment rest (drop (first + width) m) ≡ whole
values-more m signals more signal sort left rest first width whole e w s l h =
    rw (e, w, map-append (signal_value (values_of m)) signals (signal ∷ []), append_assoc (signal_values (values_of m) signals) (signal_value (values_of m) signal ∷ []) (assignment rest (drop (first + sort_width sort) m)), s, ← drop-drop first (sort_width sort) m)
    (ap (λ ss. signal_values (values_of m) signals ++ assignment ss (drop first m)) (sym l) ∙ h)

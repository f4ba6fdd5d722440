-- An operator taken from the left over signals, step by step.
use Rattle.std.specs.Prelude.{ℕ, ◌+◌, ◌*◌, ◌≤◌, ◌<◌, ◌≡◌, ◌≢◌, Bool, true, false, ◌&&◌, nat_eq, nat_le, List, [], ◌∷◌, refl, length, map, drop, if◌then◌else◌}
use Rattle.std.specs.List.{list_all}
use Rattle.std.proofs.Common.{arith, ap, sym, ◌∙◌, subst, get_or}
use Rattle.std.proofs.Math.Nat.{mul-le-mul_right}
use Rattle.std.proofs.lemmas.Bool.{eqb-true}
use Rattle.std.proofs.lemmas.Bool.Decides.{nat_tests}
use Rattle.std.proofs.lemmas.List.{at_drop_more, at_drop_all, length-map}
use Rattle.sy_terms.specs.Values.{Val, Bits}
use Rattle.sy_terms.specs.Operators.{op_value}
use Rattle.sy_terms.specs.Sorts.{sort_of, same_sort}
use Rattle.sy_terms.specs.Theories.{sort_of_value}
use Rattle.sy_terms.specs.declared.op.Op.{Op}
use Rattle.sy_terms.specs.declared.op.Op.TheVariants as ops
use Rattle.sy_terms.specs.declared.sort.Sort.{Sort}
use Rattle.sy_terms.specs.declared.sort.Sort.TheVariants as sorts
use Rattle.sy_terms.specs.declared.sorts.Sorted.TheVariants.{Is, Mismatch}
use Rattle.sy_terms_operators.proofs.OperatorSorts.{op_value-sort}
use Rattle.sy_meaning_words.specs.Vectors.{is_folded, is_bits, TakesMany}
use Rattle.sy_bits_operators.proofs.Taken.{fold_step, fold_end}
use Rattle.sy_gates.specs.declared.gate.Bit.{Bit}
use Rattle.sy_gates.specs.Circuits.{word_bound}
use Rattle.sy_bits_operators.specs.declared.signal.Signal.{Signal}
use Rattle.sy_bits_operators.specs.declared.signal.Signal.TheVariants as signals
use Rattle.sy_bits_operators.specs.Signals.{signal_value, signal_values, signal_sort, signal_sorts, signal_bound}
use Rattle.sy_bits_operators.specs.Costs.{pair_gates}
use Rattle.sy_bits_operators.proofs.Rows.{sort-of, sorts-are}
use Rattle.sy_bits_operators.proofs.Pairs.{word_value}

-- the word of a signal

same-width : (a b : ℕ) → sorts.Bits a ≡ sorts.Bits b → a ≡ b
same-width a b e = cc

pub word-length : (word : List Bit) (signal : Signal) (w : ℕ) → signals.Vector word ≡ signal → signal_sort signal ≡ sorts.Bits w → length word ≡ w
word-length word signal w e f = same-width (length word) w (ap signal_sort e ∙ f)

pub word-sort : (word : List Bit) (signal : Signal) → signals.Vector word ≡ signal → sorts.Bits (length word) ≡ signal_sort signal
word-sort word signal e = ap signal_sort e

pub word-bound : (word : List Bit) (signal : Signal) → signals.Vector word ≡ signal → word_bound word ≡ signal_bound signal
word-bound word signal e = ap signal_bound e

pub word-value : (v : ℕ → Bool) (word : List Bit) (signal : Signal) → signals.Vector word ≡ signal → word_value v word ≡ signal_value v signal
word-value v word signal e = ap (signal_value v) e

-- the vectors have one width

both : (a b : Bool) → (a && b) ≡ true → (a ≡ true) × (b ≡ true)
both true b e = (refl, e)
both false b e = cc

pub next-sort : (op : Op) (w : ℕ) (list : List Signal) (i : ℕ) (signal : Signal) → TakesMany op (sorts.Bits w ∷ signal_sorts list) → i < length list → signal ≡ get_or list i signal → signal_sort signal ≡ sorts.Bits w
next-sort op w list i signal takes h is =
    let parts = both (nat_eq takes.width w) (list_all (same_sort (sorts.Bits takes.width)) (signal_sorts list)) takes.same in
    sym (sort-of (sorts.Bits takes.width) list i signal parts.1 h is) ∙ ap sorts.Bits (eqb-true takes.width w parts.0)

pub bits-sort : (s : Sort) (w : ℕ) → s ≡ sorts.Bits w → is_bits s ≡ true
bits-sort s w e = rw e refl

pub apart : (op : Op) → is_folded op ≡ true → op ≢ ops.Concat
apart op f e = let h = ap is_folded e in cc

-- the operator on what is left

pub fold-next : (op : Op) (v : ℕ → Bool) (list : List Signal) (i : ℕ) (total next made : Signal) (s t : List Bit) (whole : Val) → is_folded op ≡ true → i < length list → next ≡ get_or list i next → signals.Vector s ≡ total → signals.Vector t ≡ next →
    signal_value v made ≡ op_value op (word_value v s ∷ word_value v t ∷ []) →
    op_value op (signal_value v total ∷ signal_values v (drop i list)) ≡ whole → op_value op (signal_value v made ∷ signal_values v (drop (i + 1) list)) ≡ whole
fold-next op v list i total next made s t whole f h is es et em before =
    let rest : List Val = signal_values v (drop (i + 1) list) in
    let value : signal_value v made ≡ op_value op (signal_value v total ∷ signal_value v next ∷ []) =
    em ∙ ap (λ (x : Val). op_value op (x ∷ word_value v t ∷ [])) (word-value v s total es) ∙ ap (λ (y : Val). op_value op (signal_value v total ∷ y ∷ [])) (word-value v t next et) in
    ap (λ (x : Val). op_value op (x ∷ rest)) value
    ∙ sym (fold_step op (signal_value v total) (signal_value v next) rest f)
    ∙ ap (λ (x : Signal). op_value op (signal_value v total ∷ signal_value v x ∷ rest)) is
    ∙ sym (at_drop_more (λ (xs : List Signal). op_value op (signal_value v total ∷ signal_values v xs)) list i next h)
    ∙ before

pub fold-last : (op : Op) (v : ℕ → Bool) (list : List Signal) (i : ℕ) (total : Signal) (whole : Val) → is_folded op ≡ true → length list ≤ i → op_value op (signal_value v total ∷ signal_values v (drop i list)) ≡ whole → signal_value v total ≡ whole
fold-last op v list i total whole f h e =
    sym (fold_end op (signal_value v total) f)
    ∙ sym (at_drop_all (λ (xs : List Signal). op_value op (signal_value v total ∷ signal_values v xs)) list i h) ∙ e

rounds : (n i c : ℕ) → i < n → i * c + c ≤ n * c
rounds n i c h = let m : (i + 1) * c ≤ n * c = mul-le-mul_right c (omega arith) in omega (arith, m)

pub fold-room : (op : Op) (n i w u old now most : ℕ) → i < n → u ≡ w → now ≤ old + i * pair_gates op w → old + n * pair_gates op w < most → now + pair_gates op u < most
fold-room op n i w u old now most h e k room =
    let m = rounds n i (pair_gates op w) h in
    rw e (omega (arith, m, k, room))

pub fold-cost : (op : Op) (i w u old now new : ℕ) → u ≡ w → now ≤ old + i * pair_gates op w → new ≤ now + pair_gates op u → new ≤ old + (i + 1) * pair_gates op w
fold-cost op i w u old now new e k l =
    let m : new ≤ now + pair_gates op w = rw e at l in
    omega (arith, k, m)

-- the sort of an operator's value, by the law of sorts

pub value-sort : (op : Op) (v : ℕ → Bool) (list : List Signal) (s : Sort) → sort_of op (signal_sorts list) ≡ Is s → sort_of_value (op_value op (signal_values v list)) ≡ s
value-sort op v list s e = op_value-sort op (signal_values v list) s (ap (sort_of op) (sorts-are v list) ∙ e)

at-least-one : (n : ℕ) → 1 ≤ n → nat_le 1 n ≡ true
at-least-one n h = grind (arith, nat_tests)

many-sort : (w : ℕ) (ss : List Sort) → 1 ≤ length ss → list_all (same_sort (sorts.Bits w)) ss ≡ true → (if nat_le 1 (length ss) && list_all (same_sort (sorts.Bits w)) ss then Is (sorts.Bits w) else Mismatch) ≡ Is (sorts.Bits w)
many-sort w [] h e = absurd (omega arith)
many-sort w (s ∷ ss) h e = rw (at-least-one (length (s ∷ ss)) h, e) refl

folded-sort : (op : Op) (w : ℕ) (ss : List Sort) → is_folded op ≡ true → 1 ≤ length ss → list_all (same_sort (sorts.Bits w)) ss ≡ true → sort_of op (sorts.Bits w ∷ ss) ≡ Is (sorts.Bits w)
unfolding sort_of
folded-sort ops.BvAnd w ss f h e = many-sort w ss h e
folded-sort ops.BvOr w ss f h e = many-sort w ss h e
folded-sort ops.BvXor w ss f h e = many-sort w ss h e
folded-sort ops.BvAdd w ss f h e = many-sort w ss h e
folded-sort ops.BvMul w ss f h e = many-sort w ss h e
folded-sort _ w ss f h e = cc

pub many-value-sort : (op : Op) (v : ℕ → Bool) (first : Signal) (rest : List Signal) (w : ℕ) → signal_sort first ≡ sorts.Bits w → TakesMany op (signal_sort first ∷ signal_sorts rest) → 1 ≤ length rest → sorts.Bits w ≡ sort_of_value (op_value op (signal_values v (first ∷ rest)))
many-value-sort op v first rest w e takes h =
    let at : TakesMany op (sorts.Bits w ∷ signal_sorts rest) = subst (λ s. TakesMany op (s ∷ signal_sorts rest)) e takes in
    let parts = both (nat_eq at.width w) (list_all (same_sort (sorts.Bits at.width)) (signal_sorts rest)) at.same in
    let width = eqb-true at.width w parts.0 in
    let same : list_all (same_sort (sorts.Bits w)) (signal_sorts rest) ≡ true = subst (λ n. list_all (same_sort (sorts.Bits n)) (signal_sorts rest) ≡ true) width parts.1 in
    let sort = folded-sort op w (signal_sorts rest) at.folded (omega (arith, length-map rest signal_sort, h)) same in
    sym (value-sort op v (first ∷ rest) (sorts.Bits w) (ap (λ s. sort_of op (s ∷ signal_sorts rest)) e ∙ sort))

-- a step keeps the width
pub pair-value-sort : (op : Op) (u w n m x : ℕ) → is_folded op ≡ true → u ≡ w → sort_of_value (op_value op (Bits u n ∷ Bits m x ∷ [])) ≡ sorts.Bits w
unfolding op_value
pair-value-sort ops.BvAnd u w n m x f e = ap sorts.Bits e
pair-value-sort ops.BvOr u w n m x f e = ap sorts.Bits e
pair-value-sort ops.BvXor u w n m x f e = ap sorts.Bits e
pair-value-sort ops.BvAdd u w n m x f e = ap sorts.Bits e
pair-value-sort ops.BvMul u w n m x f e = ap sorts.Bits e
pair-value-sort _ u w n m x f e = absurd cc

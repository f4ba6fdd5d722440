-- The sums of operators on words that stand for sums.
use Rattle.std.proofs.Common.{◌≡◌, ℕ, Bool, ◌+◌, ◌-◌, ◌*◌, ◌%◌, ◌^◌, ◌≤◌, ◌<◌, cond, nat_le, false, List, [], ◌∷◌, length, get_or, arith, refl, ap, sym, subst, ◌∙◌}
use Rattle.sy_terms.specs.Values.{Bits, number}
use Rattle.sy_terms.specs.Operators.{op_value}
use Rattle.sy_terms.specs.Theories.{sort_of_value}
use Rattle.sy_terms.specs.declared.op.Op.{Op}
use Rattle.sy_terms.specs.declared.op.Op.TheVariants as ops
use Rattle.sy_terms.specs.declared.sort.Sort.TheVariants as sorts
use Rattle.sy_gates.specs.declared.gate.Bit.{Bit}
use Rattle.sy_gates.specs.Circuits.{Plan, variables, FollowsPlan, GrownCircuit, word_number, word_bound}
use Rattle.sy_gates.proofs.Words.{word_number-below, below_at}
use Rattle.sy_bits_sums.specs.declared.sum.Sum.{Sum}
use Rattle.sy_bits_sums.specs.Polynomials.{total, Agree}
use Rattle.sy_bits_operators.specs.declared.signal.Signal.{Signal}
use Rattle.sy_bits_operators.specs.declared.signal.Signal.TheVariants as signals
use Rattle.sy_bits_operators.specs.Signals.{signal_value, signal_values, signal_sort, signal_bound, sort_width}
use Rattle.sy_bits_words.specs.declared.known.Known.{Known}
use Rattle.sy_bits_words.specs.Standing.{AreNumbers, StandsFor, AllStand, IsSumOf, Serves}
use Rattle.std.proofs.Math.Nat.{mod-eq_of_lt}
use Rattle.std.proofs.lemmas.Option.{slice_get-get_or}
use Rattle.sy_bits_sums.proofs.Agreeing.{agree-same, agree-trans, agree-reduced}
use Rattle.sy_bits_words.proofs.Tables.{numbers_of, are-numbers}
use Rattle.sy_bits_words.proofs.Numbers.{sum-is, product-is, difference-is, negation-is, inversion-is, moved-is}

-- the value of a sum
abbrev value_of : (ℕ → ℕ) → Sum → ℕ
value_of values sum = total values sum.monomials.items

pub stands-at : (circuit : Plan) (list : List Known) (place : ℕ) (word : List Bit) (known : Known) → AllStand circuit list → place < length list → ((d : Known) → (get_or list place d).word ≡ word) → known ≡ get_or list place known → StandsFor circuit list word known.sum
stands-at circuit list place word known all h is at =
    let own : StandsFor circuit list (get_or list place known).word (get_or list place known).sum = all.each place (get_or list place known) (slice_get-get_or list place known h) in
    let mine : StandsFor circuit list known.word known.sum = subst (λ (k : Known). StandsFor circuit list k.word k.sum) (sym at) own in
    subst (λ xs. StandsFor circuit list xs known.sum) (ap (λ (k : Known). k.word) at ∙ is known) mine

-- the same of a place of a table that was shorter
pub kept-at : (old new : List Known) (place : ℕ) (word : List Bit) → ((i : ℕ) (d : Known) → i < length old → get_or new i d ≡ get_or old i d) → place < length old → ((d : Known) → (get_or old place d).word ≡ word) → (d : Known) → (get_or new place d).word ≡ word
kept-at old new place word keeps h is d = ap (λ (k : Known). k.word) (keeps place d h) ∙ is d

-- a word of the table that has the sum, and a constant's
pub found-stands : (circuit : Plan) (list : List Known) (place : ℕ) (known : Known) (word : List Bit) (sum : Sum) → AllStand circuit list → place < length list → known ≡ get_or list place known → word ≡ known.word → ((d : Known) → (get_or list place d).sum.width ≡ sum.width) → ((d : Known) (values : ℕ → ℕ) → value_of values (get_or list place d).sum ≡ value_of values sum) → StandsFor circuit list word sum
found-stands circuit list place known word sum all h at copied width value =
    let own : StandsFor circuit list (get_or list place known).word (get_or list place known).sum = all.each place (get_or list place known) (slice_get-get_or list place known h) in
    let same : word ≡ (get_or list place known).word = copied ∙ ap (λ (k : Known). k.word) at in
    let mine : StandsFor circuit list word (get_or list place known).sum = subst (λ xs. StandsFor circuit list xs (get_or list place known).sum) (sym same) own in
    record {
      width = mine.width ∙ width known;
      inside = mine.inside;
      value = λ v values f n. agree-trans (length word) (word_number v word) (value_of values (get_or list place known).sum) (value_of values sum) (mine.value v values f n) (agree-same (length word) (value_of values (get_or list place known).sum) (value_of values sum) (value known values));
    }

pub constant-stands : (circuit : Plan) (list : List Known) (word : List Bit) (sum : Sum) (n : ℕ) → length word ≡ sum.width → word_bound word ≡ 0 → ((v : ℕ → Bool) → word_number v word ≡ n % 2 ^ sum.width) → ((values : ℕ → ℕ) → value_of values sum ≡ n) → StandsFor circuit list word sum
constant-stands circuit list word sum n width bound number value = record {
  width = width;
  inside = omega (arith, bound);
  value = λ v values f m. agree-reduced (length word) (value_of values sum) (word_number v word) (number v ∙ ap (λ k. n % 2 ^ k) (sym width) ∙ ap (λ k. k % 2 ^ length word) (sym (value values)));
}

pub whole : (circuit : Plan) (list : List Known) (op : Op) (args : List Signal) (r : Sum) (w : ℕ) → w ≡ r.width → ((v : ℕ → Bool) → sort_of_value (op_value op (signal_values v args)) ≡ sorts.Bits w) → ((v : ℕ → Bool) (values : ℕ → ℕ) → FollowsPlan v circuit → AreNumbers v list values → op_value op (signal_values v args) ≡ Bits w (value_of values r % 2 ^ w)) → IsSumOf circuit list op args r
whole circuit list op args r w width sort value = record {
  sort = λ v. sort v ∙ ap sorts.Bits width;
  value = λ v values f n. value v values f n ∙ ap (λ k. Bits k (value_of values r % 2 ^ k)) width;
}

module _ (circuit : Plan) (list : List Known) (s t : List Bit) (a b r : Sum) (same : length t ≡ length s) (left : StandsFor circuit list s a) (right : StandsFor circuit list t b) (width : r.width ≡ length s) where
  second : (v : ℕ → Bool) (values : ℕ → ℕ) → FollowsPlan v circuit → AreNumbers v list values → Agree (length s) (word_number v t) (value_of values b)
  second v values f n = subst (λ k. Agree k (word_number v t) (value_of values b)) same (right.value v values f n)

  pub add-sum : ((values : ℕ → ℕ) → Agree (length s) (value_of values r) (value_of values a + value_of values b * 1)) → IsSumOf circuit list ops.BvAdd (signals.Vector s ∷ signals.Vector t ∷ []) r
  unfolding op_value
  add-sum is = whole circuit list ops.BvAdd (signals.Vector s ∷ signals.Vector t ∷ []) r (length s) (sym width) (λ v. refl)
      (λ v values f n. ap (Bits (length s)) (sum-is (length s) (word_number v s) (word_number v t) (value_of values a) (value_of values b) (value_of values r) (left.value v values f n) (second v values f n) (is values)))

  pub sub-sum : (ones : ℕ) → ones ≡ 2 ^ length s - 1 → ((values : ℕ → ℕ) → Agree (length s) (value_of values r) (value_of values a + value_of values b * ones)) → IsSumOf circuit list ops.BvSub (signals.Vector s ∷ signals.Vector t ∷ []) r
  unfolding op_value
  sub-sum ones most is = whole circuit list ops.BvSub (signals.Vector s ∷ signals.Vector t ∷ []) r (length s) (sym width) (λ v. refl)
      (λ v values f n. ap (Bits (length s)) (difference-is (length s) (word_number v s) (word_number v t) (value_of values a) (value_of values b) (value_of values r) ones (below_at v t (length s) same) most (left.value v values f n) (second v values f n) (is values)))

  pub mul-sum : ((values : ℕ → ℕ) → Agree (length s) (value_of values r) (value_of values a * value_of values b)) → IsSumOf circuit list ops.BvMul (signals.Vector s ∷ signals.Vector t ∷ []) r
  unfolding op_value
  mul-sum is = whole circuit list ops.BvMul (signals.Vector s ∷ signals.Vector t ∷ []) r (length s) (sym width) (λ v. refl)
      (λ v values f n. ap (Bits (length s)) (product-is (length s) (word_number v s) (word_number v t) (value_of values a) (value_of values b) (value_of values r) (left.value v values f n) (second v values f n) (is values)))

module _ (circuit : Plan) (list : List Known) (s : List Bit) (a z r : Sum) (stands : StandsFor circuit list s a) (width : r.width ≡ length s) where
  pub neg-sum : (ones : ℕ) → ones ≡ 2 ^ length s - 1 → ((values : ℕ → ℕ) → Agree (length s) (value_of values z) 0) → ((values : ℕ → ℕ) → Agree (length s) (value_of values r) (value_of values z + value_of values a * ones)) → IsSumOf circuit list ops.BvNeg (signals.Vector s ∷ []) r
  unfolding op_value
  neg-sum ones most zero is = whole circuit list ops.BvNeg (signals.Vector s ∷ []) r (length s) (sym width) (λ v. refl)
      (λ v values f n. ap (Bits (length s)) (negation-is (length s) (word_number v s) (value_of values z) (value_of values a) (value_of values r) ones (word_number-below v s) most (zero values) (stands.value v values f n) (is values)))

  pub not-sum : (ones : ℕ) → ones ≡ 2 ^ length s - 1 → ((values : ℕ → ℕ) → Agree (length s) (value_of values z) ones) → ((values : ℕ → ℕ) → Agree (length s) (value_of values r) (value_of values z + value_of values a * ones)) → IsSumOf circuit list ops.BvNot (signals.Vector s ∷ []) r
  unfolding op_value
  not-sum ones most full is = whole circuit list ops.BvNot (signals.Vector s ∷ []) r (length s) (sym width) (λ v. refl)
      (λ v values f n. ap (Bits (length s)) (inversion-is (length s) (word_number v s) (value_of values z) (value_of values a) (value_of values r) ones (word_number-below v s) most (full values) (stands.value v values f n) (is values)))

  pub shl-sum : (t : List Bit) (by factor : ℕ) → ((v : ℕ → Bool) → word_number v t ≡ by) → factor ≡ cond (nat_le (length s) by) 0 (2 ^ by) → ((values : ℕ → ℕ) → Agree (length s) (value_of values z) 0) → ((values : ℕ → ℕ) → Agree (length s) (value_of values r) (value_of values z + value_of values a * factor)) → IsSumOf circuit list ops.BvShl (signals.Vector s ∷ signals.Vector t ∷ []) r
  unfolding op_value
  shl-sum t by factor fixed factor-is zero is = whole circuit list ops.BvShl (signals.Vector s ∷ signals.Vector t ∷ []) r (length s) (sym width) (λ v. refl)
      (λ v values f n. ap (λ k. Bits (length s) (cond (nat_le (length s) k) 0 ((word_number v s * 2 ^ k) % 2 ^ length s))) (fixed v)
      ∙ ap (Bits (length s)) (moved-is (length s) (word_number v s) by (value_of values z) (value_of values a) (value_of values r) factor (nat_le (length s) by) factor-is (zero values) (stands.value v values f n) (is values)))

-- a word that stands for the sum is the operator's signal

pub serves : (circuit : Plan) (list : List Known) (op : Op) (args : List Signal) (sum : Sum) (word : List Bit) → IsSumOf circuit list op args sum → StandsFor circuit list word sum → Serves circuit op args (signals.Vector word)
serves circuit list op args sum word is stands = record {
  inside = stands.inside;
  sort = λ v. ap sorts.Bits stands.width ∙ sym (is.sort v);
  value = λ v f.
      let n = are-numbers v list in
      let t : ℕ = value_of (numbers_of v list) sum in
      let own : word_number v word ≡ t % 2 ^ length word = sym (mod-eq_of_lt (word_number-below v word)) ∙ (stands.value v (numbers_of v list) f n).is in
      ap (Bits (length word)) own ∙ ap (λ k. Bits k (t % 2 ^ k)) stands.width ∙ sym (is.value v (numbers_of v list) f n);
}

-- the operator's signal stands for the sum

pub made-stands : (old new : Plan) (list : List Known) (op : Op) (args : List Signal) (sum : Sum) (signal : Signal) → IsSumOf old list op args sum → GrownCircuit old new → signal_bound signal ≤ variables new → ((v : ℕ → Bool) → signal_sort signal ≡ sort_of_value (op_value op (signal_values v args))) → ((v : ℕ → Bool) → FollowsPlan v new → signal_value v signal ≡ op_value op (signal_values v args)) → (word : List Bit) → signal ≡ signals.Vector word → StandsFor new list word sum
made-stands old new list op args sum signal is grown inside sort value word same =
    let wide : length word ≡ sum.width = ap sort_width (ap signal_sort (sym same) ∙ sort (λ n. false) ∙ is.sort (λ n. false)) in
    record {
      width = wide;
      inside = subst (λ s. signal_bound s ≤ variables new) same inside;
      value = λ v values f n.
          let t : ℕ = value_of values sum in
          let own : word_number v word ≡ t % 2 ^ sum.width = ap number (ap (signal_value v) (sym same) ∙ value v f ∙ is.value v values (grown.keeps v f) n) in
          agree-reduced (length word) t (word_number v word) (own ∙ ap (λ k. t % 2 ^ k) (sym wide));
    }

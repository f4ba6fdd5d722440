-- A remainder stands for the dividend less the product of the quotient and the divisor.
use Rattle.std.proofs.Common.{◌≡◌, ◌≢◌, ℕ, Bool, true, false, cond, eqb, ◌+◌, ◌-◌, ◌*◌, ◌/◌, ◌%◌, ◌^◌, ◌≤◌, ◌<◌, List, [], ◌∷◌, length, slice_get, get_or, Some, arith, refl, ap, sym, subst, ◌∙◌, zero, suc, add_comm, div-add-mod'}
use Rattle.std.proofs.Math.Nat.{add-mod_right}
use Rattle.std.proofs.lemmas.Bool.{eqb-true}
use Rattle.std.proofs.lemmas.Nat.{pow_pos}
use Rattle.std.proofs.lemmas.Option.{slice_get_within, slice_get-get_or}
use Rattle.sy_terms.specs.Values.{number}
use Rattle.sy_terms.specs.Operators.{op_value}
use Rattle.sy_terms.specs.declared.op.Op.{Op}
use Rattle.sy_terms.specs.declared.op.Op.TheVariants as ops
use Rattle.sy_terms.specs.declared.sort.Sort.TheVariants as sorts
use Rattle.sy_meaning_words.specs.Vectors.{in_vectors, TakesSorts}
use Rattle.sy_gates.specs.declared.gate.Bit.{Bit}
use Rattle.sy_gates.specs.declared.quotient.Division.{Division}
use Rattle.sy_gates.specs.Arithmetic.{quotient_of, remainder_of}
use Rattle.sy_gates.specs.Circuits.{Plan, variables, FollowsPlan, GrownCircuit, word_number, word_bound}
use Rattle.sy_gates.proofs.Words.{below_at}
use Rattle.sy_bits_sums.specs.declared.sum.Sum.{Sum}
use Rattle.sy_bits_sums.specs.Polynomials.{total, Agree}
use Rattle.sy_bits_sums.proofs.Agreeing.{agree-same, agree-sym, agree-trans, agree-add, agree-reduced, multiple-less}
use Rattle.sy_bits_operators.specs.declared.signal.Signal.{Signal}
use Rattle.sy_bits_operators.specs.declared.signal.Signal.TheVariants as signals
use Rattle.sy_bits_operators.specs.Signals.{signal_sorts, sort_width, AllHaveSignals}
use Rattle.sy_bits_operators.proofs.Pairs.{udiv-is, urem-is}
use Rattle.sy_bits_operators.proofs.Shapes.{two}
use Rattle.sy_bits_operators.proofs.Taken.{pair_widths}
use Rattle.sy_bits_words.specs.declared.known.Known.{Known}
use Rattle.sy_bits_words.specs.Standing.{StandsFor, AllStand, IsSumOf, IsDivided, IsDifference, Serves}
use Rattle.sy_bits_words.proofs.Laws.{serves}
use Rattle.sy_bits_words.proofs.Joining.{taken-away, one-more}

-- the law, also where the divisor is 0

law-by : (w a b : ℕ) (none : Bool) → (none ≡ true → b ≡ 0) → cond none a (a % b) + cond none (2 ^ w - 1) (a / b) * b ≡ a
law-by w a b true is = let e : b ≡ 0 = is refl in rw e (omega arith)
law-by w a b false is = add_comm (a % b) (a / b * b) ∙ div-add-mod' a b

pub division-law : (w a b q r : ℕ) → q ≡ quotient_of w a b → r ≡ remainder_of a b → r + q * b ≡ a
division-law w a b q r e f = rw (e, f) (law-by w a b (eqb b 0) (eqb-true b 0))

-- the sum of an operator, in a table that has grown
pub sum-kept : (circuit : Plan) (old new : List Known) (op : Op) (args : List Signal) (sum : Sum) → length old ≤ length new → ((i : ℕ) (d : Known) → i < length old → get_or new i d ≡ get_or old i d) → IsSumOf circuit old op args sum → IsSumOf circuit new op args sum
sum-kept circuit old new op args sum longer kept is = record {
  sort = is.sort;
  value = λ v values f n. is.value v values f (record {
    at = λ place known e.
        let h : place < length old = slice_get_within old place known e in
        n.at place known (slice_get-get_or new place known (omega (arith, h, longer)) ∙ ap Some (kept place known h) ∙ sym (slice_get-get_or old place known h) ∙ e);
  });
}

-- the remainder

pub remainder-stands : (circuit : Plan) (list : List Known) (a b : List Bit) (division : Division) (dividend product difference : Sum) → IsDivided circuit a b division → StandsFor circuit list a dividend → IsSumOf circuit list ops.BvMul (signals.Vector division.quotient ∷ signals.Vector b ∷ []) product → difference.width ≡ length a → ((values : ℕ → ℕ) → Agree (length a) (total values difference.monomials.items + total values product.monomials.items) (total values dividend.monomials.items)) → StandsFor circuit list division.remainder difference
unfolding op_value
remainder-stands circuit list a b division dividend product difference is stands multiplied width value = record {
  width = is.remainder_width ∙ sym width;
  inside = is.remainder_inside;
  value = λ v values f n.
      let p : ℕ = word_number v division.quotient * word_number v b in
      let t : ℕ = total values product.monomials.items in
      let d : ℕ = total values difference.monomials.items in
      let same : length division.quotient ≡ length a = is.quotient_width in
      let wide : product.width ≡ length a = sym (ap sort_width (multiplied.sort v)) ∙ same in
      let law : word_number v division.remainder + p ≡ word_number v a = division-law (length a) (word_number v a) (word_number v b) (word_number v division.quotient) (word_number v division.remainder) (is.quotient v f) (is.remainder v f) in
      let own : p % 2 ^ length a ≡ t % 2 ^ length a = ap (λ k. p % 2 ^ k) (sym same) ∙ ap number (multiplied.value v values f n) ∙ ap (λ k. t % 2 ^ k) wide in
      let there : Agree (length a) t p = agree-sym (length a) p t (record { is = own }) in
      let less : Agree (length a) d (total values dividend.monomials.items + t * (2 ^ length a - 1)) = multiple-less (length a) (total values dividend.monomials.items) t d (2 ^ length a - 1) refl (value values) in
      let here : Agree (length a) d (word_number v division.remainder) = taken-away (length a) (word_number v division.remainder) p (word_number v a) (total values dividend.monomials.items) t d (2 ^ length a - 1) (one-more (length a) (2 ^ length a - 1) (pow_pos (length a)) refl) law (agree-sym (length a) (word_number v a) (total values dividend.monomials.items) (stands.value v values f n)) there less in
      rw is.remainder_width (agree-sym (length a) d (word_number v division.remainder) here);
}

-- two words whose difference is a sum

pub stands-there : (circuit : Plan) (list : List Known) (place : ℕ) (known : Known) (word : List Bit) → AllStand circuit list → place < length list → known ≡ get_or list place known → word ≡ known.word → StandsFor circuit list word known.sum
stands-there circuit list place known word all h at copied =
    let own : StandsFor circuit list known.word known.sum = subst (λ (k : Known). StandsFor circuit list k.word k.sum) (sym at) (all.each place (get_or list place known) (slice_get-get_or list place known h)) in
    subst (λ xs. StandsFor circuit list xs known.sum) (sym copied) own

pub difference-is : (circuit : Plan) (list : List Known) (first second : List Bit) (known total-sum sum : Sum) → StandsFor circuit list first total-sum → StandsFor circuit list second known → known.width ≡ sum.width → total-sum.width ≡ sum.width → ((values : ℕ → ℕ) → Agree sum.width (total values total-sum.monomials.items) (total values known.monomials.items + total values sum.monomials.items * 1)) → IsDifference circuit list first second sum
difference-is circuit list first second known more sum above below width wide value =
    let fits : length first ≡ sum.width = above.width ∙ wide in
    let alike : length second ≡ length first = below.width ∙ width ∙ sym fits in
    record {
      width = fits;
      same = alike;
      left = above.inside;
      right = below.inside;
      value = λ v values f n.
          let l : ℕ = word_number v second in
          let t : ℕ = total values sum.monomials.items in
          let k : ℕ = total values known.monomials.items in
          let m : ℕ = total values more.monomials.items in
          let one : l + t ≡ l + t * 1 = omega arith in
          let lower : Agree (length first) l k = subst (λ j. Agree j l k) alike (below.value v values f n) in
          let upper : Agree (length first) m (k + t * 1) = subst (λ j. Agree j m (k + t * 1)) (sym fits) (value values) in
          agree-trans (length first) (l + t) (l + t * 1) (word_number v first) (agree-same (length first) (l + t) (l + t * 1) one)
          (agree-trans (length first) (l + t * 1) (k + t * 1) (word_number v first) (agree-add (length first) l k (t * 1) (t * 1) lower (agree-same (length first) (t * 1) (t * 1) refl))
          (agree-trans (length first) (k + t * 1) m (word_number v first) (agree-sym (length first) m (k + t * 1) upper) (agree-sym (length first) (word_number v first) m (above.value v values f n))));
    }

less-second : (w first second t r : ℕ) → second < 2 ^ w → r ≡ (first + 2 ^ w - second) % 2 ^ w → Agree w (second + t) first → Agree w r t
less-second w first second t r h e f =
    let back : first + 2 ^ w - second ≡ first + (2 ^ w - second) = omega (arith, h) in
    let around : (second + t) + (2 ^ w - second) ≡ t + 2 ^ w = omega (arith, h) in
    agree-trans w r (first + (2 ^ w - second)) t (agree-reduced w (first + (2 ^ w - second)) r (e ∙ ap (λ n. n % 2 ^ w) back))
    (agree-trans w (first + (2 ^ w - second)) ((second + t) + (2 ^ w - second)) t (agree-sym w ((second + t) + (2 ^ w - second)) (first + (2 ^ w - second)) (agree-add w (second + t) first (2 ^ w - second) (2 ^ w - second) f (agree-same w (2 ^ w - second) (2 ^ w - second) refl)))
    (record { is = ap (λ n. n % 2 ^ w) around ∙ add-mod_right t (2 ^ w) }))

-- the word that the circuit of the difference has
pub difference-serves : (old new : Plan) (list : List Known) (op : Op) (args : List Signal) (first second word : List Bit) (sum : Sum) → IsSumOf old list op args sum → IsDifference old list first second sum → GrownCircuit old new → length word ≡ length first → word_bound word ≤ variables new → ((v : ℕ → Bool) → FollowsPlan v new → word_number v word ≡ (word_number v first + 2 ^ length first - word_number v second) % 2 ^ length first) → Serves new op args (signals.Vector word)
difference-serves old new list op args first second word sum is apart grown wide inside value =
    serves new list op args sum word
    (record { sort = is.sort; value = λ v values f n. is.value v values (grown.keeps v f) n })
    (record {
      width = wide ∙ apart.width;
      inside = inside;
      value = λ v values f n.
          let own : Agree (length first) (word_number v word) (total values sum.monomials.items) = less-second (length first) (word_number v first) (word_number v second) (total values sum.monomials.items) (word_number v word) (below_at v second (length first) apart.same) (value v f) (apart.value v values (grown.keeps v f) n) in
          subst (λ k. Agree k (word_number v word) (total values sum.monomials.items)) (sym wide) own;
    })

-- a difference takes fewer gates than a product
pub three-widths : (w : ℕ) → 0 < w → 3 * w ≤ 1 * (4 * (w * w))
three-widths zero h = absurd (omega (arith, h))
three-widths (suc n) h = omega arith

-- the signals of a quotient and of a remainder

pub both-words : (args : List Signal) (s t : Signal) (a b x y : List Bit) → args ≡ s ∷ t ∷ [] → s ≡ signals.Vector x → t ≡ signals.Vector y → a ≡ x → b ≡ y → args ≡ signals.Vector a ∷ signals.Vector b ∷ []
both-words args s t a b x y both first second left right = cc

width-of : (op : Op) (args : List Signal) (a b : List Bit) → in_vectors op ≡ true → op ≢ ops.Concat → args ≡ signals.Vector a ∷ signals.Vector b ∷ [] → TakesSorts op (signal_sorts args) → AllHaveSignals (signal_sorts args) → length b ≡ length a
width-of op args a b ours apart words takes all = sym (pair_widths op (length a) (length b) ours apart (two op args (signals.Vector a) (signals.Vector b) a b words refl refl takes all).takes)

pub quotient-width : (op : Op) (args : List Signal) (a b : List Bit) → op ≡ ops.BvUdiv → args ≡ signals.Vector a ∷ signals.Vector b ∷ [] → TakesSorts op (signal_sorts args) → AllHaveSignals (signal_sorts args) → length b ≡ length a
quotient-width op args a b e words takes all = width-of op args a b (rw e refl) (λ f. let g : ops.BvUdiv ≡ ops.Concat = sym e ∙ f in cc) words takes all

pub remainder-width : (op : Op) (args : List Signal) (a b : List Bit) → op ≡ ops.BvUrem → args ≡ signals.Vector a ∷ signals.Vector b ∷ [] → TakesSorts op (signal_sorts args) → AllHaveSignals (signal_sorts args) → length b ≡ length a
remainder-width op args a b e words takes all = width-of op args a b (rw e refl) (λ f. let g : ops.BvUrem ≡ ops.Concat = sym e ∙ f in cc) words takes all

module _ (circuit : Plan) (a b : List Bit) (division : Division) (args : List Signal) (words : args ≡ signals.Vector a ∷ signals.Vector b ∷ []) (is : IsDivided circuit a b division) where
  pub quotient-serves : Serves circuit ops.BvUdiv args (signals.Vector division.quotient)
  unfolding op_value
  quotient-serves = subst (λ xs. Serves circuit ops.BvUdiv xs (signals.Vector division.quotient)) (sym words) (record {
    inside = is.quotient_inside;
    sort = λ v. ap sorts.Bits is.quotient_width;
    value = λ v f. udiv-is v a b division.quotient is.quotient_width (is.quotient v f);
  })

  pub remainder-serves : Serves circuit ops.BvUrem args (signals.Vector division.remainder)
  unfolding op_value
  remainder-serves = subst (λ xs. Serves circuit ops.BvUrem xs (signals.Vector division.remainder)) (sym words) (record {
    inside = is.remainder_inside;
    sort = λ v. ap sorts.Bits is.remainder_width;
    value = λ v f. urem-is v a b division.remainder is.remainder_width (is.remainder v f);
  })

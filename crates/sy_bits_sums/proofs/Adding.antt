-- How the value of a sum changes.
use Rattle.std.proofs.Common.{◌≡◌, ℕ, ◌+◌, ◌*◌, ◌^◌, ◌<◌, ◌%◌, List, [], ◌∷◌, length, take, get_or, arith, refl, ap, sym, subst, ◌∙◌}
use Rattle.std.specs.List.{insert, remove}
use Rattle.std.proofs.lemmas.List.{get_or_read_under}
use Rattle.std.proofs.lemmas.List.Sums.{sum_by-insert, sum_by-remove, sum_by_more}
use Rattle.sy_bits_sums.specs.declared.monomial.Monomial.{Monomial}
use Rattle.sy_bits_sums.specs.Polynomials.{product, monomial_value, total, Agree}
use Rattle.sy_bits_sums.proofs.Agreeing.{agree-same, agree-sym, agree-trans, agree-reduced, agree-add, agree-mul}

pub has-factors : (ms : List Monomial) (place : ℕ) (m : Monomial) (fs gs : List ℕ) → m ≡ get_or ms place m → place < length ms → fs ≡ m.factors.items → fs ≡ gs → (d : Monomial) → (get_or ms place d).factors.items ≡ gs
has-factors ms place m fs gs at h is same d =
    ap (λ (x : Monomial). x.factors.items) (sym (get_or_read_under ms place (length ms) m d at h refl)) ∙ sym is ∙ same

-- a monomial whose factors another one has is put to it
pub joined : (w : ℕ) (values : ℕ → ℕ) (ms mid : List Monomial) (place : ℕ) (like : Monomial) (factors : List ℕ) (c k : ℕ) → place < length ms → like ≡ get_or ms place like → like.factors.items ≡ factors → mid ≡ remove ms place → k ≡ (like.coefficient + c) % 2 ^ w → Agree w (total values mid + k * product values factors) (total values ms + c * product values factors)
joined w values ms mid place like factors c k h at same is gives =
    let p : ℕ = product values factors in
    let l : ℕ = like.coefficient in
    let s : ℕ = total values mid in
    let whole : s + l * p ≡ total values ms =
    ap (λ n. n + l * p) (ap (total values) is)
    ∙ ap (λ fs. total values (remove ms place) + l * product values fs) (sym same)
    ∙ ap (λ (m : Monomial). total values (remove ms place) + monomial_value values m) at
    ∙ sum_by-remove (monomial_value values) ms place like h in
    let apart : s + (l + c) * p ≡ s + l * p + c * p = omega arith in
    agree-trans w (s + k * p) (s + (l + c) * p) (total values ms + c * p)
    (agree-add w s s (k * p) ((l + c) * p) (agree-same w s s refl) (agree-mul w k (l + c) p p (agree-reduced w (l + c) k gives) (agree-same w p p refl)))
    (agree-same w (s + (l + c) * p) (total values ms + c * p) (apart ∙ ap (λ n. n + c * p) whole))

pub put : (values : ℕ → ℕ) (mid after : List Monomial) (place : ℕ) (m : Monomial) → after ≡ insert mid place m → total values after ≡ total values mid + m.coefficient * product values m.factors.items
put values mid after place m is = ap (total values) is ∙ sum_by-insert (monomial_value values) mid place m

-- the next multiple is added
pub more : (w : ℕ) (values : ℕ → ℕ) (list : List Monomial) (i : ℕ) (x : Monomial) (old mid new b m : ℕ) → i < length list → x ≡ get_or list i x → Agree w mid (old + total values (take i list) * b) → Agree w m (monomial_value values x * b) → Agree w new (mid + m) → Agree w new (old + total values (take (i + 1) list) * b)
more w values list i x old mid new b m h at before one after =
    let s : ℕ = total values (take i list) in
    let y : ℕ = monomial_value values x in
    let e : (old + s * b) + y * b ≡ old + (s + y) * b = omega arith in
    let last : total values (take (i + 1) list) ≡ s + y = sum_by_more (monomial_value values) list i x h ∙ ap (λ (z : Monomial). s + monomial_value values z) (sym at) in
    agree-trans w new (mid + m) (old + total values (take (i + 1) list) * b) after
    (agree-trans w (mid + m) ((old + s * b) + y * b) (old + total values (take (i + 1) list) * b)
    (agree-add w mid (old + s * b) m (y * b) before one)
    (agree-same w ((old + s * b) + y * b) (old + total values (take (i + 1) list) * b) (e ∙ ap (λ n. old + n * b) (sym last))))

-- the next product is added
pub more-products : (w : ℕ) (values : ℕ → ℕ) (list : List Monomial) (i : ℕ) (x : Monomial) (a mid new : ℕ) → i < length list → x ≡ get_or list i x → Agree w mid (a * total values (take i list)) → Agree w new (mid + a * monomial_value values x) → Agree w new (a * total values (take (i + 1) list))
more-products w values list i x a mid new h at before after =
    let s : ℕ = total values (take i list) in
    let y : ℕ = monomial_value values x in
    let e : a * s + a * y ≡ a * (s + y) = omega arith in
    let last : total values (take (i + 1) list) ≡ s + y = sum_by_more (monomial_value values) list i x h ∙ ap (λ (z : Monomial). s + monomial_value values z) (sym at) in
    agree-trans w new (mid + a * y) (a * total values (take (i + 1) list)) after
    (agree-trans w (mid + a * y) (a * s + a * y) (a * total values (take (i + 1) list))
    (agree-add w mid (a * s) (a * y) (a * y) before (agree-same w (a * y) (a * y) refl))
    (agree-same w (a * s + a * y) (a * total values (take (i + 1) list)) (e ∙ ap (λ n. a * n) (sym last))))

-- one monomial alone
pub alone : (w u new old c q n : ℕ) → u ≡ w → Agree u new (old + c * q) → old ≡ 0 → c * q ≡ n → Agree w new n
alone w u new old c q n same e none is =
    let f : old + c * q ≡ n = rw none (omega (arith, is)) in
    subst (λ k. Agree k new n) same (agree-trans u new (old + c * q) n e (agree-same u (old + c * q) n f))

-- after a monomial was put, or was 0 and wasn't

pub kept : (w : ℕ) (values : ℕ → ℕ) (mid after : List Monomial) (place : ℕ) (m : Monomial) (sum : ℕ) → after ≡ insert mid place m → Agree w (total values mid + m.coefficient * product values m.factors.items) sum → Agree w (total values after) sum
kept w values mid after place m sum is e =
    agree-trans w (total values after) (total values mid + m.coefficient * product values m.factors.items) sum
    (agree-same w (total values after) (total values mid + m.coefficient * product values m.factors.items) (put values mid after place m is)) e

pub dropped : (w : ℕ) (values : ℕ → ℕ) (mid : List Monomial) (k p sum : ℕ) → k ≡ 0 → Agree w (total values mid + k * p) sum → Agree w (total values mid) sum
dropped w values mid k p sum none e =
    let same : total values mid ≡ total values mid + k * p = rw none (omega arith) in
    agree-trans w (total values mid) (total values mid + k * p) sum (agree-same w (total values mid) (total values mid + k * p) same) e

pub fixed-none : (values : ℕ → ℕ) (ms : List Monomial) → length ms ≡ 0 → total values ms ≡ 0
fixed-none values [] e = refl
fixed-none values (m ∷ ms) e = absurd (omega (arith, e))

no-factors : (values : ℕ → ℕ) (places : List ℕ) → length places ≡ 0 → product values places ≡ 1
no-factors values [] e = refl
no-factors values (place ∷ places) e = absurd (omega (arith, e))

pub fixed-one : (values : ℕ → ℕ) (ms : List Monomial) (m : Monomial) → length ms ≡ 1 → m ≡ get_or ms 0 m → length m.factors.items ≡ 0 → total values ms ≡ m.coefficient
fixed-one values [] m e at none = absurd (omega (arith, e))
fixed-one values (x ∷ []) m e at none =
    let g : 0 + x.coefficient * 1 ≡ x.coefficient = omega arith in
    ap (λ n. 0 + x.coefficient * n) (no-factors values x.factors.items (ap (λ (y : Monomial). length y.factors.items) (sym at) ∙ none)) ∙ g ∙ ap (λ (y : Monomial). y.coefficient) (sym at)
fixed-one values (x ∷ y ∷ ms) m e at none = absurd (omega (arith, e))

-- two lists, monomial by monomial
pub next-same : (values : ℕ → ℕ) (xs ys : List Monomial) (i : ℕ) (d e : Monomial) → i < length xs → i < length ys → total values (take i xs) ≡ total values (take i ys) → monomial_value values (get_or xs i d) ≡ monomial_value values (get_or ys i e) → total values (take (i + 1) xs) ≡ total values (take (i + 1) ys)
next-same values xs ys i d e h k before here =
    sum_by_more (monomial_value values) xs i d h
    ∙ ap (λ n. n + monomial_value values (get_or xs i d)) before
    ∙ ap (λ n. total values (take i ys) + n) here
    ∙ sym (sum_by_more (monomial_value values) ys i e k)

pub number-value : (values : ℕ → ℕ) (m : Monomial) (k : ℕ) → m.coefficient ≡ k → m.factors.items ≡ [] → monomial_value values m ≡ k
number-value values m k e f =
    let g : k * 1 ≡ k = omega arith in
    ap (λ n. n * product values m.factors.items) e ∙ ap (λ places. k * product values places) f ∙ g

-- a sum and a multiple of another one, put to nothing
pub two-sums : (w u x n0 n1 n2 a b m1 m2 k : ℕ) → u ≡ w → x ≡ u → Agree u n1 (n0 + a * m1) → Agree x n2 (n1 + b * m2) → n0 ≡ 0 → m1 ≡ 1 → m2 ≡ k → Agree w n2 (a + b * k)
two-sums w u x n0 n1 n2 a b m1 m2 k e f first second none one by =
    let here : Agree w n1 (n0 + a * m1) = subst (λ j. Agree j n1 (n0 + a * m1)) e first in
    let last : Agree w n2 (n1 + b * m2) = subst (λ j. Agree j n2 (n1 + b * m2)) (f ∙ e) second in
    let g : (n0 + a * m1) + b * m2 ≡ a + b * k = rw (none, one, by) (omega arith) in
    agree-trans w n2 (n1 + b * m2) (a + b * k) last
    (agree-trans w (n1 + b * m2) ((n0 + a * m1) + b * m2) (a + b * k)
    (agree-add w n1 (n0 + a * m1) (b * m2) (b * m2) here (agree-same w (b * m2) (b * m2) refl))
    (agree-same w ((n0 + a * m1) + b * m2) (a + b * k) g))

-- the next monomial stands on one of the sides
pub more-sides : (w : ℕ) (values : ℕ → ℕ) (list : List Monomial) (i : ℕ) (x : Monomial) (left right after-left after-right plus minus p q : ℕ) → i < length list → x ≡ get_or list i x → Agree w left (total values (take i list) + right) → Agree w p (1 + q) → Agree w plus (monomial_value values x * p) → Agree w minus (monomial_value values x * q) → Agree w after-left (left + plus) → Agree w after-right (right + minus) → Agree w after-left (total values (take (i + 1) list) + after-right)
more-sides w values list i x left right after-left after-right plus minus p q h at before signs on-left on-right to-left to-right =
    let s : ℕ = total values (take i list) in
    let y : ℕ = monomial_value values x in
    let last : s + y ≡ total values (take (i + 1) list) = sym (sum_by_more (monomial_value values) list i x h ∙ ap (λ (z : Monomial). s + monomial_value values z) (sym at)) in
    let e : (s + right) + y * (1 + q) ≡ (s + y) + (right + y * q) = omega arith in
    let added : Agree w (left + plus) ((s + right) + y * (1 + q)) =
    agree-add w left (s + right) plus (y * (1 + q)) before
    (agree-trans w plus (y * p) (y * (1 + q)) on-left (agree-mul w y y p (1 + q) (agree-same w y y refl) signs)) in
    let moved : Agree w (right + y * q) after-right =
    agree-sym w after-right (right + y * q)
    (agree-trans w after-right (right + minus) (right + y * q) to-right (agree-add w right right minus (y * q) (agree-same w right right refl) on-right)) in
    agree-trans w after-left (left + plus) (total values (take (i + 1) list) + after-right) to-left
    (agree-trans w (left + plus) ((s + right) + y * (1 + q)) (total values (take (i + 1) list) + after-right) added
    (agree-trans w ((s + right) + y * (1 + q)) ((s + y) + (right + y * q)) (total values (take (i + 1) list) + after-right)
    (agree-same w ((s + right) + y * (1 + q)) ((s + y) + (right + y * q)) e)
    (agree-add w (s + y) (total values (take (i + 1) list)) (right + y * q) after-right
    (agree-same w (s + y) (total values (take (i + 1) list)) last) moved)))

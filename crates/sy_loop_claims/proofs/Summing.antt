-- Sums of the largest sizes of grammars.
use Rattle.std.proofs.Common.{◌≡◌, ◌<◌, ◌≤◌, ◌+◌, ◌-◌, ◌++◌, ⊎_elim, refl, ap, sym, subst, ◌∙◌, ℕ, zero, suc, List, [], ◌∷◌, length, map, take, drop, get_or, arith}
use Rattle.std.proofs.lemmas.List.{take_more, take_all, map_push, map-append}
use Rattle.sy_terms.specs.Values.{Val}
use Rattle.sy_grammar_base.specs.Trees.{Syntax}
use Rattle.sy_grammar_base.specs.Grown.{syntax_from}
use Rattle.sy_grammar_base.specs.Questions.{Goal, goal_of, question_of}
use Rattle.sy_grammar_base.specs.declared.problem.Problem.{Problem}
use Rattle.sy_grammar_base.specs.declared.problem.Wanted.{Wanted}
use Rattle.sy_grammar_sizes.specs.Greatest.{IsSize, DerivesNothing, IsLargest, IsExceeded}
use Rattle.sy_loop_spec.specs.Sizes.{SumTo, AreAtMost}

largest_least : (syntax : Syntax) (pool : List Val) (m n : ℕ) → IsLargest syntax pool m → IsLargest syntax pool n → m ≤ n
largest_least syntax pool m n first second = ⊎_elim
    (λ (met : IsSize syntax pool 0 m). second.bounds m met)
    (λ (none : DerivesNothing syntax pool 0 × (m ≡ 0)). omega (arith, none.1))
    first.met

largest_once : (syntax : Syntax) (pool : List Val) (m n : ℕ) → IsLargest syntax pool m → IsLargest syntax pool n → m ≡ n
largest_once syntax pool m n first second = omega (arith, largest_least syntax pool m n first second, largest_least syntax pool n m second first)

-- one grammar more
pub sum_push : (pool : List Val) (goals : List Goal) (goal : Goal) (total size : ℕ) → SumTo pool goals total → IsLargest goal.grammar pool size → SumTo pool (goals ++ goal ∷ []) (total + size)
sum_push pool [] goal total size sum largest = (size, 0, largest, refl, omega (arith, sum))
sum_push pool (g ∷ goals) goal total size sum largest = (sum.0, sum.1 + size, sum.2, sum_push pool goals goal sum.1 size sum.3 largest, omega (arith, sum.4))

-- a grammar whose sizes exceed what the others leave
pub sum_exceeds : (pool : List Val) (goals : List Goal) (goal : Goal) (others : List Goal) (cap total all size : ℕ) → SumTo pool goals total → IsExceeded goal.grammar pool cap → size ≤ total + cap → SumTo pool (goals ++ goal ∷ others) all → all ≤ size → ⊥
sum_exceeds pool [] goal others cap total all size sum exceeded split whole small =
    omega (arith, sum, split, small, whole.4, exceeded.1, whole.2.bounds exceeded.0 exceeded.2)
sum_exceeds pool (g ∷ goals) goal others cap total all size sum exceeded split whole small =
    let same = largest_once g.grammar pool sum.0 whole.0 sum.2 whole.2 in
    sum_exceeds pool goals goal others cap sum.1 whole.1 (size - sum.0) sum.3 exceeded (omega (arith, split, sum.4)) whole.3 (omega (arith, small, whole.4, same))

-- what the first of the grammars leave of a size
pub record Summed {T N : Type 0} (number : N → Val) (pool : List Val) (wanted : List (Wanted T N)) (index size left : ℕ) : Type 0 where
  pub total : ℕ
  pub sum : SumTo pool (map (goal_of number) (take index wanted)) total
  pub split : total + left ≡ size

pub summed_start : {T N : Type 0} (number : N → Val) (pool : List Val) (wanted : List (Wanted T N)) (size : ℕ) → Summed number pool wanted 0 size size
summed_start number pool wanted size = record { total = 0; sum = refl; split = omega arith }

pub summed_more : {T N : Type 0} (number : N → Val) (pool : List Val) (wanted : List (Wanted T N)) (index size left left' own : ℕ) (w : Wanted T N) → Summed number pool wanted index size left → index < length wanted → w ≡ get_or wanted index w →
    IsLargest (syntax_from number w.grammar) pool own → own ≤ left → left' + own ≡ left → Summed number pool wanted (index + 1) size left'
summed_more number pool wanted index size left left' own w summed within at largest small less = record {
  total = summed.total + own;
  sum = rw (take_more wanted index w within, ← at, map_push (goal_of number) (take index wanted) w) (sum_push pool (map (goal_of number) (take index wanted)) (goal_of number w) summed.total own summed.sum largest);
  split = omega (arith, summed.split, less, small);
}

pub summed_all : {T N : Type 0} (number : N → Val) (problem : Problem T N) (index size left : ℕ) → Summed number (question_of number problem).pool problem.wanted index size left → length problem.wanted ≤ index → AreAtMost (question_of number problem) size
summed_all number problem index size left summed done =
    (summed.total, rw (take_all index problem.wanted done) at summed.sum, omega (arith, summed.split))

split_at : {X : Type 0} (xs : List X) (k : ℕ) (x : X) → k < length xs → x ≡ get_or xs k x → take k xs ++ x ∷ drop (suc k) xs ≡ xs
split_at [] k x within at = absurd (omega (arith, within))
split_at {X} (y ∷ xs) zero x within at = ap (λ (z : X). z ∷ xs) at
split_at {X} (y ∷ xs) (suc k) x within at = ap (λ (rest : List X). y ∷ rest) (split_at xs k x (omega (arith, within)) at)

pub summed_exceeds : {T N : Type 0} (number : N → Val) (problem : Problem T N) (index size left : ℕ) (w : Wanted T N) → Summed number (question_of number problem).pool problem.wanted index size left → index < length problem.wanted → w ≡ get_or problem.wanted index w →
    IsExceeded (syntax_from number w.grammar) (question_of number problem).pool left → AreAtMost (question_of number problem) size → ⊥
summed_exceeds {T} {N} number problem index size left w summed within at exceeded all =
    let pool = (question_of number problem).pool in
    let whole : map (goal_of number) problem.wanted ≡ map (goal_of number) (take index problem.wanted) ++ goal_of number w ∷ map (goal_of number) (drop (suc index) problem.wanted) =
    ap (map (goal_of number)) (sym (split_at problem.wanted index w within at)) ∙ map-append (goal_of number) (take index problem.wanted) (w ∷ drop (suc index) problem.wanted) in
    sum_exceeds pool (map (goal_of number) (take index problem.wanted)) (goal_of number w) (map (goal_of number) (drop (suc index) problem.wanted)) left summed.total all.0 size summed.sum exceeded (omega (arith, summed.split))
    (subst (λ goals. SumTo pool goals all.0) whole all.1) all.2

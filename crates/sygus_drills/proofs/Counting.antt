-- Counting items of mapped lists, and constraints that are met.
use Rattle.std.proofs.Common.{◌≡◌, ◌<◌, ◌≤◌, ◌+◌, refl, ap, sym, subst, ◌∙◌, ℕ, zero, suc, Bool, true, false, List, [], ◌∷◌, length, map, take, get_or, arith}
use Rattle.std.specs.List.{All, count_by}
use Rattle.std.proofs.lemmas.List.{length-map, take_all}
use Rattle.std.proofs.lemmas.List.Elements.{All-nil, All-weaker, All-get_or}
use Rattle.std.proofs.lemmas.List.Sums.{count_by_more_no, count_by_more_yes}
use Rattle.sy_terms.specs.Expr.{Expr, Constant}
use Rattle.sy_terms.specs.Values.{Truth, truth}
use Rattle.sy_grammar_base.specs.Questions.{Question}
use Rattle.sy_grammar_base.specs.Solving.{AreValues, IsTrueUnder, Solves}
use Rattle.sygus_drills.specs.Counts.{is_met, met_count}

at_mapped : {A B : Type 0} (f : A → B) (xs : List A) (k : ℕ) (x : A) → x ≡ get_or xs k x → f x ≡ get_or (map f xs) k (f x)
at_mapped f [] k x at = refl
at_mapped f (y ∷ ys) zero x at = ap f at
at_mapped f (y ∷ ys) (suc k) x at = at_mapped f ys k x at

module _ {A B : Type 0} (p : B → Bool) (f : A → B) (xs : List A) (k : ℕ) where
  pub counted_yes : (x : A) (count : ℕ) → k < length xs → x ≡ get_or xs k x → count ≡ count_by p (take k (map f xs)) → p (f x) ≡ true → count + 1 ≡ count_by p (take (k + 1) (map f xs))
  counted_yes x count lt at is holds =
      let within : k < length (map f xs) = omega (arith, lt, length-map xs f) in
      let here : p (get_or (map f xs) k (f x)) ≡ true = subst (λ y. p y ≡ true) (at_mapped f xs k x at) holds in
      let next = count_by_more_yes p (map f xs) k (f x) within here in
      omega (arith, is, next)

  pub counted_no : (x : A) (count : ℕ) → k < length xs → x ≡ get_or xs k x → count ≡ count_by p (take k (map f xs)) → p (f x) ≡ false → count ≡ count_by p (take (k + 1) (map f xs))
  counted_no x count lt at is fails =
      let within : k < length (map f xs) = omega (arith, lt, length-map xs f) in
      let here : p (get_or (map f xs) k (f x)) ≡ false = subst (λ y. p y ≡ false) (at_mapped f xs k x at) fails in
      is ∙ sym (count_by_more_no p (map f xs) k (f x) within here)

  pub counted_all : (count : ℕ) → length xs ≤ k → count ≡ count_by p (take k (map f xs)) → count ≡ count_by p (map f xs)
  counted_all count done is =
      let within : length (map f xs) ≤ k = omega (arith, done, length-map xs f) in
      is ∙ ap (count_by p) (take_all k (map f xs) within)

counted_upto : {A : Type 0} (p : A → Bool) (other : A) (xs : List A) → All (λ x. p x ≡ true) xs → (k : ℕ) → k ≤ length xs → count_by p (take k xs) ≡ k
counted_upto p other xs all zero le = refl
counted_upto p other xs all (suc k) le =
    let lt : k < length xs = omega (arith, le) in
    let next = count_by_more_yes p xs k other lt (All-get_or (λ x. p x ≡ true) xs k other lt all) in
    let rest = counted_upto p other xs all k (omega (arith, le)) in
    let same : suc k ≡ k + 1 = omega arith in
    rw same (omega (arith, next, rest))

all_counted : (p : Expr → Bool) (xs : List Expr) → All (λ x. p x ≡ true) xs → count_by p xs ≡ length xs
all_counted p xs all = ap (count_by p) (sym (take_all (length xs) xs (omega arith))) ∙ counted_upto p (Constant (Truth true)) xs all (length xs) (omega arith)

-- bodies that solve a problem without variables and assumptions meet each constraint
pub all_met : (question : Question) (bodies : List Expr) → question.variables ≡ [] → question.assumptions ≡ [] → Solves question bodies → met_count question bodies ≡ length question.constraints
all_met question bodies closed unassumed solves =
    let values : AreValues question.variables [] = record { sorted = sym closed; valid = All-nil _ } in
    let assumed : All (IsTrueUnder question bodies []) question.assumptions = rw unassumed (All-nil (IsTrueUnder question bodies [])) in
    all_counted (is_met question bodies) question.constraints
    (All-weaker (IsTrueUnder question bodies []) (λ term. is_met question bodies term ≡ true) (λ term is. ap truth is) question.constraints (solves [] values assumed))

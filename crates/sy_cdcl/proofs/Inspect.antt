-- A clause's literals, looked at one after another.
use Rattle.std.proofs.Common.{◌≡◌, ℕ, Bool, true, false, ◌||◌, not, List, [], ◌∷◌, suc, refl, sym, ap, subst, arith, ◌≤◌, ◌∙◌, take, get_or, ◌<◌, length, ◌+◌, Some, None, inl, inr, ⊎_elim, ◌⊎◌}
use Rattle.std.specs.Prelude.{slice_get}
use Rattle.std.proofs.lemmas.Option.{slice_get_within}
use Rattle.sy_clauses.specs.declared.Lit.{Lit}
use Rattle.sy_clauses.specs.Clauses.{Clause, literals, same_literal}
use Rattle.sy_clauses.specs.New.{Partial, IsUnit, IsFalse}
use Rattle.sy_clauses.proofs.Sets.{literals_more, literals_found, literal_is, same_self}
use Rattle.sy_cdcl_literals.specs.Suiting.{IsFalseBut}
use Rattle.sy_cdcl.specs.Visits.{IsOnly}
use Rattle.sy_cdcl_literals.proofs.Literals.{at_literal}
use Rattle.sy_cdcl.proofs.Push.{some_is}

or_cases : (a b : Bool) → (a || b) ≡ true → (a ≡ true) ⊎ (b ≡ true)
or_cases true b h = inl refl
or_cases false b h = inr h

-- a literal of the first ones and one more is among the first ones, or is the one
pub in_more : (ls : List Lit) (i : ℕ) (d : Lit) (v : ℕ) (s : Bool) → i < length ls → literals (take (i + 1) ls) v s ≡ true →
    (literals (take i ls) v s ≡ true) ⊎ (same_literal (get_or ls i d).var (get_or ls i d).positive v s ≡ true)
in_more ls i d v s h e =
    or_cases (literals (take i ls) v s) (same_literal (get_or ls i d).var (get_or ls i d).positive v s)
    (sym (literals_more ls i d v s h) ∙ e)

-- a literal of the clause stands in it
pub found_at : (ls : List Lit) (i : ℕ) (d : Lit) → i < length ls → literals ls (get_or ls i d).var (get_or ls i d).positive ≡ true
found_at ls i d h = literals_found ls i d (get_or ls i d).var (get_or ls i d).positive h (same_self (get_or ls i d).var (get_or ls i d).positive)

-- the only literal once more
pub only_more : (ls : List Lit) (i : ℕ) (d l : Lit) → i < length ls → IsOnly (literals (take i ls)) l →
    same_literal l.var l.positive (get_or ls i d).var (get_or ls i d).positive ≡ true → IsOnly (literals (take (i + 1) ls)) l
only_more ls i d l h f e v s m =
    ⊎_elim (λ a. f v s a)
    (λ b. (let q = literal_is (get_or ls i d).var (get_or ls i d).positive v s b in
    let x : same_literal l.var l.positive v s ≡ true = rw (q.0, q.1) e in x))
    (in_more ls i d v s h m)

-- a clause with one literal, which has no value, is unit
pub only_unit : (values : Partial) (c : Clause) (l : Lit) → c l.var l.positive ≡ true → IsOnly c l → values l.var ≡ None →
    IsUnit values c l.var l.positive
only_unit values c l has only none = record {
  has = has;
  unvalued = none;
  others = λ v s h n. absurd (let z : true ≡ false = sym (only v s h) ∙ n in cc);
}

-- and false, where it is false
pub only_false : (values : Partial) (c : Clause) (l : Lit) → IsOnly c l → values l.var ≡ Some (not l.positive) → IsFalse values c
only_false values c l only f v s h = at_literal values l v s (only v s h) f

-- a literal of a clause stands at a place
record Standing (ls : List Lit) (v : ℕ) (s : Bool) : Type 0 where
  place : ℕ
  literal : Lit
  at : slice_get ls place ≡ Some literal
  same : same_literal literal.var literal.positive v s ≡ true

standing : (ls : List Lit) (v : ℕ) (s : Bool) → literals ls v s ≡ true → Standing ls v s
standing [] v s h = cc
standing (l ∷ ls) v s h =
    ⊎_elim (λ (a : same_literal l.var l.positive v s ≡ true). record { place = 0; literal = l; at = refl; same = a })
    (λ (b : literals ls v s ≡ true).
    let r = standing ls v s b in record { place = suc r.place; literal = r.literal; at = r.at; same = r.same })
    (or_cases (same_literal l.var l.positive v s) (literals ls v s) h)

-- a place that a search has passed, which began at `start`, went round, and has made so many steps
abbrev Passed : ℕ → ℕ → ℕ → ℕ → Type 0
Passed start steps all place = ((start ≤ place) × (place < start + steps)) ⊎ (place + all < start + steps)

-- the literals that a search has passed are false but, perhaps, this one
abbrev pub AreFalseRound : Partial → List Lit → ℕ → ℕ → Lit → Type 0
AreFalseRound values ls start steps other = (k : ℕ) (l : Lit) → Passed start steps (length ls) k → slice_get ls k ≡ Some l →
    same_literal other.var other.positive l.var l.positive ≡ false → values l.var ≡ Some (not l.positive)

-- the place that a search has reached
pub record IsReached (all start steps place : ℕ) : Type 0 where
  pub at : (place ≡ start + steps) ⊎ (place + all ≡ start + steps)
  pub began : 0 < all → start < all
  pub within : 0 < all → place < all

pub reached_first : (all start : ℕ) → (0 < all → start < all) → IsReached all start 0 start
reached_first all start h = record { at = inl (omega arith); began = h; within = h }

-- no step was made
pub round_first : (values : Partial) (ls : List Lit) (start : ℕ) (other : Lit) → (0 < length ls → start < length ls) →
    AreFalseRound values ls start 0 other
round_first values ls start other h k l p at =
    ⊎_elim (λ (a : (start ≤ k) × (k < start + 0)). absurd (omega (arith, a.0, a.1)))
    (λ (b : k + length ls < start + 0).
    let w = slice_get_within ls k l at in
    let began = h (omega (arith, w)) in absurd (omega (arith, b, began)))
    p

split_at : (k p : ℕ) → k < p + 1 → (k < p) ⊎ (k ≡ p)
split_at k p h = grind arith

-- what was passed one step later was passed before, or is the place that was reached
passed_more : (start steps all place k : ℕ) → IsReached all start steps place → k < all → Passed start (steps + 1) all k →
    Passed start steps all k ⊎ (k ≡ place)
passed_more start steps all place k r w (inl a) =
    ⊎_elim (λ (x : k < start + steps). inl (inl (a.0, x)))
    (λ (x : k ≡ start + steps).
    ⊎_elim (λ (y : place ≡ start + steps). inr (x ∙ sym y)) (λ (y : place + all ≡ start + steps). absurd (omega (arith, w, x, y))) r.at)
    (split_at k (start + steps) (omega (arith, a.1)))
passed_more start steps all place k r w (inr b) =
    ⊎_elim (λ (x : k + all < start + steps). inl (inr x))
    (λ (x : k + all ≡ start + steps).
    ⊎_elim (λ (y : place ≡ start + steps). absurd (let z = r.within (omega (arith, w)) in omega (arith, x, y, z)))
    (λ (y : place + all ≡ start + steps). inr (omega (arith, x, y))) r.at)
    (split_at (k + all) (start + steps) (omega (arith, b)))

-- one false literal more, or the other one
pub round_more : (values : Partial) (ls : List Lit) (start steps place : ℕ) (l other : Lit) → AreFalseRound values ls start steps other →
    IsReached (length ls) start steps place → slice_get ls place ≡ Some l →
    (same_literal other.var other.positive l.var l.positive ≡ false → values l.var ≡ Some (not l.positive)) →
    AreFalseRound values ls start (steps + 1) other
round_more values ls start steps place l other f r at here k m p g n =
    ⊎_elim (λ (a : Passed start steps (length ls) k). f k m a g n)
    (λ (b : k ≡ place).
    let same : l ≡ m = some_is (sym at ∙ ap (slice_get ls) (sym b) ∙ g) in
    subst (λ (x : Lit). values x.var ≡ Some (not x.positive)) same
    (here (subst (λ (x : Lit). same_literal other.var other.positive x.var x.positive ≡ false) (sym same) n)))
    (passed_more start steps (length ls) place k r (slice_get_within ls k m g) p)

-- the next place
pub reached_next : (all start steps place : ℕ) → IsReached all start steps place → place + 1 < all → IsReached all start (steps + 1) (place + 1)
reached_next all start steps place r a = record {
  at = ⊎_elim (λ (x : place ≡ start + steps). inl (omega (arith, x))) (λ (x : place + all ≡ start + steps). inr (omega (arith, x))) r.at;
  began = r.began;
  within = λ h. a;
}

-- the first place again
pub reached_again : (all start steps place : ℕ) → steps < all → IsReached all start steps place → all ≤ place + 1 → IsReached all start (steps + 1) 0
reached_again all start steps place s r a =
    let inside = r.within (omega (arith, s)) in
    let began = r.began (omega (arith, s)) in
    record {
      at = ⊎_elim (λ (x : place ≡ start + steps). inr (omega (arith, x, a, inside)))
          (λ (x : place + all ≡ start + steps). absurd (omega (arith, x, a, began, s)))
          r.at;
      began = r.began;
      within = λ h. h;
    }

-- all literals were passed
pub round_all : (values : Partial) (ls : List Lit) (start : ℕ) (other : Lit) → AreFalseRound values ls start (length ls) other →
    IsFalseBut values (literals ls) other
round_all values ls start other f v s h n =
    let r = standing ls v s h in
    let q = literal_is r.literal.var r.literal.positive v s r.same in
    let w = slice_get_within ls r.place r.literal r.at in
    let apart : same_literal other.var other.positive r.literal.var r.literal.positive ≡ false = rw (sym q.0, sym q.1) n in
    at_literal values r.literal v s r.same
    (f r.place r.literal
    (⊎_elim (λ (a : start ≤ r.place). inl (a, omega (arith, w))) (λ (b : r.place < start). inr (omega (arith, b))) (split start r.place))
    r.at apart)
  where
    split : (m p : ℕ) → (m ≤ p) ⊎ (p < m)
    split m p = grind arith

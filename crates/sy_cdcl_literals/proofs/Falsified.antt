-- Entries that make a literal of a clause false, from the last one down.
use Rattle.std.proofs.Common.{◌≡◌, ℕ, true, false, not, List, arith, sym, subst, ◌∙◌, ◌<◌, ◌≤◌, ◌+◌, Some, None, ⊎_elim, ◌⊎◌}
use Rattle.std.specs.Prelude.{slice_get}
use Rattle.std.proofs.lemmas.Option.{same_Some}
use Rattle.sy_clauses.specs.Clauses.{Clause}
use Rattle.sy_cdcl_literals.specs.declared.entries.Entry.{Entry}
use Rattle.sy_cdcl_literals.specs.Falsified.{SomeFalsified, NoneFalsified}

-- what isn't there has no value
pub missing : {A X : Type 0} (xs : List A) (n : ℕ) (x : A) → slice_get xs n ≡ None → slice_get xs n ≡ Some x → X
missing xs n x gone at = cc

-- the entry at a place does
pub some_at : (es : List Entry) (start end p : ℕ) (e : Entry) (c : Clause) → start ≤ p → p < end → slice_get es p ≡ Some e →
    c e.literal.var (not e.literal.positive) ≡ true → SomeFalsified es start end c
some_at es start end p e c from to at hit = record { place = p; entry = e; from = from; to = to; at = at; hit = hit }

-- no place, and so none does
pub none_first : (es : List Entry) (end : ℕ) (c : Clause) → NoneFalsified es end end c
none_first es end c q x from to at = absurd (omega arith)

-- one place more, which doesn't
pub none_more : (es : List Entry) (p from end : ℕ) (e : Entry) (c : Clause) → from ≡ p + 1 → slice_get es p ≡ Some e →
    c e.literal.var (not e.literal.positive) ≡ false → NoneFalsified es from end c → NoneFalsified es p end c
none_more es p from end e c next at hit none q x low high got =
    ⊎_elim
    (λ (later : p < q). none q x (omega arith) high got)
    (λ (same : q ≤ p).
    let place : q ≡ p = omega arith in
    let here : slice_get es p ≡ Some x = subst (λ (n : ℕ). slice_get es n ≡ Some x) place got in
    subst (λ (y : Entry). c y.literal.var (not y.literal.positive) ≡ false) (same_Some e x (sym at ∙ here)) hit)
    (split p q)
  where
    split : (p q : ℕ) → (p < q) ⊎ (q ≤ p)
    split p q = grind arith

-- what holds of more places holds of fewer
pub none_within : (es : List Entry) (low start end : ℕ) (c : Clause) → low ≤ start → NoneFalsified es low end c → NoneFalsified es start end c
none_within es low start end c below none q x from to at = none q x (omega arith) to at

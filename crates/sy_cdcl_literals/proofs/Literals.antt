-- A clause whose literals are false.
use Rattle.std.proofs.Common.{◌≡◌, ℕ, Bool, true, false, not, refl, Some, inl, inr, ⊎_elim, ◌⊎◌}
use Rattle.sy_clauses.specs.declared.Lit.{Lit}
use Rattle.sy_clauses.specs.Clauses.{Clause, same_literal}
use Rattle.sy_clauses.specs.New.{Partial, IsFalse}
use Rattle.sy_clauses.proofs.Sets.{literal_is}
use Rattle.sy_cdcl_literals.specs.Suiting.{IsFalseBut}

-- a false literal has a false value wherever it is
pub at_literal : (values : Partial) (x : Lit) (v : ℕ) (s : Bool) → same_literal x.var x.positive v s ≡ true →
    values x.var ≡ Some (not x.positive) → values v ≡ Some (not s)
at_literal values x v s h e = let q = literal_is x.var x.positive v s h in rw (q.0, q.1) e

-- where the one that may not be false is, all are
pub all_false : (values : Partial) (c : Clause) (l : Lit) → IsFalseBut values c l → values l.var ≡ Some (not l.positive) → IsFalse values c
all_false values c l but e v s h =
    ⊎_elim (λ (a : same_literal l.var l.positive v s ≡ true). at_literal values l v s a e)
    (λ (b : same_literal l.var l.positive v s ≡ false). but v s h b)
    (either (same_literal l.var l.positive v s))
  where
    either : (b : Bool) → (b ≡ true) ⊎ (b ≡ false)
    either true = inl refl
    either false = inr refl

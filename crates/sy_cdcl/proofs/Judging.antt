-- What becomes of a clause by its number, from what becomes of it by its literals.
use Rattle.std.proofs.Common.{◌≡◌, ℕ, true, List, Option, Some, None, sym, subst, ◌∙◌, ◌⊎◌, inr, ⊎_elim}
use Rattle.std.specs.Prelude.{slice_get}
use Rattle.sy_clauses.specs.declared.Lit.{Lit}
use Rattle.sy_clauses.specs.Clauses.{Clause}
use Rattle.sy_clauses.specs.New.{Partial, HasTrue}
use Rattle.sy_cdcl.specs.declared.trail.Trail.{Trail}
use Rattle.sy_cdcl_literals.specs.declared.outcomes.Pair.{Pair}
use Rattle.sy_cdcl_literals.specs.declared.outcomes.Outcome.{Outcome}
use Rattle.sy_cdcl_literals.specs.declared.outcomes.Outcome.TheVariants.{Stay, Move, Force, Conflict}
use Rattle.sy_cdcl.specs.Watching.{IsWatched, IsGuarded, AllWatched, pair_of}
use Rattle.sy_cdcl_literals.specs.Suiting.{IsOther, Suits}
use Rattle.sy_cdcl.specs.Visits.{StaysWatched, SuitsAt}
use Rattle.sy_cdcl.proofs.Push.{some_is}

-- the clause with a pair is guarded by it
pub guarded_by : (clauses : List Clause) (t : Trail) (head : ℕ) (pairs : List (Option Pair)) (n : ℕ) (c : Clause) (pair : Pair) →
    AllWatched clauses t head pairs → slice_get clauses n ≡ Some c → pair_of pairs n ≡ Some pair →
    IsGuarded t.entries.items t.starts.items head c pair
guarded_by clauses t head pairs n c pair all at had =
    subst (λ (o : Option Pair). IsWatched t.entries.items t.starts.items head c o) had (all n c at)

-- each of the pair is in the clause
pub pair_within : (clauses : List Clause) (t : Trail) (head : ℕ) (pairs : List (Option Pair)) (n : ℕ) (c : Clause) (pair : Pair) (other : Lit) →
    AllWatched clauses t head pairs → slice_get clauses n ≡ Some c → pair_of pairs n ≡ Some pair →
    (other ≡ pair.first) ⊎ (other ≡ pair.second) → c other.var other.positive ≡ true
pair_within clauses t head pairs n c pair other all at had one =
    let w = guarded_by clauses t head pairs n c pair all at had in
    ⊎_elim (λ (q : other ≡ pair.first). subst (λ (l : Lit). c l.var l.positive ≡ true) (sym q) w.has_first)
    (λ (q : other ≡ pair.second). subst (λ (l : Lit). c l.var l.positive ≡ true) (sym q) w.has_second)
    one

pub suits_at : (clauses : List Clause) (values : Partial) (pairs : List (Option Pair)) (l other : Lit) (n : ℕ) (c : Clause) (pair : Pair) (o : Outcome) →
    slice_get clauses n ≡ Some c → pair_of pairs n ≡ Some pair → StaysWatched pair l other → c other.var other.positive ≡ true →
    Suits values c other o → SuitsAt clauses values pairs l n o
suits_at clauses values pairs l other n c pair Stay at had stays has s =
    λ d p here g. inr (subst (λ (x : Clause). HasTrue values x) (some_is (sym at ∙ here))
    record { var = other.var; positive = other.positive; has = has; is_true = s })
suits_at clauses values pairs l other n c pair (Move new place) at had stays has s = record {
  clause = c;
  at = at;
  old = pair;
  had = had;
  stays = subst (λ (x : Lit). StaysWatched pair l x) (sym s.0) stays;
  other = subst (λ (x : Lit). IsOther values c x new.second) (sym s.0) s.1;
}
suits_at clauses values pairs l other n c pair (Force forced) at had stays has s = record { clause = c; at = at; unit = s }
suits_at clauses values pairs l other n c pair Conflict at had stays has s = record { clause = c; at = at; all_false = s }

-- a clause that isn't there, or watches nothing, or is true stays as it is
pub stays_unpaired : (clauses : List Clause) (values : Partial) (pairs : List (Option Pair)) (l : Lit) (n : ℕ) → pair_of pairs n ≡ None →
    SuitsAt clauses values pairs l n Stay
stays_unpaired clauses values pairs l n none d p here had = cc

pub stays_unknown : (clauses : List Clause) (values : Partial) (pairs : List (Option Pair)) (l : Lit) (n : ℕ) → slice_get clauses n ≡ None →
    SuitsAt clauses values pairs l n Stay
stays_unknown clauses values pairs l n none d p here had = cc

pub stays_true : (clauses : List Clause) (t : Trail) (head : ℕ) (values : Partial) (pairs : List (Option Pair)) (l other : Lit) (n : ℕ) (pair : Pair) →
    AllWatched clauses t head pairs → pair_of pairs n ≡ Some pair → (other ≡ pair.first) ⊎ (other ≡ pair.second) →
    values other.var ≡ Some other.positive → SuitsAt clauses values pairs l n Stay
stays_true clauses t head values pairs l other n pair all had one true_now d p here given =
    inr record {
      var = other.var;
      positive = other.positive;
      has = pair_within clauses t head pairs n d pair other all here had one;
      is_true = true_now;
    }

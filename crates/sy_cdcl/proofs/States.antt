-- The solver's state at the beginning, and after a search.
use Rattle.std.proofs.Common.{◌≡◌, ℕ, List, ◌∙◌, sym, ap, subst, refl, arith, length, vec_len}
use Rattle.sy_clauses.specs.declared.Cnf.{Cnf}
use Rattle.sy_clauses.specs.Clauses.{Clause, known_clauses, VarsFit}
use Rattle.sy_cdcl.specs.declared.order.Order.{Order}
use Rattle.sy_cdcl.specs.declared.trail.Trail.{Trail}
use Rattle.sy_cdcl.specs.declared.watches.Watches.{Watches}
use Rattle.sy_cdcl.specs.declared.solver.State.{State}
use Rattle.sy_cdcl.specs.Trails.{TrailIsReady, LevelsSettled, TrailExtends, kept_values}
use Rattle.sy_cdcl.specs.Status.{IsConflict}
use Rattle.sy_cdcl.specs.Watching.{IsWatching}
use Rattle.sy_cdcl.specs.Storing.{clauses_in}
use Rattle.sy_cdcl.specs.States.{StateIsSound, IsFresh, IsFinalConflict}
use Rattle.sy_cdcl.proofs.Ends.{known_none, levels_first, fresh_first, numbered_first, attach_vars, attach_count}

-- the formula's clauses are stored
pub stored_first : (cnf : Cnf) (s : State) → IsFresh cnf s → clauses_in s.store ≡ known_clauses cnf.clauses s.derived.items
stored_first cnf s f = f.stored ∙ sym (ap (known_clauses cnf.clauses) f.derived ∙ known_none cnf.clauses)

-- all clauses are watched
pub sound_first : (cnf : Cnf) (s : State) (t : Trail) (w : Watches) → IsFresh cnf s → VarsFit cnf →
    TrailIsReady (clauses_in s.store) t → TrailExtends s.trail t → IsWatching (clauses_in s.store) t w →
    StateIsSound cnf record { trail = t; watches = w; order = s.order; marks = s.marks; store = s.store; derived = s.derived; lines = s.lines }
sound_first cnf s t w f vars r x i =
    let known = known_clauses cnf.clauses s.derived.items in
    let count = attach_count cnf s.derived.items f.derived in
    let same = stored_first cnf s f in
    let none : length s.lines ≡ 0 = ap length f.lines in
    record {
      ready = subst (λ (ks : List Clause). TrailIsReady ks t) same r;
      levels = levels_first known t (x.starts ∙ f.lowest);
      vars = attach_vars cnf s.derived.items cnf.vars vars f.derived refl;
      all = x.vars ∙ f.vars;
      watching = subst (λ (ks : List Clause). IsWatching ks t w) same i;
      stored = same;
      fit = f.fit;
      empty = f.empty;
      listed = f.listed;
      numbered = numbered_first cnf s.lines s.derived.items f.lines f.derived;
      fresh = fresh_first known (length cnf.clauses) count;
      count = omega (arith, count, none);
    }

-- a clause is false
pub stuck_first : (cnf : Cnf) (s : State) (t : Trail) (w : Watches) (n : ℕ) → IsFresh cnf s →
    TrailIsReady (clauses_in s.store) t → TrailExtends s.trail t → IsConflict (clauses_in s.store) (kept_values t.values.items) n →
    IsFinalConflict cnf record { trail = t; watches = w; order = s.order; marks = s.marks; store = s.store; derived = s.derived; lines = s.lines } n
stuck_first cnf s t w n f r x k = record {
  ready = subst (λ (ks : List Clause). TrailIsReady ks t) (stored_first cnf s f) r;
  lowest = x.starts ∙ f.lowest;
  empty = f.empty;
  listed = f.listed;
  derived = f.derived;
  conflict = subst (λ (ks : List Clause). IsConflict ks (kept_values t.values.items) n) (stored_first cnf s f) k;
}

-- more was assigned and decided
pub sound_searched : (cnf : Cnf) (s : State) (t : Trail) (w : Watches) (o : Order) → StateIsSound cnf s →
    TrailIsReady (clauses_in s.store) t → LevelsSettled (clauses_in s.store) t → vec_len t.values ≡ cnf.vars →
    IsWatching (clauses_in s.store) t w →
    StateIsSound cnf record { trail = t; watches = w; order = o; marks = s.marks; store = s.store; derived = s.derived; lines = s.lines }
sound_searched cnf s t w o f r l v i = record {
  ready = subst (λ (ks : List Clause). TrailIsReady ks t) f.stored r;
  levels = subst (λ (ks : List Clause). LevelsSettled ks t) f.stored l;
  vars = f.vars;
  all = v;
  watching = subst (λ (ks : List Clause). IsWatching ks t w) f.stored i;
  stored = f.stored;
  fit = f.fit;
  empty = f.empty;
  listed = f.listed;
  numbered = f.numbered;
  fresh = f.fresh;
  count = f.count;
}

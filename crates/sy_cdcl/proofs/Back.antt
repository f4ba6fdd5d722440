-- A trail whose present level was taken back.
use Rattle.std.proofs.Common.{◌≡◌, ℕ, Bool, true, false, not, List, [], ◌∷◌, arith, ap, sym, subst, ◌∙◌, take, length, zero, suc, ◌<◌, ◌≤◌, ◌-◌, Some, ⊎_elim, ◌⊎◌}
use Rattle.std.specs.Prelude.{slice_get}
use Rattle.std.proofs.lemmas.Option.{slice_get_within}
use Rattle.std.proofs.lemmas.List.{take_all, take-take}
use Rattle.sy_clauses.specs.Clauses.{Clause, same_literal}
use Rattle.sy_clauses.specs.New.{IsUnit, AllSettled}
use Rattle.sy_clauses.proofs.Sets.{literal_is}
use Rattle.sy_cdcl_literals.specs.declared.entries.Entry.{Entry}
use Rattle.sy_cdcl.specs.declared.trail.Trail.{Trail}
use Rattle.sy_cdcl.specs.Trails.{entries_values, level_start, EachOnce, IsTrail, IsForced, TrailIsReady, LevelsSettled}
use Rattle.sy_cdcl_literals.specs.Falsified.{SomeFalsified, NoneFalsified}
use Rattle.sy_cdcl.specs.Conflicts.{value_below, OpenAtLevels, IsTakenBack}
use Rattle.sy_cdcl.proofs.Places.{not_source, none_before, value_before}
use Rattle.sy_cdcl.proofs.Learning.{last_start, never, not_not}

pub get_taken : {X : Type 0} → (xs : List X) (n k : ℕ) (x : X) → slice_get (take n xs) k ≡ Some x → (k < n) × (slice_get xs k ≡ Some x)
get_taken xs zero k x h = cc
get_taken [] (suc n) k x h = cc
get_taken (y ∷ ys) (suc n) zero x h = (omega arith, h)
get_taken (y ∷ ys) (suc n) (suc k) x h = let r = get_taken ys n k x h in let l = r.0 in (omega arith, r.1)

pub get_in_taken : {X : Type 0} → (xs : List X) (n k : ℕ) (x : X) → k < n → slice_get xs k ≡ Some x → slice_get (take n xs) k ≡ Some x
get_in_taken xs zero k x l h = absurd (omega arith)
get_in_taken [] (suc n) k x l h = cc
get_in_taken (y ∷ ys) (suc n) zero x l h = h
get_in_taken (y ∷ ys) (suc n) (suc k) x l h = get_in_taken ys n k x (omega arith) h

pub ready_left : (clauses : List Clause) (old new : Trail) → 0 < length old.starts.items → TrailIsReady clauses old → IsTrail new →
    new.entries.items ≡ take (level_start old.starts.items) old.entries.items →
    new.starts.items ≡ take (length old.starts.items - 1) old.starts.items → TrailIsReady clauses new
ready_left clauses old new d r a es ss =
    let es₀ = old.entries.items in
    let start = level_start old.starts.items in
    let last = last_start old d in
    record {
      assignment = a;
      justified = record {
        forced = subst (λ (t : List Entry). (p : ℕ) (x : Entry) (m : ℕ) → slice_get t p ≡ Some x → x.reason ≡ Some m → IsForced clauses (take p t) x m) (sym es)
            (λ p x m h q.
            let g = get_taken es₀ start p x h in
            let l = g.0 in
            let before : take p (take start es₀) ≡ take p es₀ = take-take p start es₀ (omega arith) in
            subst (λ (t : List Entry). IsForced clauses t x m) (sym before) (r.justified.forced p x m g.1 q));
        decided = λ p x h z.
            let g = get_taken es₀ start p x (subst (λ (t : List Entry). slice_get t p ≡ Some x) es h) in
            let l = g.0 in
            let f = r.justified.decided p x g.1 z in
            let w = slice_get_within old.starts.items f.0 p f.1 in
            let below : f.0 < length old.starts.items - 1 =
            ⊎_elim (λ (y : f.0 < length old.starts.items - 1). y)
            (λ (y : length old.starts.items - 1 ≤ f.0).
            let v = r.assignment.rising (length old.starts.items - 1) f.0 start p y last f.1 in absurd (omega arith))
            (split f.0 (length old.starts.items - 1)) in
            (f.0, subst (λ (t : List ℕ). slice_get t f.0 ≡ Some p) (sym ss) (get_in_taken old.starts.items (length old.starts.items - 1) f.0 p below f.1));
      };
    }
  where
    split : (p q : ℕ) → (p < q) ⊎ (q ≤ p)
    split p q = grind arith

pub levels_left : (clauses : List Clause) (old new : Trail) → 0 < length old.starts.items → TrailIsReady clauses old → LevelsSettled clauses old →
    new.entries.items ≡ take (level_start old.starts.items) old.entries.items →
    new.starts.items ≡ take (length old.starts.items - 1) old.starts.items → LevelsSettled clauses new
levels_left clauses old new d r f es ss k n h =
    let start = level_start old.starts.items in
    let g = get_taken old.starts.items (length old.starts.items - 1) k n (subst (λ (t : List ℕ). slice_get t k ≡ Some n) ss h) in
    let l = g.0 in
    let below = r.assignment.rising k (length old.starts.items - 1) n start (omega arith) g.1 (last_start old d) in
    let same : take n new.entries.items ≡ take n old.entries.items = ap (take n) es ∙ take-take n start old.entries.items below in
    subst (λ (t : List Entry). AllSettled (entries_values t) clauses) (sym same) (f k n g.1)

-- a unit clause stays one where no entry of the level makes a literal of it false
pub unit_left : (t : Trail) (c : Clause) (v : ℕ) (s : Bool) → EachOnce t.entries.items → level_start t.starts.items ≤ length t.entries.items →
    IsUnit (entries_values t.entries.items) c v s → NoneFalsified t.entries.items (level_start t.starts.items) (length t.entries.items) c →
    IsUnit (value_below t) c v s
unit_left t c v s o l u none =
    let es = t.entries.items in
    let whole : take (length es) es ≡ es = take_all (length es) es (omega arith) in
    let all = subst (λ (x : List Entry). IsUnit (entries_values x) c v s) (sym whole) u in
    record {
      has = u.has;
      unvalued = none_before es (level_start t.starts.items) (length es) v l all.unvalued;
      others = λ w b h d.
          value_before es (level_start t.starts.items) (length es) w (not b) o (all.others w b h d)
          (λ p g i k j x y.
          let miss = none p g i k j in
          let z : not g.literal.positive ≡ b = ap not y ∙ not_not b in
          let own : c g.literal.var (not g.literal.positive) ≡ true = rw (x, z) h in
          let both : true ≡ false = sym own ∙ miss in cc);
    }

-- it has two literals without value at each level below where one does
pub open_below : (clauses : List Clause) (t : Trail) (c : Clause) (v : ℕ) (s : Bool) → 0 < length t.starts.items → TrailIsReady clauses t →
    IsUnit (entries_values t.entries.items) c v s →
    SomeFalsified t.entries.items (level_start t.starts.items) (length t.entries.items) c → OpenAtLevels t c
open_below clauses t c v s d r u x k n h =
    let es = t.entries.items in
    let w = slice_get_within t.starts.items k n h in
    let below = r.assignment.rising k (length t.starts.items - 1) n (level_start t.starts.items) (omega arith) h (last_start t d) in
    let whole : take (length es) es ≡ es = take_all (length es) es (omega arith) in
    let all = subst (λ (y : List Entry). IsUnit (entries_values y) c v s) (sym whole) u in
    let within = r.assignment.within k n h in
    let from = x.from in
    let other = not_source es (length es) v x.place x.entry all.unvalued x.to x.at in
    record {
      var = v;
      positive = s;
      other_var = x.entry.literal.var;
      other_positive = not x.entry.literal.positive;
      has = u.has;
      has_other = x.hit;
      different = never (same_literal v s x.entry.literal.var (not x.entry.literal.positive))
          (λ q. other (literal_is v s x.entry.literal.var (not x.entry.literal.positive) q).0);
      unvalued = none_before es n (length es) v within all.unvalued;
      other_unvalued = none_before es n x.place x.entry.literal.var (omega arith) (r.assignment.once x.place x.entry x.at);
    }

-- one level was taken back
pub back_first : (old new : Trail) → 0 < length old.starts.items →
    new.entries.items ≡ take (level_start old.starts.items) old.entries.items →
    new.starts.items ≡ take (length old.starts.items - 1) old.starts.items → IsTakenBack old new
back_first old new d es ss = record {
  level = length old.starts.items - 1;
  start = level_start old.starts.items;
  began = last_start old d;
  entries = es;
  starts = ss;
}

-- and one more
pub back_more : (old mid new : Trail) → IsTrail old → IsTakenBack old mid → 0 < length mid.starts.items →
    new.entries.items ≡ take (level_start mid.starts.items) mid.entries.items →
    new.starts.items ≡ take (length mid.starts.items - 1) mid.starts.items → IsTakenBack old new
back_more old mid new a b d es ss =
    let n = length mid.starts.items - 1 in
    let start = level_start mid.starts.items in
    let g = get_taken old.starts.items b.level n start (subst (λ (xs : List ℕ). slice_get xs n ≡ Some start) b.starts (last_start mid d)) in
    let below = g.0 in
    let rises = a.rising n b.level start b.start (omega arith) g.1 b.began in
    record {
      level = n;
      start = start;
      began = g.1;
      entries = es ∙ ap (take start) b.entries ∙ take-take start b.start old.entries.items rises;
      starts = ss ∙ ap (take n) b.starts ∙ take-take n b.level old.starts.items (omega arith);
    }

-- What holds while literals are left out of a learned clause.
use Rattle.std.proofs.Common.{◌≡◌, ◌≢◌, ℕ, Bool, true, false, not, ◌&&◌, ◌||◌, List, refl, arith, ap, sym, subst, ◌∙◌, take, get_or, length, ◌<◌, ◌≤◌, ◌+◌, Some, None, ⊎_elim, ◌⊎◌}
use Rattle.std.specs.Prelude.{slice_get, option_and_then}
use Rattle.sy_clauses.specs.declared.Lit.{Lit}
use Rattle.sy_clauses.specs.Clauses.{Clause, literals, same_literal, resolved, after_step, resolvent}
use Rattle.sy_clauses.specs.New.{IsUnit}
use Rattle.sy_clauses.proofs.Sets.{literals_at, literal_is, same_self}
use Rattle.sy_cdcl_literals.specs.declared.entries.Entry.{Entry}
use Rattle.sy_cdcl.specs.declared.trail.Trail.{Trail}
use Rattle.sy_cdcl.specs.Trails.{level_start, EachOnce, IsForced}
use Rattle.sy_cdcl.specs.Conflicts.{value_below}
use Rattle.sy_cdcl.specs.Short.{IsWithin, IsCovered, HasMore, IsShort}
use Rattle.sy_cdcl.proofs.Push.{some_is}
use Rattle.sy_cdcl.proofs.Places.{value_at}
use Rattle.sy_cdcl.proofs.Learning.{never, not_own, not_not, or_cases, and_cases, resolvent_is}
use Rattle.sy_cdcl.proofs.Inspect.{in_more}

-- one literal more that is in the other clause
pub covered_more : (ls : List Lit) (i : ℕ) (d : Lit) (l : Lit) (c : Clause) → i < length ls → IsCovered (literals (take i ls)) l c →
    c (get_or ls i d).var (get_or ls i d).positive ≡ true → IsCovered (literals (take (i + 1) ls)) l c
covered_more ls i d l c h f e v s m n =
    ⊎_elim (λ a. f v s a n) (λ b. literals_at c (get_or ls i d).var (get_or ls i d).positive v s b e) (in_more ls i d v s h m)

-- the literal itself once more
pub covered_same : (ls : List Lit) (i : ℕ) (d : Lit) (l : Lit) (c : Clause) → i < length ls → IsCovered (literals (take i ls)) l c →
    same_literal l.var l.positive (get_or ls i d).var (get_or ls i d).positive ≡ true → IsCovered (literals (take (i + 1) ls)) l c
covered_same ls i d l c h f e v s m n =
    ⊎_elim (λ a. f v s a n)
    (λ b. absurd (let q = literal_is (get_or ls i d).var (get_or ls i d).positive v s b in
    let x : same_literal l.var l.positive v s ≡ true = rw (q.0, q.1) e in
    let z : true ≡ false = sym x ∙ n in cc))
    (in_more ls i d v s h m)

-- one place lower, where the entry there leaves nothing out
pub short_next : (clauses : List Clause) (es : List Entry) (top end : ℕ) (c : Clause) (e : Entry) → IsShort clauses es (top + 1) end c →
    slice_get es top ≡ Some e →
    ((n : ℕ) (d : Clause) → e.reason ≡ Some n → slice_get clauses n ≡ Some d → c e.literal.var (not e.literal.positive) ≡ true →
    HasMore d e.literal c) → IsShort clauses es top end c
short_next clauses es top end c e short at here p f n d l k i r a hit =
    ⊎_elim (λ (q : top + 1 ≤ p). short p f n d q k i r a hit)
    (λ (q : p ≡ top).
    let same : e ≡ f = some_is (sym at ∙ ap (slice_get es) (sym q) ∙ i) in
    subst (λ (x : Entry). HasMore d x.literal c) same
    (here n d (ap (λ (x : Entry). x.reason) same ∙ r) a
    (subst (λ (x : Entry). c x.literal.var (not x.literal.positive) ≡ true) (sym same) hit)))
    (split top p l)
  where
    split : (m p : ℕ) → m ≤ p → (m + 1 ≤ p) ⊎ (p ≡ m)
    split m p h = grind arith

-- a part of the clause is as short
pub short_within : (clauses : List Clause) (es : List Entry) (start end : ℕ) (c d : Clause) → IsShort clauses es start end c →
    IsWithin d c → IsShort clauses es start end d
short_within clauses es start end c d short within p e n f l k i r a hit =
    let x = short p e n f l k i r a (within e.literal.var (not e.literal.positive) hit) in
    record {
      var = x.var;
      positive = x.positive;
      has = x.has;
      different = x.different;
      missing = never (d x.var x.positive) (λ h. let z : true ≡ false = sym (within x.var x.positive h) ∙ x.missing in cc);
    }

-- resolved with a clause whose other literals are in it, the clause has one literal less
pub resolved_within : (c d : Clause) (l : Lit) → IsCovered d l c → IsWithin (resolved l.var (not l.positive) c d) c
resolved_within c d l covered v s h =
    ⊎_elim
    (λ (x : (c v s && not (same_literal l.var (not l.positive) v s)) ≡ true).
    (and_cases (c v s) (same_literal l.var (not l.positive) v s) x).0)
    (λ (x : (d v s && not (same_literal l.var (not (not l.positive)) v s)) ≡ true).
    let y = and_cases (d v s) (same_literal l.var (not (not l.positive)) v s) x in
    covered v s y.0 (subst (λ (b : Bool). same_literal l.var b v s ≡ false) (not_not l.positive) y.1))
    (or_cases (c v s && not (same_literal l.var (not l.positive) v s)) (d v s && not (same_literal l.var (not (not l.positive)) v s)) h)

-- the literal is not in it any more
pub resolved_out : (clauses : List Clause) (es : List Entry) (top r : ℕ) (c : Clause) (e : Entry) → EachOnce es → slice_get es top ≡ Some e →
    (f : IsForced clauses (take top es) e r) →
    resolved e.literal.var (not e.literal.positive) c f.clause e.literal.var (not e.literal.positive) ≡ false
resolved_out clauses es top r c e o at f =
    never (resolved e.literal.var (not e.literal.positive) c f.clause e.literal.var (not e.literal.positive)) (λ h.
    let v = e.literal.var in
    let s = not e.literal.positive in
    ⊎_elim
    (λ (x : (c v s && not (same_literal v s v s)) ≡ true).
    let y = and_cases (c v s) (same_literal v s v s) x in
    let z : true ≡ false = sym (same_self v s) ∙ y.1 in cc)
    (λ (x : (f.clause v s && not (same_literal v (not s) v s)) ≡ true).
    let y = and_cases (f.clause v s) (same_literal v (not s) v s) x in
    let g = f.unit.others v s y.0 (subst (λ (b : Bool). same_literal v b v s ≡ false) (not_not e.literal.positive) y.1) in
    let z : None ≡ Some (not s) = sym f.unit.unvalued ∙ g in cc)
    (or_cases (c v s && not (same_literal v s v s)) (f.clause v s && not (same_literal v (not s) v s)) h))

-- an entry below the level makes another literal false than the one that is unit
pub not_unit : (t : Trail) (top : ℕ) (e : Entry) (c : Clause) (l : Lit) → EachOnce t.entries.items → slice_get t.entries.items top ≡ Some e →
    top < level_start t.starts.items → IsUnit (value_below t) c l.var l.positive → e.literal.var ≢ l.var
not_unit t top e c l o at h u q =
    let x = value_at t.entries.items (level_start t.starts.items) top e o h at in
    let z : None ≡ Some e.literal.positive = sym u.unvalued ∙ ap (value_below t) (sym q) ∙ x in cc

-- the entry's literal itself isn't in the clause
not_true : (t : Trail) (top : ℕ) (e : Entry) (c : Clause) (l : Lit) → EachOnce t.entries.items → slice_get t.entries.items top ≡ Some e →
    top < level_start t.starts.items → IsUnit (value_below t) c l.var l.positive → c e.literal.var e.literal.positive ≡ false
not_true t top e c l o at h u =
    never (c e.literal.var e.literal.positive) (λ k.
    let x = value_at t.entries.items (level_start t.starts.items) top e o h at in
    let apart = never (same_literal l.var l.positive e.literal.var e.literal.positive) (λ q.
    not_unit t top e c l o at h u (literal_is l.var l.positive e.literal.var e.literal.positive q).0) in
    let y = u.others e.literal.var e.literal.positive k apart in
    not_own e.literal.positive (some_is (sym x ∙ y)))

-- the entry's clause can be resolved with
pub short_step : (clauses : List Clause) (t : Trail) (top r : ℕ) (e : Entry) (c : Clause) (l : Lit) → EachOnce t.entries.items →
    slice_get t.entries.items top ≡ Some e → top < level_start t.starts.items → IsUnit (value_below t) c l.var l.positive →
    c e.literal.var (not e.literal.positive) ≡ true → (f : IsForced clauses (take top t.entries.items) e r) →
    after_step clauses c record { var = e.literal.var; with = r } ≡ Some (resolved e.literal.var (not e.literal.positive) c f.clause)
short_step clauses t top r e c l o at h u hit f =
    ap (option_and_then (λ (d : Clause). resolvent e.literal.var c d)) f.at
    ∙ resolvent_is e.literal.var e.literal.positive c f.clause hit f.unit.has (not_true t top e c l o at h u)

-- the rest is unit still
pub unit_within : (t : Trail) (top r : ℕ) (e : Entry) (c : Clause) (l : Lit) (clauses : List Clause) → EachOnce t.entries.items →
    slice_get t.entries.items top ≡ Some e → top < level_start t.starts.items → IsUnit (value_below t) c l.var l.positive →
    (f : IsForced clauses (take top t.entries.items) e r) → IsCovered f.clause e.literal c →
    IsUnit (value_below t) (resolved e.literal.var (not e.literal.positive) c f.clause) l.var l.positive
unit_within t top r e c l clauses o at h u f covered =
    let v = e.literal.var in
    let s = not e.literal.positive in
    let apart = never (same_literal v s l.var l.positive) (λ q.
    not_unit t top e c l o at h u (sym (literal_is v s l.var l.positive q).0)) in
    record {
      has = kept (c l.var l.positive) (same_literal v s l.var l.positive) _ u.has apart;
      unvalued = u.unvalued;
      others = λ w b k d. u.others w b (resolved_within c f.clause e.literal covered w b k) d;
    }
  where
    kept : (a b x : Bool) → a ≡ true → b ≡ false → ((a && not b) || x) ≡ true
    kept true false x h k = refl
    kept true true x h k = cc
    kept false b x h k = cc

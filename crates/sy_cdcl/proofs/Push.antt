-- A trail with one entry more.
use Rattle.std.proofs.Common.{◌≡◌, ◌≢◌, eqb, ℕ, true, false, List, [], ◌∷◌, ◌++◌, refl, arith, ap, sym, subst, ◌∙◌, take, length, vec_len, length-append, zero, suc, ◌<◌, ◌≤◌, ◌+◌, Some, None, inl, inr, ⊎_elim, ◌⊎◌}
use Rattle.std.specs.Prelude.{slice_get}
use mathlib.Core.Path.{fun_ext}
use Rattle.std.proofs.lemmas.List.{take_at, take_all, take-take}
use Rattle.sy_clauses.specs.Clauses.{Clause}
use Rattle.std.proofs.lemmas.Bool.Decides.{eqb_tells}
use Rattle.std.proofs.lemmas.Option.{slice_get_within}
use Rattle.sy_clauses.specs.New.{Partial, IsUnit, ClauseIsSettled, AllSettled}
use Rattle.sy_cdcl_literals.specs.declared.entries.Entry.{Entry}
use Rattle.sy_cdcl.specs.declared.trail.Trail.{Trail}
use Rattle.sy_cdcl.specs.Trails.{entries_values, kept_values, ValuesAgree, IsForced, TrailIsReady, TrailExtends, VarsBelow, unvalued_count}

pub some_is : {A : Type 0} {x y : A} → Some x ≡ Some y → x ≡ y
some_is e = cc

-- the entry at a place is an old one, after the same ones, or it is the new one, after all old ones
pub record WasThere (es : List Entry) (e : Entry) (p : ℕ) (x : Entry) : Type 0 where
  pub there : slice_get es p ≡ Some x
  pub before : take p (es ++ e ∷ []) ≡ take p es

pub record IsLast (es : List Entry) (e : Entry) (p : ℕ) (x : Entry) : Type 0 where
  pub same : x ≡ e
  pub place : p ≡ length es
  pub before : take p (es ++ e ∷ []) ≡ es

pub push_cases : (es : List Entry) (e : Entry) (p : ℕ) (x : Entry) → slice_get (es ++ e ∷ []) p ≡ Some x →
    WasThere es e p x ⊎ IsLast es e p x
push_cases [] e zero x h = inr record { same = sym (some_is h); place = refl; before = refl }
push_cases [] e (suc p) x h = cc
push_cases (y ∷ ys) e zero x h = inl record { there = h; before = refl }
push_cases (y ∷ ys) e (suc p) x h =
    ⊎_elim (λ (a : WasThere ys e p x). inl record { there = a.there; before = ap (λ (t : List Entry). y ∷ t) a.before })
    (λ (b : IsLast ys e p x). inr record { same = b.same; place = ap suc b.place; before = ap (λ (t : List Entry). y ∷ t) b.before })
    (push_cases ys e p x h)

pub once_more : (es : List Entry) (e : Entry) → entries_values es e.literal.var ≡ None →
    ((p : ℕ) (x : Entry) → slice_get es p ≡ Some x → entries_values (take p es) x.literal.var ≡ None) →
    (p : ℕ) (x : Entry) → slice_get (es ++ e ∷ []) p ≡ Some x → entries_values (take p (es ++ e ∷ [])) x.literal.var ≡ None
once_more es e u k p x h =
    ⊎_elim (λ (a : WasThere es e p x). subst (λ (t : List Entry). entries_values t x.literal.var ≡ None) (sym a.before) (k p x a.there))
    (λ (b : IsLast es e p x). subst (λ (t : List Entry). entries_values t x.literal.var ≡ None) (sym b.before)
    (subst (λ (y : Entry). entries_values es y.literal.var ≡ None) (sym b.same) u))
    (push_cases es e p x h)

pub forced_more : (clauses : List Clause) (es : List Entry) (e : Entry) →
    ((r : ℕ) → e.reason ≡ Some r → IsForced clauses es e r) →
    ((p : ℕ) (x : Entry) (r : ℕ) → slice_get es p ≡ Some x → x.reason ≡ Some r → IsForced clauses (take p es) x r) →
    (p : ℕ) (x : Entry) (r : ℕ) → slice_get (es ++ e ∷ []) p ≡ Some x → x.reason ≡ Some r →
    IsForced clauses (take p (es ++ e ∷ [])) x r
forced_more clauses es e f k p x r h q =
    ⊎_elim (λ (a : WasThere es e p x). subst (λ (t : List Entry). IsForced clauses t x r) (sym a.before) (k p x r a.there q))
    (λ (b : IsLast es e p x). subst (λ (t : List Entry). IsForced clauses t x r) (sym b.before)
    (subst (λ (y : Entry). IsForced clauses es y r) (sym b.same) (f r (subst (λ (y : Entry). y.reason ≡ Some r) b.same q))))
    (push_cases es e p x h)

-- the values by variable as those of the entries
pub same_values : (t : Trail) → ValuesAgree t → kept_values t.values.items ≡ entries_values t.entries.items
same_values t a = fun_ext a

-- a forced literal more
pub ready_forced : (clauses : List Clause) (old new : Trail) (e : Entry) (number : ℕ) (c : Clause) →
    TrailIsReady clauses old → new.entries.items ≡ old.entries.items ++ e ∷ [] → new.starts.items ≡ old.starts.items →
    ValuesAgree new → e.reason ≡ Some number → slice_get clauses number ≡ Some c →
    IsUnit (kept_values old.values.items) c e.literal.var e.literal.positive → TrailIsReady clauses new
ready_forced clauses old new e number c r es ss a q at u =
    let es₀ = old.entries.items in
    let unit = subst (λ (f : Partial). IsUnit f c e.literal.var e.literal.positive) (same_values old r.assignment.agrees) u in
    let forced : (m : ℕ) → e.reason ≡ Some m → IsForced clauses es₀ e m =
    λ m h. subst (λ (n : ℕ). IsForced clauses es₀ e n) (some_is (sym q ∙ h)) record { clause = c; at = at; unit = unit } in
    let once = once_more es₀ e unit.unvalued r.assignment.once in
    let forces = forced_more clauses es₀ e forced r.justified.forced in
    record {
      assignment = record {
        agrees = a;
        once = subst (λ (t : List Entry). (p : ℕ) (x : Entry) → slice_get t p ≡ Some x → entries_values (take p t) x.literal.var ≡ None) (sym es) once;
        rising = subst (λ (t : List ℕ). (j k m n : ℕ) → j ≤ k → slice_get t j ≡ Some m → slice_get t k ≡ Some n → m ≤ n) (sym ss) r.assignment.rising;
        within = λ k n h.
            let old_within = r.assignment.within k n (subst (λ (t : List ℕ). slice_get t k ≡ Some n) ss h) in
            let l = ap length es in let m = length-append old.entries.items (e ∷ []) in omega arith;
      };
      justified = record {
        forced = subst (λ (t : List Entry). (p : ℕ) (x : Entry) (m : ℕ) → slice_get t p ≡ Some x → x.reason ≡ Some m → IsForced clauses (take p t) x m) (sym es) forces;
        decided = λ p x h z.
            ⊎_elim
            (λ (w : WasThere es₀ e p x). let d = r.justified.decided p x w.there z in
            (d.0, subst (λ (t : List ℕ). slice_get t d.0 ≡ Some p) (sym ss) d.1))
            (λ (w : IsLast es₀ e p x). absurd (let y : e.reason ≡ None = subst (λ (f : Entry). f.reason ≡ None) w.same z in cc (y, q)))
            (push_cases es₀ e p x (subst (λ (t : List Entry). slice_get t p ≡ Some x) es h));
      };
    }

pub extends_push : (old new : Trail) (e : Entry) → new.entries.items ≡ old.entries.items ++ e ∷ [] → new.starts.items ≡ old.starts.items →
    vec_len new.values ≡ vec_len old.values →
    unvalued_count new + 1 ≡ unvalued_count old → TrailExtends old new
extends_push old new e es ss vs fs =
    let long : length new.entries.items ≡ length old.entries.items + 1 =
    (let l = ap length es in let m = length-append old.entries.items (e ∷ []) in omega arith) in
    record {
      starts = ss;
      longer = omega arith;
      vars = vs;
      fewer = omega arith;
      count = omega arith;
      front = ap (take (length old.entries.items)) es ∙ take_at old.entries.items (e ∷ []) (length old.entries.items) refl;
    }

pub extends_refl : (t : Trail) → TrailExtends t t
extends_refl t = record { starts = refl; longer = omega arith; front = take_all (length t.entries.items) t.entries.items (omega arith); vars = refl; fewer = omega arith; count = refl }

pub extends_trans : (a b c : Trail) → TrailExtends a b → TrailExtends b c → TrailExtends a c
extends_trans a b c p q =
    let la = p.longer in let lb = q.longer in let fa = p.fewer in let fb = q.fewer in
    let ca = p.count in let cb = q.count in
    record {
      starts = q.starts ∙ p.starts;
      longer = omega arith;
      front = sym (take-take (length a.entries.items) (length b.entries.items) c.entries.items la)
          ∙ ap (take (length a.entries.items)) q.front ∙ p.front;
      vars = q.vars ∙ p.vars;
      fewer = omega arith;
      count = omega arith;
    }

-- the bound on variables holds of a longer trail
pub vars_kept : (clauses : List Clause) (old new : Trail) → TrailExtends old new → VarsBelow (vec_len old.values) clauses →
    VarsBelow (vec_len new.values) clauses
vars_kept clauses old new x b = subst (λ (n : ℕ). VarsBelow n clauses) (sym x.vars) b

-- one settled clause more
pub settled_more : (clauses : List Clause) (values : Partial) (i : ℕ) (d : Clause) →
    ((k : ℕ) (c : Clause) → k < i → slice_get clauses k ≡ Some c → ClauseIsSettled values c) →
    slice_get clauses i ≡ Some d → ClauseIsSettled values d →
    (k : ℕ) (c : Clause) → k < i + 1 → slice_get clauses k ≡ Some c → ClauseIsSettled values c
settled_more clauses values i d f g s k c h e =
    ⊎_elim (λ (q : (eqb k i ≡ true) × (k ≡ i)).
    let z : d ≡ c = some_is (sym g ∙ ap (slice_get clauses) (sym q.1) ∙ e) in subst (λ (x : Clause). ClauseIsSettled values x) z s)
    (λ (q : (eqb k i ≡ false) × (k ≢ i)). let n = q.1 in f k c (omega arith) e)
    (eqb_tells k i)

pub all_settled : (clauses : List Clause) (values : Partial) (i : ℕ) → length clauses ≤ i →
    ((k : ℕ) (c : Clause) → k < i → slice_get clauses k ≡ Some c → ClauseIsSettled values c) → AllSettled values clauses
all_settled clauses values i h f n c e = let w = slice_get_within clauses n c e in f n c (omega arith) e

-- Watched clauses, as the trail grows, begins a level, is taken back, and is visited.
use Rattle.std.proofs.Common.{◌≡◌, ℕ, zero, suc, ◌+◌, ◌<◌, ◌≤◌, Bool, true, false, not, List, [], ◌∷◌, ◌++◌, length, take, refl, sym, ap, subst, ◌∙◌, arith, Some, None, Option, inl, inr, ⊎_elim, ◌⊎◌}
use Rattle.std.specs.Prelude.{slice_get}
use Rattle.std.proofs.lemmas.Option.{slice_get_within}
use Rattle.std.proofs.lemmas.List.{take_all}
use Rattle.sy_clauses.specs.declared.Lit.{Lit}
use Rattle.sy_clauses.specs.Clauses.{Clause, same_literal}
use Rattle.sy_clauses.specs.New.{HasTrue, ClauseIsSettled}
use Rattle.sy_clauses.proofs.Sets.{same_self}
use Rattle.sy_cdcl_literals.specs.declared.entries.Entry.{Entry}
use Rattle.sy_cdcl_literals.specs.declared.outcomes.Pair.{Pair}
use Rattle.sy_cdcl.specs.Trails.{entries_values, EachOnce}
use Rattle.sy_cdcl.specs.Watching.{Falsifies, IsBacked, IsGuarded, IsWatched}
use Rattle.sy_cdcl_literals.specs.Suiting.{IsOther}
use Rattle.sy_cdcl.specs.Visits.{IsApart, StaysWatched}
use Rattle.sy_cdcl.proofs.Back.{get_taken, get_in_taken}
use Rattle.sy_cdcl.proofs.Push.{some_is, push_cases, WasThere, IsLast}
use Rattle.sy_cdcl.proofs.Places.{source, value_at}
use Rattle.sy_cdcl.proofs.Learning.{not_not}

get_old : {X : Type 0} → (xs : List X) (x y : X) (k : ℕ) → slice_get xs k ≡ Some y → slice_get (xs ++ x ∷ []) k ≡ Some y
get_old [] x y k h = cc
get_old (z ∷ zs) x y zero h = h
get_old (z ∷ zs) x y (suc k) h = get_old zs x y k h

get_end : {X : Type 0} → (xs : List X) (x : X) → slice_get (xs ++ x ∷ []) (length xs) ≡ Some x
get_end [] x = refl
get_end (y ∷ ys) x = get_end ys x

-- an entry before the last
get_before : (es : List Entry) (e x : Entry) (p : ℕ) → p < length es → slice_get (es ++ e ∷ []) p ≡ Some x → slice_get es p ≡ Some x
get_before es e x p l h =
    ⊎_elim (λ (a : WasThere es e p x). a.there) (λ (b : IsLast es e p x). let q = b.place in absurd (omega arith)) (push_cases es e p x h)

backed_more : (es : List Entry) (starts : List ℕ) (c : Clause) (p : ℕ) (e : Entry) → IsBacked es starts c p → IsBacked (es ++ e ∷ []) starts c p
backed_more es starts c p e b = record {
  place = b.place;
  entry = b.entry;
  at = get_old es e b.entry b.place b.at;
  has = b.has;
  lower = b.lower;
}

-- one entry more
pub watched_more : (es : List Entry) (starts : List ℕ) (head : ℕ) (c : Clause) (o : Option Pair) (e : Entry) → head ≤ length es →
    IsWatched es starts head c o → IsWatched (es ++ e ∷ []) starts head c o
watched_more es starts head c None e l w = record {
  place = w.place;
  entry = w.entry;
  at = get_old es e w.entry w.place w.at;
  has = w.has;
  lower = w.lower;
}
watched_more es starts head c (Some pair) e l w = record {
  has_first = w.has_first;
  has_second = w.has_second;
  different = w.different;
  backed = λ p x k at f. backed_more es starts c p e (w.backed p x k (get_before es e x p (omega arith) at) f);
}

-- a level begins at the end
start_cases : (xs : List ℕ) (x y k : ℕ) → slice_get (xs ++ x ∷ []) k ≡ Some y → (slice_get xs k ≡ Some y) ⊎ (y ≡ x)
start_cases [] x y zero h = inr (sym (some_is h))
start_cases [] x y (suc k) h = cc
start_cases (z ∷ zs) x y zero h = inl h
start_cases (z ∷ zs) x y (suc k) h = start_cases zs x y k h

pub watched_begun : (es : List Entry) (starts : List ℕ) (head : ℕ) (c : Clause) (o : Option Pair) →
    IsWatched es starts head c o → IsWatched es (starts ++ length es ∷ []) head c o
watched_begun es starts head c None w = record {
  place = w.place;
  entry = w.entry;
  at = w.at;
  has = w.has;
  lower = λ k s h.
      ⊎_elim (λ (a : slice_get starts k ≡ Some s). w.lower k s a)
      (λ (a : s ≡ length es). let z = slice_get_within es w.place w.entry w.at in omega arith)
      (start_cases starts (length es) s k h);
}
watched_begun es starts head c (Some pair) w = record {
  has_first = w.has_first;
  has_second = w.has_second;
  different = w.different;
  backed = λ p x k at f.
      let b = w.backed p x k at f in
      record {
        place = b.place;
        entry = b.entry;
        at = b.at;
        has = b.has;
        lower = λ j s h l.
            ⊎_elim (λ (a : slice_get starts j ≡ Some s). b.lower j s a l)
            (λ (a : s ≡ length es). let z = slice_get_within es b.place b.entry b.at in omega arith)
            (start_cases starts (length es) s j h);
      };
}

-- all is taken back to where a level began
pub watched_left : (es : List Entry) (starts : List ℕ) (head : ℕ) (c : Clause) (o : Option Pair) (k m : ℕ) →
    slice_get starts k ≡ Some m → m ≤ head → IsWatched es starts head c o → IsWatched (take m es) (take k starts) m c o
watched_left es starts head c None k m at l w = record {
  place = w.place;
  entry = w.entry;
  at = get_in_taken es m w.place w.entry (w.lower k m at) w.at;
  has = w.has;
  lower = λ j s h. w.lower j s (get_taken starts k j s h).1;
}
watched_left es starts head c (Some pair) k m at l w = record {
  has_first = w.has_first;
  has_second = w.has_second;
  different = w.different;
  backed = λ p x n here f.
      let b = w.backed p x (omega arith) (get_taken es m p x here).1 f in
      record {
        place = b.place;
        entry = b.entry;
        at = get_in_taken es m b.place b.entry (b.lower k m at n) b.at;
        has = b.has;
        lower = λ j s h q. b.lower j s (get_taken starts k j s h).1 q;
      };
}

-- one entry fewer was visited
pub watched_weaker : (es : List Entry) (starts : List ℕ) (head : ℕ) (c : Clause) (o : Option Pair) →
    IsWatched es starts (head + 1) c o → IsWatched es starts head c o
watched_weaker es starts head c None w = w
watched_weaker es starts head c (Some pair) w = record {
  has_first = w.has_first;
  has_second = w.has_second;
  different = w.different;
  backed = λ p x k at f. w.backed p x (omega arith) at f;
}

last_or : (p head : ℕ) → p < head + 1 → (p < head) ⊎ (p ≡ head)
last_or p head h = grind arith

-- a true clause is backed where no level begins later
pub backed_true : (es : List Entry) (starts : List ℕ) (c : Clause) (p : ℕ) → ((k s : ℕ) → slice_get starts k ≡ Some s → s ≤ p) →
    HasTrue (entries_values es) c → IsBacked es starts c p
backed_true es starts c p past t =
    let whole : take (length es) es ≡ es = take_all (length es) es (omega arith) in
    let s = source es (length es) t.var t.positive (ap (λ (xs : List Entry). entries_values xs t.var) whole ∙ t.is_true) in
    record {
      place = s.place;
      entry = s.entry;
      at = s.at;
      has = subst (λ (v : ℕ). c v s.entry.literal.positive ≡ true) (sym s.var) (subst (λ (b : Bool). c t.var b ≡ true) (sym s.value) t.has);
      lower = λ k m h l. let q = past k m h in absurd (omega arith);
    }

-- an entry that makes this literal false makes no literal false that is apart from it
pub not_apart : (e : Entry) (a l : Lit) → a.var ≡ e.literal.var → a.positive ≡ not e.literal.positive → Falsifies e l →
    same_literal l.var l.positive a.var a.positive ≡ false → ⊥
not_apart e a l v s f d =
    let x : a.var ≡ l.var = v ∙ f.var in
    let y : a.positive ≡ l.positive = s ∙ ap not f.sign ∙ not_not l.positive in
    let z : true ≡ false = sym (same_self l.var l.positive) ∙ sym (rw (x, y) refl) ∙ d in cc

-- the next entry is visited, at a clause that is true or doesn't watch the literal
pub watched_next : (es : List Entry) (starts : List ℕ) (head : ℕ) (c : Clause) (o : Option Pair) (e : Entry) (a : Lit) →
    ((k s : ℕ) → slice_get starts k ≡ Some s → s ≤ head) → slice_get es head ≡ Some e →
    a.var ≡ e.literal.var → a.positive ≡ not e.literal.positive →
    ((pair : Pair) → o ≡ Some pair → IsApart pair a ⊎ HasTrue (entries_values es) c) →
    IsWatched es starts head c o → IsWatched es starts (head + 1) c o
watched_next es starts head c None e a past at v s f w = w
watched_next es starts head c (Some pair) e a past at v s f w = record {
  has_first = w.has_first;
  has_second = w.has_second;
  different = w.different;
  backed = λ p x k here g.
      ⊎_elim (λ (q : p < head). w.backed p x q here g)
      (λ (q : p ≡ head).
      let same : x ≡ e = some_is (sym here ∙ ap (slice_get es) q ∙ at) in
      subst (λ (n : ℕ). IsBacked es starts c n) (sym q)
      (⊎_elim
      (λ (r : IsApart pair a).
      absurd (⊎_elim
      (λ (t : Falsifies x pair.first). not_apart e a pair.first v s (subst (λ (y : Entry). Falsifies y pair.first) same t) r.first)
      (λ (t : Falsifies x pair.second). not_apart e a pair.second v s (subst (λ (y : Entry). Falsifies y pair.second) same t) r.second)
      g))
      (λ (r : HasTrue (entries_values es) c). backed_true es starts c head past r)
      (f pair refl)))
      (last_or p head k);
}

-- an entry that makes a literal false
pub falsified : (es : List Entry) (p : ℕ) (e : Entry) (l : Lit) → EachOnce es → slice_get es p ≡ Some e → Falsifies e l →
    entries_values es l.var ≡ Some (not l.positive)
falsified es p e l o at f =
    let whole : take (length es) es ≡ es = take_all (length es) es (omega arith) in
    let within = slice_get_within es p e at in
    let v = value_at es (length es) p e o within at in
    ap (entries_values es) (sym f.var) ∙ ap (λ (xs : List Entry). entries_values xs e.literal.var) (sym whole) ∙ v ∙ ap Some f.sign

-- the next entry is visited, and another literal is watched in the place of the one that it makes false
pub watched_moved : (es : List Entry) (starts : List ℕ) (head : ℕ) (c : Clause) (old new : Pair) (e : Entry) (a : Lit) →
    EachOnce es → slice_get es head ≡ Some e → a.var ≡ e.literal.var → a.positive ≡ not e.literal.positive →
    StaysWatched old a new.first → IsOther (entries_values es) c new.first new.second →
    IsGuarded es starts head c old → IsGuarded es starts (head + 1) c new
watched_moved es starts head c old new e a once at v s stays other w = record {
  has_first =
      ⊎_elim (λ (q : new.first ≡ old.first). subst (λ (l : Lit). c l.var l.positive ≡ true) (sym q) w.has_first)
      (λ (q : new.first ≡ old.second). subst (λ (l : Lit). c l.var l.positive ≡ true) (sym q) w.has_second)
      stays.one;
  has_second = other.has;
  different = other.different;
  backed = λ p x k here g.
      ⊎_elim
      (λ (t : Falsifies x new.first).
      ⊎_elim
      (λ (r : p < head). w.backed p x r here
      (⊎_elim (λ (q : new.first ≡ old.first). inl (subst (λ (l : Lit). Falsifies x l) q t))
      (λ (q : new.first ≡ old.second). inr (subst (λ (l : Lit). Falsifies x l) q t))
      stays.one))
      (λ (r : p ≡ head).
      let same : x ≡ e = some_is (sym here ∙ ap (slice_get es) r ∙ at) in
      absurd (not_apart e a new.first v s (subst (λ (y : Entry). Falsifies y new.first) same t) stays.apart))
      (last_or p head k))
      (λ (t : Falsifies x new.second). absurd (other.not_false (falsified es p x new.second once here t)))
      g;
}

option_cases : (o : Option Bool) → (o ≡ None) ⊎ ((b : Bool) × (o ≡ Some b))
option_cases None = inl refl
option_cases (Some b) = inr (b, refl)

same_or_not : (a b : Bool) → (a ≡ b) ⊎ (a ≡ not b)
same_or_not true true = inl refl
same_or_not true false = inr refl
same_or_not false true = inr refl
same_or_not false false = inl refl

-- once all entries are visited, a watched literal has no value or the clause is true
watched_open : (es : List Entry) (starts : List ℕ) (c : Clause) (pair : Pair) (l : Lit) → EachOnce es →
    IsGuarded es starts (length es) c pair → c l.var l.positive ≡ true →
    ((e : Entry) → Falsifies e l → Falsifies e pair.first ⊎ Falsifies e pair.second) →
    (entries_values es l.var ≡ None) ⊎ HasTrue (entries_values es) c
watched_open es starts c pair l once w has f =
    let whole : take (length es) es ≡ es = take_all (length es) es (omega arith) in
    ⊎_elim (λ (n : entries_values es l.var ≡ None). inl n)
    (λ (b : (b : Bool) × (entries_values es l.var ≡ Some b)).
    inr (⊎_elim
    (λ (q : b.0 ≡ l.positive). record { var = l.var; positive = l.positive; has = has; is_true = b.1 ∙ ap Some q })
    (λ (q : b.0 ≡ not l.positive).
    let s = source es (length es) l.var b.0 (ap (λ (xs : List Entry). entries_values xs l.var) whole ∙ b.1) in
    let k = w.backed s.place s.entry s.within s.at (f s.entry record { var = s.var; sign = s.value ∙ q }) in
    let in_es = slice_get_within es k.place k.entry k.at in
    record {
      var = k.entry.literal.var;
      positive = k.entry.literal.positive;
      has = k.has;
      is_true = ap (λ (xs : List Entry). entries_values xs k.entry.literal.var) (sym whole) ∙ value_at es (length es) k.place k.entry once in_es k.at;
    })
    (same_or_not b.0 l.positive)))
    (option_cases (entries_values es l.var))

-- once all entries are visited, the clause is settled
pub watched_settled : (es : List Entry) (starts : List ℕ) (c : Clause) (o : Option Pair) → EachOnce es →
    IsWatched es starts (length es) c o → ClauseIsSettled (entries_values es) c
watched_settled es starts c None once w =
    let whole : take (length es) es ≡ es = take_all (length es) es (omega arith) in
    inl record {
      var = w.entry.literal.var;
      positive = w.entry.literal.positive;
      has = w.has;
      is_true = ap (λ (xs : List Entry). entries_values xs w.entry.literal.var) (sym whole)
          ∙ value_at es (length es) w.place w.entry once (slice_get_within es w.place w.entry w.at) w.at;
    }
watched_settled es starts c (Some pair) once w =
    ⊎_elim
    (λ (n : entries_values es pair.first.var ≡ None).
    ⊎_elim
    (λ (m : entries_values es pair.second.var ≡ None). inr record {
      var = pair.first.var;
      positive = pair.first.positive;
      other_var = pair.second.var;
      other_positive = pair.second.positive;
      has = w.has_first;
      has_other = w.has_second;
      different = w.different;
      unvalued = n;
      other_unvalued = m;
    })
    (λ (t : HasTrue (entries_values es) c). inl t)
    (watched_open es starts c pair pair.second once w w.has_second (λ e f. inr f)))
    (λ (t : HasTrue (entries_values es) c). inl t)
    (watched_open es starts c pair pair.first once w w.has_first (λ e f. inl f))

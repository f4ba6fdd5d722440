-- The clauses that watch a literal, visited one after another once it is false.
use Rattle.std.proofs.Common.{◌≡◌, ◌≢◌, ℕ, zero, suc, ◌+◌, ◌*◌, ◌-◌, ◌<◌, ◌≤◌, Bool, true, false, not, List, [], ◌∷◌, ◌++◌, length, length-append, set, get_or, refl, sym, ap, subst, ◌∙◌, arith, Some, None, Option, inl, inr, ⊎_elim, ◌⊎◌, eqb, vec_len}
use Rattle.std.specs.Prelude.{slice_get}
use Rattle.std.specs.List.{swap_remove}
use Rattle.sy_cdcl.proofs.Places.{value_at}
use Rattle.std.proofs.lemmas.Bool.Decides.{eqb_tells}
use Rattle.std.proofs.lemmas.Option.{slice_get_within, slice_get-get_or}
use Rattle.std.proofs.lemmas.List.{get_or-set_same, get_or-set_other, length-set, take_all}
use Rattle.std.proofs.Common.{length-take}
use Rattle.sy_cdcl.proofs.Learning.{not_not}
use Rattle.sy_clauses.specs.declared.Lit.{Lit}
use Rattle.sy_clauses.specs.Clauses.{Clause, same_literal}
use Rattle.sy_clauses.specs.New.{Partial, HasTrue, AllSettled, ClauseIsSettled}
use Rattle.sy_clauses.proofs.Sets.{literal_is}
use Rattle.sy_cdcl_literals.specs.declared.entries.Entry.{Entry}
use Rattle.sy_cdcl.specs.declared.trail.Trail.{Trail}
use Rattle.sy_cdcl_literals.specs.declared.outcomes.Pair.{Pair}
use Rattle.sy_cdcl.specs.declared.watches.Watches.{Watches}
use Rattle.sy_cdcl.specs.Trails.{entries_values, kept_values, TrailIsReady, TrailExtends, VarsBelow}
use Rattle.sy_cdcl.specs.Watching.{list_of, pair_of, IsIn, list_at, enlisted, delisted, IsWatched, IsGuarded, AllWatched, IsWatching}
use Rattle.sy_cdcl.specs.Visits.{IsApart, StaysWatched, MayStay, MayMove, MayForce}
use Rattle.sy_cdcl.proofs.Push.{some_is, same_values, extends_refl, extends_trans, vars_kept}
use Rattle.sy_cdcl.proofs.Listing.{in_enlisted, in_enlisted_new, in_delisted, in_delisted_other, list_of-injective, list_within}
use Rattle.sy_cdcl.proofs.Guards.{watched_more, watched_weaker, watched_next, watched_moved, watched_settled, falsified}

-- What holds before the visit to the clause at `place`: each clause is watched as if the entry was
-- visited, or stands at that place or later.
pub record IsVisiting (clauses : List Clause) (old t : Trail) (w : Watches) (head list place : ℕ) (e : Entry) : Type 0 where
  pub ready : TrailIsReady clauses t
  pub extends : TrailExtends old t
  pub vars : VarsBelow (vec_len t.values) clauses
  pub watching : IsWatching clauses t w
  pub unmoved : w.head ≡ head
  pub at : slice_get t.entries.items head ≡ Some e
  pub done : (n : ℕ) (c : Clause) → slice_get clauses n ≡ Some c →
      IsIn (list_at w.lists.items list) place n
      ⊎ IsWatched t.entries.items t.starts.items (head + 1) c (pair_of w.pairs.items n)

-- the literal that the entry makes false
pub record IsNegated (e : Entry) (a : Lit) : Type 0 where
  pub var : a.var ≡ e.literal.var
  pub sign : a.positive ≡ not e.literal.positive

pair_cases : (o : Option Pair) → (o ≡ None) ⊎ ((p : Pair) × (o ≡ Some p))
pair_cases None = inl refl
pair_cases (Some p) = inr (p, refl)

bool_cases : (b : Bool) → (b ≡ true) ⊎ (b ≡ false)
bool_cases true = inl refl
bool_cases false = inr refl

same_list : (l a : Lit) → same_literal l.var l.positive a.var a.positive ≡ true → list_of a ≡ list_of l
same_list l a h = let q = literal_is l.var l.positive a.var a.positive h in rw (q.0, q.1) refl

past_head : (clauses : List Clause) (t : Trail) (w : Watches) (head : ℕ) → IsWatching clauses t w → w.head ≡ head →
    (k s : ℕ) → slice_get t.starts.items k ≡ Some s → s ≤ head
past_head clauses t w head i e k s h = let p = i.past k s h in omega arith

pub visiting_first : (clauses : List Clause) (t : Trail) (w : Watches) (e : Entry) (a : Lit) (list : ℕ) → TrailIsReady clauses t →
    VarsBelow (vec_len t.values) clauses → IsWatching clauses t w → slice_get t.entries.items w.head ≡ Some e → IsNegated e a →
    list ≡ list_of a → IsVisiting clauses t t w w.head list 0 e
visiting_first clauses t w e a list r v i at f l = record {
  ready = r;
  extends = extends_refl t;
  vars = v;
  watching = i;
  unmoved = refl;
  at = at;
  done = λ n c h.
      ⊎_elim
      (λ (q : pair_of w.pairs.items n ≡ None).
      inr (watched_next t.entries.items t.starts.items w.head c (pair_of w.pairs.items n) e a i.past at f.var f.sign
      (λ p g. absurd (let z : None ≡ Some p = sym q ∙ g in cc)) (i.watched n c h)))
      (λ (q : (p : Pair) × (pair_of w.pairs.items n ≡ Some p)).
      let pair = q.0 in
      let x = i.listed n pair q.1 in
      ⊎_elim
      (λ (s : same_literal pair.first.var pair.first.positive a.var a.positive ≡ true).
      inl (subst (λ (k : ℕ). IsIn (list_at w.lists.items k) 0 n) (sym (l ∙ same_list pair.first a s)) x.0))
      (λ (s : same_literal pair.first.var pair.first.positive a.var a.positive ≡ false).
      ⊎_elim
      (λ (u : same_literal pair.second.var pair.second.positive a.var a.positive ≡ true).
      inl (subst (λ (k : ℕ). IsIn (list_at w.lists.items k) 0 n) (sym (l ∙ same_list pair.second a u)) x.1))
      (λ (u : same_literal pair.second.var pair.second.positive a.var a.positive ≡ false).
      inr (watched_next t.entries.items t.starts.items w.head c (pair_of w.pairs.items n) e a i.past at f.var f.sign
      (λ p g. inl (subst (λ (y : Pair). IsApart y a) (some_is (sym q.1 ∙ g)) record { first = s; second = u })) (i.watched n c h)))
      (bool_cases (same_literal pair.second.var pair.second.positive a.var a.positive)))
      (bool_cases (same_literal pair.first.var pair.first.positive a.var a.positive)))
      (pair_cases (pair_of w.pairs.items n));
}

later : (place q : ℕ) → place ≤ q → (place + 1 ≤ q) ⊎ (q ≡ place)
later place q h = grind arith

-- the clause stays where it is
pub visiting_stayed : (clauses : List Clause) (old t : Trail) (w : Watches) (head list place n : ℕ) (e : Entry) (a : Lit) → IsNegated e a →
    IsVisiting clauses old t w head list place e → slice_get (list_at w.lists.items list) place ≡ Some n →
    MayStay clauses (kept_values t.values.items) w.pairs.items a n → IsVisiting clauses old t w head list (place + 1) e
visiting_stayed clauses old t w head list place n e a f i here s =
    let s' = subst (λ (g : Partial). MayStay clauses g w.pairs.items a n) (same_values t i.ready.assignment.agrees) s in
    record {
      ready = i.ready;
      extends = i.extends;
      vars = i.vars;
      watching = i.watching;
      unmoved = i.unmoved;
      at = i.at;
      done = λ m c h.
          ⊎_elim
          (λ (x : IsIn (list_at w.lists.items list) place m).
          ⊎_elim (λ (q : place + 1 ≤ x.place). inl record { place = x.place; later = q; at = x.at })
          (λ (q : x.place ≡ place).
          let same : n ≡ m = some_is (sym here ∙ ap (slice_get (list_at w.lists.items list)) (sym q) ∙ x.at) in
          inr (watched_next t.entries.items t.starts.items head c (pair_of w.pairs.items m) e a
          (past_head clauses t w head i.watching i.unmoved) i.at f.var f.sign
          (λ p g. s' c p (ap (slice_get clauses) same ∙ h) (ap (pair_of w.pairs.items) same ∙ g))
          (subst (λ (k : ℕ). IsWatched t.entries.items t.starts.items k c (pair_of w.pairs.items m)) i.unmoved (i.watching.watched m c h))))
          (later place x.place x.later))
          (λ (x : IsWatched t.entries.items t.starts.items (head + 1) c (pair_of w.pairs.items m)). inr x)
          (i.done m c h);
    }

all_more : (clauses : List Clause) (t new : Trail) (head : ℕ) (pairs : List (Option Pair)) (e : Entry) → head ≤ length t.entries.items →
    new.entries.items ≡ t.entries.items ++ e ∷ [] → new.starts.items ≡ t.starts.items → (n : ℕ) (c : Clause) →
    IsWatched t.entries.items t.starts.items head c (pair_of pairs n) → IsWatched new.entries.items new.starts.items head c (pair_of pairs n)
all_more clauses t new head pairs e l es ss n c w =
    subst (λ (xs : List Entry). IsWatched xs new.starts.items head c (pair_of pairs n)) (sym es)
    (subst (λ (xs : List ℕ). IsWatched (t.entries.items ++ e ∷ []) xs head c (pair_of pairs n)) (sym ss)
    (watched_more t.entries.items t.starts.items head c (pair_of pairs n) e l w))

-- one entry more
pub watching_more : (clauses : List Clause) (t new : Trail) (w : Watches) (e : Entry) → new.entries.items ≡ t.entries.items ++ e ∷ [] →
    new.starts.items ≡ t.starts.items → vec_len new.values ≡ vec_len t.values → IsWatching clauses t w → IsWatching clauses new w
watching_more clauses t new w e es ss vs i =
    let head = i.head in
    let long : length new.entries.items ≡ length t.entries.items + 1 = ap length es ∙ length-append t.entries.items (e ∷ []) in
    record {
      pairs = i.pairs;
      lists = i.lists ∙ ap (λ (n : ℕ). 2 * n) (sym vs);
      head = omega arith;
      past = λ k s h. i.past k s (subst (λ (xs : List ℕ). slice_get xs k ≡ Some s) ss h);
      watched = λ n c h. all_more clauses t new w.head w.pairs.items e i.head es ss n c (i.watched n c h);
      listed = i.listed;
    }

-- the last entry's literal is true
pub true_last : (clauses : List Clause) (t new : Trail) (e : Entry) → TrailIsReady clauses new → new.entries.items ≡ t.entries.items ++ e ∷ [] →
    kept_values new.values.items e.literal.var ≡ Some e.literal.positive
true_last clauses t new e r es =
    let n = length t.entries.items in
    let at : slice_get new.entries.items n ≡ Some e = subst (λ (xs : List Entry). slice_get xs n ≡ Some e) (sym es) (get_end t.entries.items e) in
    let within = slice_get_within new.entries.items n e at in
    r.assignment.agrees e.literal.var
    ∙ ap (λ (ys : List Entry). entries_values ys e.literal.var) (sym (take_all (length new.entries.items) new.entries.items (omega arith)))
    ∙ value_at new.entries.items (length new.entries.items) n e r.assignment.once within at
  where
    get_end : (xs : List Entry) (x : Entry) → slice_get (xs ++ x ∷ []) (length xs) ≡ Some x
    get_end [] x = refl
    get_end (y ∷ ys) x = get_end ys x

-- the clause forces a literal, whose entry makes it true
pub visiting_forced : (clauses : List Clause) (old t new : Trail) (w : Watches) (head list place n : ℕ) (e : Entry) (a l : Lit) (reason : Option ℕ) →
    IsNegated e a → IsVisiting clauses old t w head list place e → slice_get (list_at w.lists.items list) place ≡ Some n →
    MayForce clauses (kept_values t.values.items) n l → TrailIsReady clauses new →
    new.entries.items ≡ t.entries.items ++ record { literal = l; reason = reason } ∷ [] → TrailExtends t new →
    IsVisiting clauses old new w head list (place + 1) e
visiting_forced clauses old t new w head list place n e a l reason f i here m r es x =
    let added : Entry = record { literal = l; reason = reason } in
    let moved = watching_more clauses t new w added es x.starts x.vars i.watching in
    let within = slice_get_within t.entries.items head e i.at in
    let at : slice_get new.entries.items head ≡ Some e =
    subst (λ (xs : List Entry). slice_get xs head ≡ Some e) (sym es) (get_old t.entries.items added e head i.at) in
    let is_true : kept_values new.values.items l.var ≡ Some l.positive = true_last clauses t new added r es in
    let true_in : HasTrue (kept_values new.values.items) m.clause = record { var = l.var; positive = l.positive; has = m.unit.has; is_true = is_true } in
    visiting_stayed clauses old new w head list place n e a f
    record {
      ready = r;
      extends = extends_trans old t new i.extends x;
      vars = vars_kept clauses t new x i.vars;
      watching = moved;
      unmoved = i.unmoved;
      at = at;
      done = λ k c h.
          ⊎_elim (λ (y : IsIn (list_at w.lists.items list) place k). inl y)
          (λ (y : IsWatched t.entries.items t.starts.items (head + 1) c (pair_of w.pairs.items k)).
          inr (all_more clauses t new (head + 1) w.pairs.items added (omega arith) es x.starts k c y))
          (i.done k c h);
    }
    here
    (λ c pair h g. inr (subst (λ (d : Clause). HasTrue (kept_values new.values.items) d) (some_is (sym m.at ∙ h)) true_in))
  where
    get_old : (xs : List Entry) (x y : Entry) (k : ℕ) → slice_get xs k ≡ Some y → slice_get (xs ++ x ∷ []) k ≡ Some y
    get_old [] x y k h = cc
    get_old (z ∷ zs) x y zero h = h
    get_old (z ∷ zs) x y (suc k) h = get_old zs x y k h

-- the clause watches another literal
pub visiting_moved : (clauses : List Clause) (old t : Trail) (w new : Watches) (head list place n : ℕ) (e : Entry) (a : Lit) (pair : Pair) →
    IsNegated e a → list ≡ list_of a → IsVisiting clauses old t w head list place e → slice_get (list_at w.lists.items list) place ≡ Some n →
    list < length w.lists.items → list_of pair.second < length w.lists.items → n < length w.pairs.items →
    MayMove clauses (kept_values t.values.items) w.pairs.items a n pair →
    new.lists.items ≡ enlisted (delisted w.lists.items list place) (list_of pair.second) n →
    new.pairs.items ≡ set w.pairs.items n (Some pair) → new.head ≡ w.head →
    IsVisiting clauses old t new head list place e
visiting_moved clauses old t w new head list place n e a pair f la i here inside inside' number m ls ps hs =
    let m' = subst (λ (g : Partial). MayMove clauses g w.pairs.items a n pair) (same_values t i.ready.assignment.agrees) m in
    let thin = delisted w.lists.items list place in
    let long : list_of pair.second < length thin =
    omega (arith, length-set w.lists.items list (swap_remove (list_at w.lists.items list) place 0)) in
    let own : pair_of new.pairs.items n ≡ Some pair = ap (λ (xs : List (Option Pair)). pair_of xs n) ps ∙ get_or-set_same w.pairs.items n (Some pair) None number in
    let others : (k : ℕ) → k ≢ n → pair_of new.pairs.items k ≡ pair_of w.pairs.items k =
    λ k d. ap (λ (xs : List (Option Pair)). pair_of xs k) ps ∙ get_or-set_other w.pairs.items n k (Some pair) None d in
    let guarded : IsGuarded t.entries.items t.starts.items (head + 1) m.clause pair =
    watched_moved t.entries.items t.starts.items head m.clause m.old pair e a i.ready.assignment.once i.at f.var f.sign m.stays m'.other
    (subst (λ (k : ℕ). IsWatched t.entries.items t.starts.items k m.clause (Some m.old)) i.unmoved
    (subst (λ (o : Option Pair). IsWatched t.entries.items t.starts.items w.head m.clause o) m.had (i.watching.watched n m.clause m.at))) in
    let visited : (c : Clause) → slice_get clauses n ≡ Some c → IsWatched t.entries.items t.starts.items (head + 1) c (pair_of new.pairs.items n) =
    λ c h. subst (λ (o : Option Pair). IsWatched t.entries.items t.starts.items (head + 1) c o) (sym own)
    (subst (λ (d : Clause). IsGuarded t.entries.items t.starts.items (head + 1) d pair) (some_is (sym m.at ∙ h)) guarded) in
    let stays : (j from k : ℕ) → from ≤ place → k ≢ n → IsIn (list_at w.lists.items j) from k → IsIn (list_at new.lists.items j) from k =
    λ j from k l d x. subst (λ (xs : List (List ℕ)). IsIn (list_at xs j) from k) (sym ls)
    (in_enlisted thin (list_of pair.second) j n from k long (in_delisted w.lists.items list j place n from k inside here d l x)) in
    record {
      ready = i.ready;
      extends = i.extends;
      vars = i.vars;
      watching = record {
        pairs = ap length ps ∙ length-set w.pairs.items n (Some pair) ∙ i.watching.pairs;
        lists = ap length ls ∙ length-set thin (list_of pair.second) (list_at thin (list_of pair.second) ++ n ∷ [])
            ∙ length-set w.lists.items list (swap_remove (list_at w.lists.items list) place 0) ∙ i.watching.lists;
        head = let h = i.watching.head in omega arith;
        past = λ k s h. let p = i.watching.past k s h in omega arith;
        watched = λ k c h.
            subst (λ (x : ℕ). IsWatched t.entries.items t.starts.items x c (pair_of new.pairs.items k)) (sym (hs ∙ i.unmoved))
            (⊎_elim
            (λ (q : (eqb k n ≡ true) × (k ≡ n)).
            watched_weaker t.entries.items t.starts.items head c (pair_of new.pairs.items k)
            (subst (λ (x : ℕ). IsWatched t.entries.items t.starts.items (head + 1) c (pair_of new.pairs.items x)) (sym q.1)
            (visited c (ap (slice_get clauses) (sym q.1) ∙ h))))
            (λ (q : (eqb k n ≡ false) × (k ≢ n)).
            subst (λ (o : Option Pair). IsWatched t.entries.items t.starts.items head c o) (sym (others k q.1))
            (subst (λ (x : ℕ). IsWatched t.entries.items t.starts.items x c (pair_of w.pairs.items k)) i.unmoved (i.watching.watched k c h)))
            (eqb_tells k n));
        listed = λ k p h.
            ⊎_elim
            (λ (q : (eqb k n ≡ true) × (k ≡ n)).
            let same : pair ≡ p = some_is (sym own ∙ ap (pair_of new.pairs.items) (sym q.1) ∙ h) in
            let x = i.watching.listed n m.old m.had in
            let was : IsIn (list_at w.lists.items (list_of pair.first)) 0 n =
            ⊎_elim
            (λ (b : pair.first ≡ m.old.first). subst (λ (l : Lit). IsIn (list_at w.lists.items (list_of l)) 0 n) (sym b) x.0)
            (λ (b : pair.first ≡ m.old.second). subst (λ (l : Lit). IsIn (list_at w.lists.items (list_of l)) 0 n) (sym b) x.1)
            m.stays.one in
            let both : IsIn (list_at new.lists.items (list_of pair.first)) 0 n × IsIn (list_at new.lists.items (list_of pair.second)) 0 n = (
              subst (λ (xs : List (List ℕ)). IsIn (list_at xs (list_of pair.first)) 0 n) (sym ls)
                  (in_enlisted thin (list_of pair.second) (list_of pair.first) n 0 n long
                  (in_delisted_other w.lists.items list (list_of pair.first) place 0 n
                  (λ y. first_other m.old a pair m.stays (y ∙ la)) was)),
              subst (λ (xs : List (List ℕ)). IsIn (list_at xs (list_of pair.second)) 0 n) (sym ls)
                  (in_enlisted_new thin (list_of pair.second) n long),
            ) in
            subst (λ (y : ℕ). IsIn (list_at new.lists.items (list_of p.first)) 0 y × IsIn (list_at new.lists.items (list_of p.second)) 0 y) (sym q.1)
            (subst (λ (y : Pair). IsIn (list_at new.lists.items (list_of y.first)) 0 n × IsIn (list_at new.lists.items (list_of y.second)) 0 n) same both))
            (λ (q : (eqb k n ≡ false) × (k ≢ n)).
            let x = i.watching.listed k p (sym (others k q.1) ∙ h) in
            (stays (list_of p.first) 0 k (omega arith) q.1 x.0, stays (list_of p.second) 0 k (omega arith) q.1 x.1))
            (eqb_tells k n);
      };
      unmoved = hs ∙ i.unmoved;
      at = i.at;
      done = λ k c h.
          ⊎_elim
          (λ (q : (eqb k n ≡ true) × (k ≡ n)).
          inr (subst (λ (x : ℕ). IsWatched t.entries.items t.starts.items (head + 1) c (pair_of new.pairs.items x)) (sym q.1)
          (visited c (ap (slice_get clauses) (sym q.1) ∙ h))))
          (λ (q : (eqb k n ≡ false) × (k ≢ n)).
          ⊎_elim (λ (x : IsIn (list_at w.lists.items list) place k). inl (stays list place k (omega arith) q.1 x))
          (λ (x : IsWatched t.entries.items t.starts.items (head + 1) c (pair_of w.pairs.items k)).
          inr (subst (λ (o : Option Pair). IsWatched t.entries.items t.starts.items (head + 1) c o) (sym (others k q.1)) x))
          (i.done k c h))
          (eqb_tells k n);
    }
  where
    -- the other literal is another one
    first_other : (had : Pair) (a : Lit) (pair : Pair) → StaysWatched had a pair.first → list_of pair.first ≡ list_of a → ⊥
    first_other had a pair stays l = let z : true ≡ false = sym (list_of-injective pair.first a l) ∙ stays.apart in cc

-- the list that is visited is shorter by the clause
pub visiting_shorter : (clauses : List Clause) (old t : Trail) (w new : Watches) (head list place n : ℕ) (e : Entry) (a : Lit) (pair : Pair) →
    IsNegated e a → list ≡ list_of a → IsVisiting clauses old t w head list place e → slice_get (list_at w.lists.items list) place ≡ Some n →
    MayMove clauses (kept_values t.values.items) w.pairs.items a n pair →
    new.lists.items ≡ enlisted (delisted w.lists.items list place) (list_of pair.second) n →
    length (list_at new.lists.items list) - place < length (list_at w.lists.items list) - place
visiting_shorter clauses old t w new head list place n e a pair f la i here m ls =
    let inside = list_within w.lists.items list place n here in
    let within = slice_get_within (list_at w.lists.items list) place n here in
    let thin = delisted w.lists.items list place in
    let less = swap_remove (list_at w.lists.items list) place 0 in
    let is_false : kept_values t.values.items a.var ≡ Some (not a.positive) =
    i.ready.assignment.agrees a.var
    ∙ falsified t.entries.items head e a i.ready.assignment.once i.at record { var = sym f.var; sign = sym (not_not e.literal.positive) ∙ ap not (sym f.sign) } in
    let apart : list ≢ list_of pair.second =
    λ q. (let x = literal_is pair.second.var pair.second.positive a.var a.positive (list_of-injective pair.second a (sym q ∙ la)) in
    m.other.not_false (subst (λ (b : Bool). kept_values t.values.items pair.second.var ≡ Some (not b)) x.1
    (subst (λ (v : ℕ). kept_values t.values.items v ≡ Some (not a.positive)) x.0 is_false))) in
    let same : list_at new.lists.items list ≡ less =
    ap (λ (xs : List (List ℕ)). list_at xs list) ls
    ∙ get_or-set_other thin (list_of pair.second) list (list_at thin (list_of pair.second) ++ n ∷ []) [] apart
    ∙ get_or-set_same w.lists.items list less [] inside in
    let short : length less ≡ length (list_at w.lists.items list) - 1 =
    (let x = length-set (list_at w.lists.items list) place (get_or (list_at w.lists.items list) (length (list_at w.lists.items list) - 1) 0) in
    let y = length-take (length (list_at w.lists.items list) - 1) (set (list_at w.lists.items list) place (get_or (list_at w.lists.items list) (length (list_at w.lists.items list) - 1) 0)) in
    omega arith) in
    let l = ap length same in omega arith

-- no clause is left in the list
pub visiting_last : (clauses : List Clause) (old t : Trail) (w : Watches) (head list place : ℕ) (e : Entry) →
    IsVisiting clauses old t w head list place e → slice_get (list_at w.lists.items list) place ≡ None →
    AllWatched clauses t (head + 1) w.pairs.items
visiting_last clauses old t w head list place e i none n c h =
    ⊎_elim
    (λ (x : IsIn (list_at w.lists.items list) place n).
    let l = x.later in
    let k = slice_get_within (list_at w.lists.items list) x.place n x.at in
    let y = slice_get-get_or (list_at w.lists.items list) place 0 (omega arith) in
    absurd (let z : None ≡ Some (get_or (list_at w.lists.items list) place 0) = sym none ∙ y in cc))
    (λ (x : IsWatched t.entries.items t.starts.items (head + 1) c (pair_of w.pairs.items n)). x)
    (i.done n c h)

-- one entry more was visited
pub watching_next : (clauses : List Clause) (t : Trail) (w new : Watches) → IsWatching clauses t w → w.head < length t.entries.items →
    AllWatched clauses t (w.head + 1) w.pairs.items → new.pairs.items ≡ w.pairs.items → new.lists.items ≡ w.lists.items →
    new.head ≡ w.head + 1 → IsWatching clauses t new
watching_next clauses t w new i l a ps ls hs = record {
  pairs = ap length ps ∙ i.pairs;
  lists = ap length ls ∙ i.lists;
  head = omega arith;
  past = λ k s h. let p = i.past k s h in omega arith;
  watched = λ n c h.
      subst (λ (x : ℕ). IsWatched t.entries.items t.starts.items x c (pair_of new.pairs.items n)) (sym hs)
      (subst (λ (xs : List (Option Pair)). IsWatched t.entries.items t.starts.items (w.head + 1) c (pair_of xs n)) (sym ps) (a n c h));
  listed = λ n pair h.
      subst (λ (xs : List (List ℕ)). IsIn (list_at xs (list_of pair.first)) 0 n × IsIn (list_at xs (list_of pair.second)) 0 n) (sym ls)
      (i.listed n pair (subst (λ (xs : List (Option Pair)). pair_of xs n ≡ Some pair) ps h));
}

-- all entries were visited
pub all_settled : (clauses : List Clause) (t : Trail) (w : Watches) → TrailIsReady clauses t → IsWatching clauses t w →
    w.head ≡ length t.entries.items → AllSettled (kept_values t.values.items) clauses
all_settled clauses t w r i h n c at =
    subst (λ (g : Partial). ClauseIsSettled g c) (sym (same_values t r.assignment.agrees))
    (watched_settled t.entries.items t.starts.items c (pair_of w.pairs.items n) r.assignment.once
    (subst (λ (x : ℕ). IsWatched t.entries.items t.starts.items x c (pair_of w.pairs.items n)) h (i.watched n c at)))

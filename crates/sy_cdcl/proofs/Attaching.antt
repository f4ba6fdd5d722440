-- Clauses that come under watch: those of the formula, and those that are learned.
use Rattle.std.proofs.Common.{rules, ◌≡◌, ℕ, zero, suc, ◌+◌, ◌*◌, ◌<◌, ◌≤◌, Bool, true, false, not, List, [], ◌∷◌, ◌++◌, length, length-append, take, refl, sym, ap, subst, ◌∙◌, arith, Some, None, Option, inl, inr, ⊎_elim, ◌⊎◌, vec_len}
use Rattle.std.specs.Prelude.{slice_get, MatchOption, IfSome}
use Rattle.std.proofs.lemmas.Option.{slice_get_within}
use Rattle.std.proofs.lemmas.List.{length-set, length-take-le, take_all}
use Rattle.sy_clauses.specs.declared.Lit.{Lit}
use Rattle.sy_clauses.specs.Clauses.{Clause, same_literal}
use Rattle.sy_clauses.specs.New.{IsUnit, HasTrue, HasTwoOpen}
use Rattle.sy_clauses.proofs.Sets.{literal_is, same_self}
use Rattle.sy_cdcl_literals.specs.declared.entries.Entry.{Entry}
use Rattle.sy_cdcl.specs.declared.trail.Trail.{Trail}
use Rattle.sy_cdcl_literals.specs.declared.outcomes.Pair.{Pair}
use Rattle.sy_cdcl.specs.declared.watches.Watches.{Watches}
use Rattle.sy_cdcl.specs.Trails.{entries_values, kept_values, TrailIsReady, TrailExtends, EachOnce}
use Rattle.sy_cdcl_literals.specs.Falsified.{SomeFalsified, NoneFalsified}
use Rattle.sy_cdcl.specs.Conflicts.{OpenAtLevels, IsTakenBack, IsLastFalsified, LastFits}
use Rattle.sy_cdcl.specs.Watching.{list_of, pair_of, IsIn, list_at, enlisted, Falsifies, IsRooted, IsGuarded, IsWatched, AllListed, IsWatching, IsAttached, IsSkipped, IsPaired}
use Rattle.sy_cdcl.specs.Visits.{IsAnother}
use Rattle.sy_cdcl.proofs.Push.{some_is}
use Rattle.sy_cdcl.proofs.Places.{source, not_source, one_place}
use Rattle.sy_cdcl.proofs.Learning.{never, not_not}
use Rattle.sy_cdcl.proofs.Back.{get_taken}
use Rattle.sy_cdcl.proofs.Listing.{listed_more, listed_skipped, list_of-lt}
use Rattle.sy_cdcl.proofs.Guards.{watched_more, watched_begun, watched_left}

get_end : {X : Type 0} → (xs : List X) (x : X) → slice_get (xs ++ x ∷ []) (length xs) ≡ Some x
get_end [] x = refl
get_end (y ∷ ys) x = get_end ys x

pair_before : (ps : List (Option Pair)) (o : Option Pair) (n : ℕ) → n < length ps → pair_of (ps ++ o ∷ []) n ≡ pair_of ps n
pair_before [] o n h = absurd (omega arith)
pair_before (x ∷ xs) o zero h = refl
pair_before (x ∷ xs) o (suc n) h = pair_before xs o n (omega arith)

pair_end : (ps : List (Option Pair)) (o : Option Pair) → pair_of (ps ++ o ∷ []) (length ps) ≡ o
pair_end [] o = refl
pair_end (x ∷ xs) o = pair_end xs o

-- what is at a place of the first entries is there in all of them
get_longer : (es more : List Entry) (k : ℕ) (x : Entry) → take (length es) more ≡ es → slice_get es k ≡ Some x → slice_get more k ≡ Some x
get_longer es more k x f h = (get_taken more (length es) k x (subst (λ (xs : List Entry). slice_get xs k ≡ Some x) (sym f) h)).1

-- before any visit nothing is asked of the entries but those of clauses without a pair
watched_unvisited : (es more : List Entry) (starts : List ℕ) (c : Clause) (o : Option Pair) → take (length es) more ≡ es →
    IsWatched es starts 0 c o → IsWatched more starts 0 c o
watched_unvisited es more starts c None f w = record {
  place = w.place;
  entry = w.entry;
  at = get_longer es more w.place w.entry f w.at;
  has = w.has;
  lower = w.lower;
}
watched_unvisited es more starts c (Some pair) f w = record {
  has_first = w.has_first;
  has_second = w.has_second;
  different = w.different;
  backed = λ p x k at g. absurd (omega arith);
}

last_or : (p n : ℕ) → p < n + 1 → (p < n) ⊎ (p ≡ n)
last_or p n h = grind arith

-- no clause is watched yet
pub attached_first : (clauses : List Clause) (t : Trail) (w : Watches) → t.starts.items ≡ [] → w.pairs.items ≡ [] →
    length w.lists.items ≡ 2 * vec_len t.values → w.head ≡ 0 → IsAttached clauses t w 0
attached_first clauses t w ss ps ls h = record {
  lowest = ss;
  pairs = ap length ps;
  lists = ls;
  head = h;
  watched = λ n c l at. absurd (omega arith);
  listed = λ n pair e. absurd (let z : pair_of [] n ≡ Some pair = subst (λ (xs : List (Option Pair)). pair_of xs n ≡ Some pair) ps e in cc);
}

-- the next clause watches two of its literals
pub attached_paired : (clauses : List Clause) (t : Trail) (w new : Watches) (n : ℕ) (c : Clause) (pair : Pair) → IsAttached clauses t w n →
    slice_get clauses n ≡ Some c → c pair.first.var pair.first.positive ≡ true → IsAnother c pair.first pair.second →
    list_of pair.first < length w.lists.items → list_of pair.second < length w.lists.items →
    new.lists.items ≡ enlisted (enlisted w.lists.items (list_of pair.first) n) (list_of pair.second) n →
    new.pairs.items ≡ w.pairs.items ++ Some pair ∷ [] → new.head ≡ w.head → IsAttached clauses t new (n + 1)
attached_paired clauses t w new n c pair i at has other inside inside' ls ps hs =
    let once = enlisted w.lists.items (list_of pair.first) n in
    record {
      lowest = i.lowest;
      pairs = ap length ps ∙ length-append w.pairs.items (Some pair ∷ []) ∙ ap (λ (k : ℕ). k + 1) i.pairs;
      lists = ap length ls ∙ length-set once (list_of pair.second) (list_at once (list_of pair.second) ++ n ∷ [])
          ∙ length-set w.lists.items (list_of pair.first) (list_at w.lists.items (list_of pair.first) ++ n ∷ []) ∙ i.lists;
      head = hs ∙ i.head;
      watched = λ k d l h.
          subst (λ (xs : List (Option Pair)). IsWatched t.entries.items t.starts.items 0 d (pair_of xs k)) (sym ps)
          (⊎_elim
          (λ (q : k < n).
          let z = i.pairs in
          subst (λ (o : Option Pair). IsWatched t.entries.items t.starts.items 0 d o) (sym (pair_before w.pairs.items (Some pair) k (omega arith)))
          (i.watched k d q h))
          (λ (q : k ≡ n).
          let own : pair_of (w.pairs.items ++ Some pair ∷ []) k ≡ Some pair =
          ap (pair_of (w.pairs.items ++ Some pair ∷ [])) (q ∙ sym i.pairs) ∙ pair_end w.pairs.items (Some pair) in
          let same : c ≡ d = some_is (sym at ∙ ap (slice_get clauses) (sym q) ∙ h) in
          let guarded : IsGuarded t.entries.items t.starts.items 0 c pair =
          record { has_first = has; has_second = other.has; different = other.different; backed = λ p x m here g. absurd (omega arith) } in
          subst (λ (o : Option Pair). IsWatched t.entries.items t.starts.items 0 d o) (sym own)
          (subst (λ (y : Clause). IsGuarded t.entries.items t.starts.items 0 y pair) same guarded))
          (last_or k n l));
      listed = subst (λ (xs : List (List ℕ)). AllListed xs new.pairs.items) (sym ls)
          (subst (λ (xs : List (Option Pair)). AllListed (enlisted once (list_of pair.second) n) xs) (sym ps)
          (subst (λ (m : ℕ). AllListed (enlisted (enlisted w.lists.items (list_of pair.first) m) (list_of pair.second) m) (w.pairs.items ++ Some pair ∷ [])) i.pairs
          (listed_more w.lists.items w.pairs.items pair inside inside' i.listed)));
    }

-- the next clause has one literal, which is true
pub attached_skipped : (clauses : List Clause) (old t : Trail) (w new : Watches) (n : ℕ) (c : Clause) → TrailIsReady clauses t → TrailExtends old t →
    IsAttached clauses old w n → slice_get clauses n ≡ Some c → HasTrue (kept_values t.values.items) c →
    new.lists.items ≡ w.lists.items → new.pairs.items ≡ w.pairs.items ++ None ∷ [] → new.head ≡ w.head → IsAttached clauses t new (n + 1)
attached_skipped clauses old t w new n c r x i at true_in ls ps hs =
    let es = t.entries.items in
    let lowest : t.starts.items ≡ [] = x.starts ∙ i.lowest in
    let whole : take (length es) es ≡ es = take_all (length es) es (omega arith) in
    let value : entries_values (take (length es) es) true_in.var ≡ Some true_in.positive =
    ap (λ (xs : List Entry). entries_values xs true_in.var) whole ∙ sym (r.assignment.agrees true_in.var) ∙ true_in.is_true in
    let s = source es (length es) true_in.var true_in.positive value in
    let rooted : IsRooted es t.starts.items c = record {
      place = s.place;
      entry = s.entry;
      at = s.at;
      has = subst (λ (v : ℕ). c v s.entry.literal.positive ≡ true) (sym s.var) (subst (λ (b : Bool). c true_in.var b ≡ true) (sym s.value) true_in.has);
      lower = λ k m h. absurd (let z : slice_get [] k ≡ Some m = subst (λ (xs : List ℕ). slice_get xs k ≡ Some m) lowest h in cc);
    } in
    record {
      lowest = lowest;
      pairs = ap length ps ∙ length-append w.pairs.items (None ∷ []) ∙ ap (λ (k : ℕ). k + 1) i.pairs;
      lists = ap length ls ∙ i.lists ∙ ap (λ (m : ℕ). 2 * m) (sym x.vars);
      head = hs ∙ i.head;
      watched = λ k d l h.
          subst (λ (xs : List (Option Pair)). IsWatched es t.starts.items 0 d (pair_of xs k)) (sym ps)
          (⊎_elim
          (λ (q : k < n).
          let z = i.pairs in
          subst (λ (o : Option Pair). IsWatched es t.starts.items 0 d o) (sym (pair_before w.pairs.items None k (omega arith)))
          (subst (λ (xs : List ℕ). IsWatched es xs 0 d (pair_of w.pairs.items k)) (sym x.starts)
          (watched_unvisited old.entries.items es old.starts.items d (pair_of w.pairs.items k) x.front (i.watched k d q h))))
          (λ (q : k ≡ n).
          let own : pair_of (w.pairs.items ++ None ∷ []) k ≡ None =
          ap (pair_of (w.pairs.items ++ None ∷ [])) (q ∙ sym i.pairs) ∙ pair_end w.pairs.items None in
          let same : c ≡ d = some_is (sym at ∙ ap (slice_get clauses) (sym q) ∙ h) in
          subst (λ (o : Option Pair). IsWatched es t.starts.items 0 d o) (sym own)
          (subst (λ (y : Clause). IsRooted es t.starts.items y) same rooted))
          (last_or k n l));
      listed = subst (λ (xs : List (List ℕ)). AllListed xs new.pairs.items) (sym ls)
          (subst (λ (xs : List (Option Pair)). AllListed w.lists.items xs) (sym ps) (listed_skipped w.lists.items w.pairs.items i.listed));
    }

-- all clauses are watched
pub attached_all : (clauses : List Clause) (t : Trail) (w : Watches) (n : ℕ) → IsAttached clauses t w n → length clauses ≤ n →
    n ≤ length clauses → IsWatching clauses t w
attached_all clauses t w n i l l' =
    let head = i.head in
    record {
      pairs = let p = i.pairs in omega arith;
      lists = i.lists;
      head = omega arith;
      past = λ k s h. absurd (let z : slice_get [] k ≡ Some s = subst (λ (xs : List ℕ). slice_get xs k ≡ Some s) i.lowest h in cc);
      watched = λ m c h.
          let z = slice_get_within clauses m c h in
          subst (λ (x : ℕ). IsWatched t.entries.items t.starts.items x c (pair_of w.pairs.items m)) (sym i.head) (i.watched m c (omega arith) h);
      listed = i.listed;
    }

-- a level begins
pub watching_decided : (clauses : List Clause) (t new : Trail) (w : Watches) (e : Entry) → IsWatching clauses t w →
    w.head ≡ length t.entries.items → new.entries.items ≡ t.entries.items ++ e ∷ [] →
    new.starts.items ≡ t.starts.items ++ length t.entries.items ∷ [] → vec_len new.values ≡ vec_len t.values → IsWatching clauses new w
watching_decided clauses t new w e i hs es ss vs =
    let long : length new.entries.items ≡ length t.entries.items + 1 = ap length es ∙ length-append t.entries.items (e ∷ []) in
    record {
      pairs = i.pairs;
      lists = i.lists ∙ ap (λ (n : ℕ). 2 * n) (sym vs);
      head = omega arith;
      past = λ k s h.
          ⊎_elim (λ (q : slice_get t.starts.items k ≡ Some s). i.past k s q) (λ (q : s ≡ length t.entries.items). omega arith)
          (start_cases t.starts.items (length t.entries.items) s k (subst (λ (xs : List ℕ). slice_get xs k ≡ Some s) ss h));
      watched = λ n c h.
          subst (λ (xs : List Entry). IsWatched xs new.starts.items w.head c (pair_of w.pairs.items n)) (sym es)
          (subst (λ (xs : List ℕ). IsWatched (t.entries.items ++ e ∷ []) xs w.head c (pair_of w.pairs.items n)) (sym ss)
          (watched_more t.entries.items (t.starts.items ++ length t.entries.items ∷ []) w.head c (pair_of w.pairs.items n) e (omega arith)
          (watched_begun t.entries.items t.starts.items w.head c (pair_of w.pairs.items n) (i.watched n c h))));
      listed = i.listed;
    }
  where
    start_cases : (xs : List ℕ) (x y k : ℕ) → slice_get (xs ++ x ∷ []) k ≡ Some y → (slice_get xs k ≡ Some y) ⊎ (y ≡ x)
    start_cases [] x y zero h = inr (sym (some_is h))
    start_cases [] x y (suc k) h = cc
    start_cases (z ∷ zs) x y zero h = inl h
    start_cases (z ∷ zs) x y (suc k) h = start_cases zs x y k h

-- all is taken back to where a level began
pub watching_back : (clauses : List Clause) (old new : Trail) (w w' : Watches) → TrailIsReady clauses old → IsWatching clauses old w → IsTakenBack old new →
    vec_len new.values ≡ vec_len old.values → w'.pairs.items ≡ w.pairs.items → w'.lists.items ≡ w.lists.items →
    w'.head ≡ length new.entries.items → IsWatching clauses new w'
watching_back clauses old new w w' r i b vs ps ls hs =
    let within = r.assignment.within b.level b.start b.began in
    let past = i.past b.level b.start b.began in
    let long : length new.entries.items ≡ b.start = ap length b.entries ∙ length-take-le b.start old.entries.items within in
    record {
      pairs = ap length ps ∙ i.pairs;
      lists = ap length ls ∙ i.lists ∙ ap (λ (n : ℕ). 2 * n) (sym vs);
      head = omega arith;
      past = λ k s h.
          let g = get_taken old.starts.items b.level k s (subst (λ (xs : List ℕ). slice_get xs k ≡ Some s) b.starts h) in
          let l = g.0 in
          let q = r.assignment.rising k b.level s b.start (omega arith) g.1 b.began in omega arith;
      watched = λ n c h.
          subst (λ (xs : List (Option Pair)). IsWatched new.entries.items new.starts.items w'.head c (pair_of xs n)) (sym ps)
          (subst (λ (x : ℕ). IsWatched new.entries.items new.starts.items x c (pair_of w.pairs.items n)) (sym (hs ∙ long))
          (subst (λ (xs : List Entry). IsWatched xs new.starts.items b.start c (pair_of w.pairs.items n)) (sym b.entries)
          (subst (λ (xs : List ℕ). IsWatched (take b.start old.entries.items) xs b.start c (pair_of w.pairs.items n)) (sym b.starts)
          (watched_left old.entries.items old.starts.items w.head c (pair_of w.pairs.items n) b.level b.start b.began past (i.watched n c h)))));
      listed = λ n pair h.
          subst (λ (xs : List (List ℕ)). IsIn (list_at xs (list_of pair.first)) 0 n × IsIn (list_at xs (list_of pair.second)) 0 n) (sym ls)
          (i.listed n pair (subst (λ (xs : List (Option Pair)). pair_of xs n ≡ Some pair) ps h));
    }

bool_cases : (b : Bool) → (b ≡ true) ⊎ (b ≡ false)
bool_cases true = inl refl
bool_cases false = inr refl

-- a literal other than the last one, open at the level's beginning, became false after it
other_from : (es : List Entry) (s : ℕ) (c : Clause) (l : Lit) (v : ℕ) (b : Bool) → IsUnit (entries_values es) c l.var l.positive → s ≤ length es →
    c v b ≡ true → same_literal l.var l.positive v b ≡ false → entries_values (take s es) v ≡ None → SomeFalsified es s (length es) c
other_from es s c l v b u within has apart none =
    let whole : take (length es) es ≡ es = take_all (length es) es (omega arith) in
    let x = source es (length es) v (not b) (ap (λ (xs : List Entry). entries_values xs v) whole ∙ u.others v b has apart) in
    record {
      place = x.place;
      entry = x.entry;
      from = ⊎_elim (λ (q : x.place < s). absurd (not_source es s v x.place x.entry none q x.at x.var)) (λ (q : s ≤ x.place). q) (split x.place s);
      to = x.within;
      at = x.at;
      hit = subst (λ (w : ℕ). c w (not x.entry.literal.positive) ≡ true) (sym x.var)
          (subst (λ (d : Bool). c v d ≡ true) (sym (ap not x.value ∙ not_not b)) has);
    }
  where
    split : (p q : ℕ) → (p < q) ⊎ (q ≤ p)
    split p q = grind arith

some_from : (es : List Entry) (s : ℕ) (c : Clause) (l : Lit) → IsUnit (entries_values es) c l.var l.positive → s ≤ length es →
    HasTwoOpen (entries_values (take s es)) c → SomeFalsified es s (length es) c
some_from es s c l u within o =
    ⊎_elim
    (λ (q : same_literal l.var l.positive o.var o.positive ≡ true).
    ⊎_elim
    (λ (r : same_literal l.var l.positive o.other_var o.other_positive ≡ true).
    let x = literal_is l.var l.positive o.var o.positive q in
    let y = literal_is l.var l.positive o.other_var o.other_positive r in
    let own : same_literal o.var o.positive o.other_var o.other_positive ≡ true =
    rw (x.0, x.1, y.0, y.1) (same_self l.var l.positive) in
    absurd (let z : true ≡ false = sym own ∙ o.different in cc))
    (λ (r : same_literal l.var l.positive o.other_var o.other_positive ≡ false).
    other_from es s c l o.other_var o.other_positive u within o.has_other r o.other_unvalued)
    (bool_cases (same_literal l.var l.positive o.other_var o.other_positive)))
    (λ (q : same_literal l.var l.positive o.var o.positive ≡ false).
    other_from es s c l o.var o.positive u within o.has q o.unvalued)
    (bool_cases (same_literal l.var l.positive o.var o.positive))

-- the learned clause, whose last literal is made true, without another literal
learned_rooted : (t : Trail) (c : Clause) (l : Lit) (e : Entry) → IsUnit (entries_values t.entries.items) c l.var l.positive → OpenAtLevels t c →
    ((k s : ℕ) → slice_get t.starts.items k ≡ Some s → s ≤ length t.entries.items) → NoneFalsified t.entries.items 0 (length t.entries.items) c →
    e.literal ≡ l → IsRooted (t.entries.items ++ e ∷ []) t.starts.items c
learned_rooted t c l e u o within none same = record {
  place = length t.entries.items;
  entry = e;
  at = get_end t.entries.items e;
  has = subst (λ (x : Lit). c x.var x.positive ≡ true) (sym same) u.has;
  lower = λ k s h.
      let f = some_from t.entries.items s c l u (within k s h) (o k s h) in
      absurd (let z : true ≡ false = sym f.hit ∙ none f.place f.entry (omega arith) f.to f.at in cc);
}

-- and with the literal that became false last
learned_guarded : (t : Trail) (c : Clause) (l : Lit) (e : Entry) (second : Lit) → EachOnce t.entries.items →
    IsUnit (entries_values t.entries.items) c l.var l.positive → OpenAtLevels t c →
    ((k s : ℕ) → slice_get t.starts.items k ≡ Some s → s ≤ length t.entries.items) → IsLastFalsified t.entries.items c second →
    e.literal ≡ l → IsGuarded (t.entries.items ++ e ∷ []) t.starts.items (length t.entries.items) c record { first = l; second = second }
learned_guarded t c l e second once u o within f same =
    let es = t.entries.items in
    let whole : take (length es) es ≡ es = take_all (length es) es (omega arith) in
    let none : entries_values (take (length es) es) l.var ≡ None = ap (λ (xs : List Entry). entries_values xs l.var) whole ∙ u.unvalued in
    let there = slice_get_within es f.place f.entry f.at in
    let last : slice_get (es ++ e ∷ []) (length es) ≡ Some e = get_end es e in
    let own : c e.literal.var e.literal.positive ≡ true = subst (λ (x : Lit). c x.var x.positive ≡ true) (sym same) u.has in
    record {
      has_first = u.has;
      has_second = f.has;
      different = never (same_literal l.var l.positive second.var second.positive)
          (λ q. not_source es (length es) l.var f.place f.entry none there f.at (sym f.var ∙ (literal_is l.var l.positive second.var second.positive q).0));
      backed = λ p x k at g.
          let here = get_before es e x p k at in
          ⊎_elim
          (λ (q : Falsifies x l). absurd (not_source es (length es) l.var p x none k here q.var))
          (λ (q : Falsifies x second).
          let same_place : p ≡ f.place = one_place es p f.place x f.entry once here f.at (q.var ∙ f.var) in
          record {
            place = length es;
            entry = e;
            at = last;
            has = own;
            lower = λ j s h m.
                let y = some_from es s c l u (within j s h) (o j s h) in
                let from = y.from in
                let to = y.to in
                absurd (⊎_elim
                (λ (z : f.place + 1 ≤ y.place). let w : true ≡ false = sym y.hit ∙ f.later y.place y.entry z y.to y.at in cc)
                (λ (z : y.place ≤ f.place). omega arith)
                (split f.place y.place));
          })
          g;
    }
  where
    split : (p q : ℕ) → (p + 1 ≤ q) ⊎ (q ≤ p)
    split p q = grind arith

    get_before : (es : List Entry) (e x : Entry) (p : ℕ) → p < length es → slice_get (es ++ e ∷ []) p ≡ Some x → slice_get es p ≡ Some x
    get_before [] e x p l h = absurd (omega arith)
    get_before (y ∷ ys) e x zero l h = h
    get_before (y ∷ ys) e x (suc p) l h = get_before ys e x p (omega arith) h

clause_cases : (xs : List Clause) (x y : Clause) (k : ℕ) → slice_get (xs ++ x ∷ []) k ≡ Some y →
    (slice_get xs k ≡ Some y) ⊎ ((x ≡ y) × (k ≡ length xs))
clause_cases [] x y zero h = inr (some_is h, refl)
clause_cases [] x y (suc k) h = cc
clause_cases (z ∷ zs) x y zero h = inl h
clause_cases (z ∷ zs) x y (suc k) h =
    ⊎_elim (λ (a : slice_get zs k ≡ Some y). inl a) (λ (b : (x ≡ y) × (k ≡ length zs)). inr (b.0, ap suc b.1))
    (clause_cases zs x y k h)

-- all clauses and one more are watched
all_and_one : (clauses : List Clause) (c : Clause) (t new : Trail) (w w' : Watches) (e : Entry) (o : Option Pair) →
    IsWatching clauses t w → new.entries.items ≡ t.entries.items ++ e ∷ [] → new.starts.items ≡ t.starts.items →
    w'.pairs.items ≡ w.pairs.items ++ o ∷ [] → w'.head ≡ w.head →
    IsWatched (t.entries.items ++ e ∷ []) t.starts.items w.head c o →
    (n : ℕ) (d : Clause) → slice_get (clauses ++ c ∷ []) n ≡ Some d → IsWatched new.entries.items new.starts.items w'.head d (pair_of w'.pairs.items n)
all_and_one clauses c t new w w' e o i es ss ps hs one n d at =
    let size = i.pairs in
    subst (λ (xs : List (Option Pair)). IsWatched new.entries.items new.starts.items w'.head d (pair_of xs n)) (sym ps)
    (subst (λ (x : ℕ). IsWatched new.entries.items new.starts.items x d (pair_of (w.pairs.items ++ o ∷ []) n)) (sym hs)
    (subst (λ (xs : List Entry). IsWatched xs new.starts.items w.head d (pair_of (w.pairs.items ++ o ∷ []) n)) (sym es)
    (subst (λ (xs : List ℕ). IsWatched (t.entries.items ++ e ∷ []) xs w.head d (pair_of (w.pairs.items ++ o ∷ []) n)) (sym ss)
    (⊎_elim
    (λ (a : slice_get clauses n ≡ Some d).
    let z = slice_get_within clauses n d a in
    subst (λ (p : Option Pair). IsWatched (t.entries.items ++ e ∷ []) t.starts.items w.head d p) (sym (pair_before w.pairs.items o n (omega arith)))
    (watched_more t.entries.items t.starts.items w.head d (pair_of w.pairs.items n) e i.head (i.watched n d a)))
    (λ (a : (c ≡ d) × (n ≡ length clauses)).
    let own : pair_of (w.pairs.items ++ o ∷ []) n ≡ o = ap (pair_of (w.pairs.items ++ o ∷ [])) (a.1 ∙ sym i.pairs) ∙ pair_end w.pairs.items o in
    subst (λ (p : Option Pair). IsWatched (t.entries.items ++ e ∷ []) t.starts.items w.head d p) (sym own)
    (subst (λ (y : Clause). IsWatched (t.entries.items ++ e ∷ []) t.starts.items w.head y o) a.0 one))
    (clause_cases clauses c d n at)))))

-- a learned clause
pub watching_learned : (clauses : List Clause) (c : Clause) (t new : Trail) (w w' : Watches) (l : Lit) (last : Option Lit) (e : Entry) →
    TrailIsReady clauses t → IsWatching clauses t w → w.head ≡ length t.entries.items → IsUnit (entries_values t.entries.items) c l.var l.positive →
    OpenAtLevels t c → LastFits t.entries.items c last → ((v : ℕ) (s : Bool) → c v s ≡ true → v < vec_len t.values) →
    e.literal ≡ l → new.entries.items ≡ t.entries.items ++ e ∷ [] → new.starts.items ≡ t.starts.items → vec_len new.values ≡ vec_len t.values →
    MatchOption last (IsSkipped w w') (λ second. IsPaired w w' (length clauses) record { first = l; second = second }) →
    w'.head ≡ w.head → IsWatching (clauses ++ c ∷ []) new w'
watching_learned clauses c t new w w' l None e r i at_end u o f vars same es ss vs x hs =
    let long : length new.entries.items ≡ length t.entries.items + 1 = ap length es ∙ length-append t.entries.items (e ∷ []) in
    record {
      pairs = ap length x.pairs ∙ length-append w.pairs.items (None ∷ []) ∙ ap (λ (k : ℕ). k + 1) i.pairs ∙ sym (length-append clauses (c ∷ []));
      lists = ap length x.lists ∙ i.lists ∙ ap (λ (n : ℕ). 2 * n) (sym vs);
      head = omega arith;
      past = λ k s h. let p = i.past k s (subst (λ (xs : List ℕ). slice_get xs k ≡ Some s) ss h) in omega arith;
      watched = all_and_one clauses c t new w w' e None i es ss x.pairs hs (learned_rooted t c l e u o r.assignment.within f same);
      listed = subst (λ (xs : List (List ℕ)). AllListed xs w'.pairs.items) (sym x.lists)
          (subst (λ (xs : List (Option Pair)). AllListed w.lists.items xs) (sym x.pairs) (listed_skipped w.lists.items w.pairs.items i.listed));
    }
watching_learned clauses c t new w w' l (Some second) e r i at_end u o f vars same es ss vs x hs =
    let pair : Pair = record { first = l; second = second } in
    let long : length new.entries.items ≡ length t.entries.items + 1 = ap length es ∙ length-append t.entries.items (e ∷ []) in
    let n = length clauses in
    let once = enlisted w.lists.items (list_of l) n in
    let inside = list_of-lt l (vec_len t.values) (length w.lists.items) (vars l.var l.positive u.has) i.lists in
    let inside' = list_of-lt second (vec_len t.values) (length w.lists.items) (vars second.var second.positive f.has) i.lists in
    record {
      pairs = ap length x.pairs ∙ length-append w.pairs.items (Some pair ∷ []) ∙ ap (λ (k : ℕ). k + 1) i.pairs ∙ sym (length-append clauses (c ∷ []));
      lists = ap length x.lists ∙ length-set once (list_of second) (list_at once (list_of second) ++ n ∷ [])
          ∙ length-set w.lists.items (list_of l) (list_at w.lists.items (list_of l) ++ n ∷ []) ∙ i.lists ∙ ap (λ (k : ℕ). 2 * k) (sym vs);
      head = omega arith;
      past = λ k s h. let p = i.past k s (subst (λ (xs : List ℕ). slice_get xs k ≡ Some s) ss h) in omega arith;
      watched = all_and_one clauses c t new w w' e (Some pair) i es ss x.pairs hs
          (subst (λ (k : ℕ). IsGuarded (t.entries.items ++ e ∷ []) t.starts.items k c pair) (sym at_end)
          (learned_guarded t c l e second r.assignment.once u o r.assignment.within f same));
      listed = subst (λ (xs : List (List ℕ)). AllListed xs w'.pairs.items) (sym x.lists)
          (subst (λ (xs : List (Option Pair)). AllListed (enlisted once (list_of second) n) xs) (sym x.pairs)
          (subst (λ (m : ℕ). AllListed (enlisted (enlisted w.lists.items (list_of l) m) (list_of second) m) (w.pairs.items ++ Some pair ∷ [])) i.pairs
          (listed_more w.lists.items w.pairs.items pair inside inside' i.listed)));
    }

-- the literal that became false last has a list
pub last_inside : (es : List Entry) (c : Clause) (last : Option Lit) (vars lists : ℕ) → LastFits es c last →
    ((v : ℕ) (s : Bool) → c v s ≡ true → v < vars) → lists ≡ 2 * vars → IfSome last (λ l. list_of l < lists)
last_inside es c None vars lists f b e = search rules
last_inside es c (Some l) vars lists f b e = list_of-lt l vars lists (b l.var l.positive f.has) e

-- where a list has nothing, it has ended
pub past : {X : Type 0} → (xs : List X) (k : ℕ) → slice_get xs k ≡ None → length xs ≤ k
past [] k h = omega arith
past (x ∷ xs) zero h = cc
past (x ∷ xs) (suc k) h = omega (arith, past xs k h)

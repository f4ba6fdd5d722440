-- Marks on the lines that are needed.
use Rattle.std.proofs.Common.{◌≡◌, ℕ, zero, suc, ◌+◌, ◌<◌, ◌≤◌, ◌⊎◌, inl, inr, ⊎_elim, Bool, true, false, ◌||◌, List, [], ◌∷◌, ◌++◌, refl, arith, ap, sym, subst, ◌∙◌, length, take, get_or, Some, replicate}
use Rattle.std.specs.Prelude.{slice_get, ◌==◌}
use Rattle.std.proofs.lemmas.List.{take_more}
use Rattle.std.proofs.lemmas.Option.{slice_get_within}
use Rattle.sy_clauses.specs.declared.Step.{Step}
use Rattle.sy_clauses.specs.declared.Line.{Line}
use Rattle.sy_clauses.specs.Names.{names, steps_name}
use Rattle.sy_clauses.specs.Needed.{needs, IsEarlierNamed, IsMarked, IsNeededBy, AreNeededFrom}

-- ---- marks one after the other
pub marked_more : (P Q R : ℕ → Type 0) (a b c : List Bool) → IsMarked P a b → IsMarked Q b c →
    ((e : ℕ) → R e → P e ⊎ Q e) → ((e : ℕ) → P e → R e) → ((e : ℕ) → Q e → R e) →
    IsMarked R a c
marked_more P Q R a b c m n split left right = record {
  long = n.long ∙ m.long;
  kept = λ e h. n.kept e (m.kept e h);
  added = λ e w r. ⊎_elim (λ (p : P e). n.kept e (m.added e w p))
      (λ (q : Q e). n.added e (omega (arith, m.long, w)) q) (split e r);
  only = λ e h. ⊎_elim
      (λ (k : needs b e ≡ true).
      ⊎_elim (λ (o : needs a e ≡ true). inl o) (λ (p : P e). inr (left e p)) (m.only e k))
      (λ (q : Q e). inr (right e q))
      (n.only e h);
}

marked_as : (P R : ℕ → Type 0) (a b : List Bool) → IsMarked P a b → ((e : ℕ) → R e → P e) →
    ((e : ℕ) → P e → R e) → IsMarked R a b
marked_as P R a b m to from = record {
  long = m.long;
  kept = m.kept;
  added = λ e w r. m.added e w (to e r);
  only = λ e h. ⊎_elim (λ (o : needs a e ≡ true). inl o) (λ (p : P e). inr (from e p)) (m.only e h);
}

or_false : (a : Bool) → (a || false) ≡ a
or_false true = refl
or_false false = refl

or_assoc : (a b c : Bool) → (a || b || c) ≡ (a || (b || c))
or_assoc true b c = refl
or_assoc false b c = refl

pub either : (a b : Bool) → (a || b) ≡ true → (a ≡ true) ⊎ (b ≡ true)
either true b h = inl refl
either false b h = inr h

pub or_left : (a b : Bool) → a ≡ true → (a || b) ≡ true
or_left a b h = rw h refl

pub or_right : (a b : Bool) → b ≡ true → (a || b) ≡ true
or_right true b h = refl
or_right false b h = h

steps_push : (ss : List Step) (s : Step) (n : ℕ) →
    steps_name (ss ++ s ∷ []) n ≡ (steps_name ss n || s.with == n)
steps_push [] s n = or_false (s.with == n)
steps_push (t ∷ ts) s n = ap (λ (b : Bool). t.with == n || b) (steps_push ts s n)
    ∙ sym (or_assoc (t.with == n) (steps_name ts n) (s.with == n))

-- ---- the lines that a line names
-- the first clause is marked
pub marked_first : (formula place first : ℕ) (ss : List Step) (a b : List Bool) →
    IsMarked (IsEarlierNamed formula place (λ n. first == n)) a b →
    IsMarked (IsEarlierNamed formula place (names (record { first = first; steps = take 0 ss }))) a b
marked_first formula place first ss a b m =
    marked_as (IsEarlierNamed formula place (λ n. first == n))
    (IsEarlierNamed formula place (names (record { first = first; steps = take 0 ss }))) a b m
    (λ e r. record { is_earlier = r.is_earlier; named = sym (or_false (first == formula + e)) ∙ r.named })
    (λ e p. record { is_earlier = p.is_earlier; named = or_false (first == formula + e) ∙ p.named })

names_push : (first : ℕ) (ss : List Step) (i : ℕ) (step : Step) (n : ℕ) → i < length ss →
    names (record { first = first; steps = take (i + 1) ss })
    n ≡ (names (record { first = first; steps = take i ss }) n || (get_or ss i step).with == n)
names_push first ss i step n h =
    ap (λ (ts : List Step). names (record { first = first; steps = ts }) n) (take_more ss i step h)
    ∙ ap (λ (b : Bool). first == n || b) (steps_push (take i ss) (get_or ss i step) n)
    ∙ sym (or_assoc (first == n) (steps_name (take i ss) n) ((get_or ss i step).with == n))

-- a step's clause is marked
pub marked_step : (formula place first : ℕ) (ss : List Step) (i : ℕ) (step : Step) (a b c : List Bool) →
    i < length ss →
    IsMarked (IsEarlierNamed formula place (names (record { first = first; steps = take i ss }))) a b →
    IsMarked (IsEarlierNamed formula place (λ n. (get_or ss i step).with == n)) b c →
    IsMarked (IsEarlierNamed formula place (names (record { first = first; steps = take (i + 1) ss }))) a c
marked_step formula place first ss i step a b c h m n =
    let with = (get_or ss i step).with in
    let old = names (record { first = first; steps = take i ss }) in
    let new = names (record { first = first; steps = take (i + 1) ss }) in
    marked_more (IsEarlierNamed formula place old) (IsEarlierNamed formula place (λ n. with == n))
    (IsEarlierNamed formula place new) a b c m n
    (λ e r. ⊎_elim
    (λ (p : old (formula + e) ≡ true). inl (record { is_earlier = r.is_earlier; named = p }))
    (λ (q : (with == formula + e) ≡ true). inr (record { is_earlier = r.is_earlier; named = q }))
    (either (old (formula + e)) (with == formula + e) (sym (names_push first ss i step (formula + e) h) ∙ r.named)))
    (λ e p. record {
      is_earlier = p.is_earlier;
      named =
          names_push first ss i step (formula + e) h ∙ or_left (old (formula + e)) (with == formula + e) p.named;
    })
    (λ e q. record {
      is_earlier = q.is_earlier;
      named =
          names_push first ss i step (formula + e) h ∙ or_right (old (formula + e)) (with == formula + e) q.named;
    })

-- ---- one line after the other, from the last one backwards
same_line : {x y : Line} → Some x ≡ Some y → x ≡ y
same_line e = cc

none_marked : (n place : ℕ) → needs (replicate n false) place ≡ false
none_marked zero place = refl
none_marked (suc n) zero = refl
none_marked (suc n) (suc place) = none_marked n place

pub last_needed : (formula : ℕ) (lines : List Line) (a b : List Bool) → a ≡ replicate (length lines) false →
    length b ≡ length lines →
    IsMarked (λ place. place + 1 ≡ length a) a b → AreNeededFrom formula lines (length lines) (needs b)
last_needed formula lines a b none long m = record {
  last = λ place h. m.added place (omega (arith, m.long, long, h)) (omega (arith, m.long, long, h));
  all = λ place earlier line from at needed named.
      absurd (let w = slice_get_within lines place line at in omega (arith, w, from));
  only = λ place h. ⊎_elim
      (λ (o : needs a place ≡ true).
      let f : needs a place ≡ false = ap (λ (t : List Bool). needs t place) none
      ∙ none_marked (length lines) place in
      absurd (let x : true ≡ false = sym o ∙ f in cc))
      (λ (e : place + 1 ≡ length a). inl (omega (arith, e, m.long, long)))
      (m.only place h);
}

behind : (at place : ℕ) → at ≤ place → (place ≡ at) ⊎ (at + 1 ≤ place)
behind zero zero h = inl refl
behind zero (suc place) h = inr (omega arith)
behind (suc at) zero h = absurd (omega arith)
behind (suc at) (suc place) h =
    ⊎_elim (λ (e : place ≡ at). inl (ap suc e)) (λ (l : at + 1 ≤ place). inr (omega (arith, l)))
    (behind at place (omega arith))

pub unmarked_line : (formula : ℕ) (lines : List Line) (at : ℕ) (a : List Bool) → needs a at ≡ false →
    AreNeededFrom formula lines (at + 1) (needs a) → AreNeededFrom formula lines at (needs a)
unmarked_line formula lines at a not r = record {
  last = r.last;
  all = λ place earlier line from is needed named. ⊎_elim
      (λ (e : place ≡ at). absurd (let x : true ≡ false = sym needed ∙ ap (needs a) e ∙ not in cc))
      (λ (l : at + 1 ≤ place). r.all place earlier line l is needed named)
      (behind at place from);
  only = λ place h. ⊎_elim
      (λ (e : place + 1 ≡ length lines). inl e)
      (λ (by : IsNeededBy formula lines (needs a) (at + 1) place). inr (record {
        later = by.later;
        line = by.line;
        is_from = omega (arith, by.is_from);
        is = by.is;
        needed = by.needed;
        named = by.named;
      }))
      (r.only place h);
}

pub marked_line : (formula : ℕ) (lines : List Line) (at : ℕ) (line : Line) (a b : List Bool) →
    length a ≡ length lines →
    slice_get lines at ≡ Some line → needs a at ≡ true → AreNeededFrom formula lines (at + 1) (needs a) →
    IsMarked (IsEarlierNamed formula at (names line)) a b → AreNeededFrom formula lines at (needs b)
marked_line formula lines at line a b long is marked r m =
    let within = slice_get_within lines at line is in
    record {
      last = λ place h. m.kept place (r.last place h);
      all = λ place earlier l from found needed named. ⊎_elim
          (λ (e : place ≡ at).
          let same : l ≡ line = same_line (sym found ∙ ap (slice_get lines) e ∙ is) in
          let own : IsEarlierNamed formula at (names line) earlier =
          subst (λ (p : ℕ). IsEarlierNamed formula p (names line) earlier) e
          (subst (λ (k : Line). IsEarlierNamed formula place (names k) earlier) same named) in
          m.added earlier (omega (arith, own.is_earlier, within, long)) own)
          (λ (w : at + 1 ≤ place). ⊎_elim
          (λ (o : needs a place ≡ true). m.kept earlier (r.all place earlier l w found o named))
          (λ (p : IsEarlierNamed formula at (names line) place). absurd (omega (arith, p.is_earlier, w)))
          (m.only place needed))
          (behind at place from);
      only = λ place h. ⊎_elim
          (λ (o : needs a place ≡ true). ⊎_elim
          (λ (e : place + 1 ≡ length lines). inl e)
          (λ (by : IsNeededBy formula lines (needs a) (at + 1) place). inr (record {
            later = by.later;
            line = by.line;
            is_from = omega (arith, by.is_from);
            is = by.is;
            needed = m.kept by.later by.needed;
            named = by.named;
          }))
          (r.only place o))
          (λ (p : IsEarlierNamed formula at (names line) place). inr (record {
            later = at;
            line = line;
            is_from = omega arith;
            is = is;
            needed = m.kept at marked;
            named = p;
          }))
          (m.only place h);
    }

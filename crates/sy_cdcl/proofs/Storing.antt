-- A store with one clause more, and its clauses by their numbers.
use Rattle.std.proofs.Common.{◌≡◌, ℕ, zero, suc, ◌<◌, ◌≤◌, ◌-◌, ◌+◌, List, [], ◌∷◌, ◌++◌, refl, sym, ap, ap₂, subst, ◌∙◌, arith, length, length-append, take, drop, map, Some, None, inl, inr, ⊎_elim, ◌⊎◌}
use Rattle.std.specs.Prelude.{slice_get, option_map, get_or}
use Rattle.std.proofs.lemmas.Option.{slice_get-map}
use Rattle.std.proofs.lemmas.List.{drop-append-le, take-append-le, length-drop, drop_at, take_all, take_more, append_assoc, map_push}
use Rattle.sy_clauses.specs.declared.Lit.{Lit}
use Rattle.sy_clauses.specs.Clauses.{Clause, literals}
use Rattle.sy_cdcl.specs.declared.store.Span.{Span}
use Rattle.sy_cdcl.specs.declared.store.Store.{Store}
use Rattle.sy_cdcl.specs.Storing.{clause_in, clauses_in, SpansFit}
use Rattle.sy_cdcl.proofs.Push.{some_is}

-- a span's clause stays where the list grows
span_kept : (codes more : List Lit) (span : Span) → span.start ≤ span.end → span.end ≤ length codes →
    clause_in (codes ++ more) span ≡ clause_in codes span
span_kept codes more span a b =
    let n = span.end - span.start in
    let front : drop span.start (codes ++ more) ≡ drop span.start codes ++ more = drop-append-le span.start codes more (omega arith) in
    let long = length-drop span.start codes in
    ap literals (ap (take n) front ∙ take-append-le n (drop span.start codes) more (omega arith))

clauses_kept : (codes more : List Lit) (spans : List Span) →
    ((n : ℕ) (span : Span) → slice_get spans n ≡ Some span → (span.start ≤ span.end) × (span.end ≤ length codes)) →
    map (clause_in (codes ++ more)) spans ≡ map (clause_in codes) spans
clauses_kept codes more [] f = refl
clauses_kept codes more (s ∷ ss) f =
    let q = f zero s refl in
    ap (λ (c : Clause). c ∷ map (clause_in (codes ++ more)) ss) (span_kept codes more s q.0 q.1)
    ∙ ap (λ (cs : List Clause). clause_in codes s ∷ cs) (clauses_kept codes more ss (λ n t h. f (suc n) t h))

span_new : (codes new : List Lit) (span : Span) → span.start ≡ length codes → span.end ≡ length (codes ++ new) →
    clause_in (codes ++ new) span ≡ literals new
span_new codes new span s e =
    let long = length-append codes new in
    ap literals (ap (take (span.end - span.start)) (drop_at codes new span.start (sym s)) ∙ take_all (span.end - span.start) new (omega arith))

-- one clause more
pub stored_more : (old new : Store) (clause : List Lit) (span : Span) → SpansFit old → new.codes.items ≡ old.codes.items ++ clause →
    new.spans.items ≡ old.spans.items ++ span ∷ [] → span.start ≡ length old.codes.items → span.end ≡ length new.codes.items →
    clauses_in new ≡ clauses_in old ++ literals clause ∷ []
stored_more old new clause span f cs ss s e =
    let codes = old.codes.items in
    ap (λ (xs : List Span). map (clause_in new.codes.items) xs) ss
    ∙ ap (λ (xs : List Lit). map (clause_in xs) (old.spans.items ++ span ∷ [])) cs
    ∙ map_push (clause_in (codes ++ clause)) old.spans.items span
    ∙ ap (λ (xs : List Clause). xs ++ clause_in (codes ++ clause) span ∷ []) (clauses_kept codes clause old.spans.items f)
    ∙ ap (λ (x : Clause). map (clause_in codes) old.spans.items ++ x ∷ []) (span_new codes clause span s (e ∙ ap length cs))

span_cases : (xs : List Span) (x y : Span) (k : ℕ) → slice_get (xs ++ x ∷ []) k ≡ Some y → (slice_get xs k ≡ Some y) ⊎ (x ≡ y)
span_cases [] x y zero h = inr (some_is h)
span_cases [] x y (suc k) h = cc
span_cases (z ∷ zs) x y zero h = inl h
span_cases (z ∷ zs) x y (suc k) h = span_cases zs x y k h

pub fit_more : (old new : Store) (clause : List Lit) (span : Span) → SpansFit old → new.codes.items ≡ old.codes.items ++ clause →
    new.spans.items ≡ old.spans.items ++ span ∷ [] → span.start ≡ length old.codes.items → span.end ≡ length new.codes.items →
    SpansFit new
fit_more old new clause span f cs ss s e n t h =
    let long : length new.codes.items ≡ length old.codes.items + length clause = ap length cs ∙ length-append old.codes.items clause in
    ⊎_elim
    (λ (a : slice_get old.spans.items n ≡ Some t).
    let q = f n t a in
    let from = q.0 in
    let to = q.1 in (from, omega arith))
    (λ (a : span ≡ t). subst (λ (x : Span). (x.start ≤ x.end) × (x.end ≤ length new.codes.items)) a (omega arith, omega arith))
    (span_cases old.spans.items span t n (subst (λ (xs : List Span). slice_get xs n ≡ Some t) ss h))

-- the clause of a span
pub clause_got : (s : Store) (n : ℕ) (span : Span) → slice_get s.spans.items n ≡ Some span →
    slice_get (clauses_in s) n ≡ Some (clause_in s.codes.items span)
clause_got s n span h = slice_get-map (clause_in s.codes.items) s.spans.items n ∙ ap (option_map (clause_in s.codes.items)) h

pub clause_missing : (s : Store) (n : ℕ) → slice_get s.spans.items n ≡ None → slice_get (clauses_in s) n ≡ None
clause_missing s n h = slice_get-map (clause_in s.codes.items) s.spans.items n ∙ ap (option_map (clause_in s.codes.items)) h

-- a copy of the next item more
pub copied_more : {X : Type 0} → (now new before all : List X) (i : ℕ) (d copy : X) → i < length all → copy ≡ get_or all i d →
    new ≡ now ++ copy ∷ [] → now ≡ before ++ take i all → new ≡ before ++ take (i + 1) all
copied_more now new before all i d copy within same pushed kept =
    pushed
    ∙ ap₂ (λ xs y. xs ++ y ∷ []) kept same
    ∙ append_assoc before (take i all) (get_or all i d ∷ [])
    ∙ sym (ap (λ xs. before ++ xs) (take_more all i d within))

-- the next clause more
pub clauses_more : (now new : List Clause) (all : List (List Lit)) (i : ℕ) (x slice : List Lit) → i < length all → x ≡ get_or all i x → slice ≡ x →
    new ≡ now ++ literals slice ∷ [] → now ≡ map literals (take i all) → new ≡ map literals (take (i + 1) all)
clauses_more now new all i x slice within is same pushed kept =
    pushed
    ∙ ap₂ (λ cs ys. cs ++ literals ys ∷ []) kept (same ∙ is)
    ∙ sym (map_push literals (take i all) (get_or all i x))
    ∙ sym (ap (map literals) (take_more all i x within))

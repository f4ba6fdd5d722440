-- Only with the needed lines the log refutes what the whole one refutes.
use Rattle.std.proofs.Common.{◌≡◌, ℕ, zero, suc, ◌+◌, ◌-◌, ◌<◌, ◌≤◌, ◌⊎◌, inl, inr, ⊎_elim, Bool, true, false, if◌then◌else◌, List, [], ◌∷◌, ◌++◌, refl, arith, ap, sym, subst, ◌∙◌, length, length-append, map, get_or, Some}
use Rattle.std.specs.Prelude.{slice_get, option_map, option_and_then, ◌==◌}
use Rattle.std.proofs.lemmas.Bool.{eq-eqb}
use Rattle.std.proofs.lemmas.List.{length-map}
use Rattle.std.proofs.lemmas.Option.{slice_get_within, slice_get-get_or, slice_get-map, option_and_then_some}
use Rattle.sy_clauses.specs.declared.Step.{Step}
use Rattle.sy_clauses.specs.declared.Line.{Line}
use Rattle.sy_clauses.specs.declared.Cnf.{Cnf}
use Rattle.sy_clauses.specs.declared.Log.{Log}
use Rattle.sy_clauses.specs.Clauses.{Clause, literals, resolvent, after_step, after_steps, line_clause, numbering, EndsEmpty, Refutes}
use Rattle.sy_clauses.specs.declared.numbering.Numbering.{Numbering}
use Rattle.sy_clauses.specs.Names.{names, steps_name, EachIsNamed}
use Rattle.sy_clauses.specs.Needed.{needs, IsNeededBy, AreNeeded}
use Rattle.sy_clauses.specs.Numbers.{count_left, new_number, number_in, lines_left, step_renumbered, line_renumbered, CountsLeft}
use Rattle.sy_clauses.proofs.MarksLaws.{either, or_left, or_right}
use Rattle.sy_clauses.proofs.Counts.{count_yes, count_no, count_small, count_grows, bool_cases, below_or, below_cases, line_number, formula_number, table_number}

-- ---- lists with one item more
some_is : {A : Type 0} {x y : A} → Some x ≡ Some y → x ≡ y
some_is e = cc

push_length : {A : Type 0} (xs : List A) (y : A) → length (xs ++ y ∷ []) ≡ length xs + 1
push_length xs y = let e = length-append xs (y ∷ []) in omega (arith, e)

get_first : {A : Type 0} (xs : List A) (y : A) (n : ℕ) → n < length xs →
    slice_get (xs ++ y ∷ []) n ≡ slice_get xs n
get_first [] y n h = absurd (omega arith)
get_first (x ∷ xs) y zero h = refl
get_first (x ∷ xs) y (suc n) h = get_first xs y n (omega arith)

get_last : {A : Type 0} (xs : List A) (y : A) → slice_get (xs ++ y ∷ []) (length xs) ≡ Some y
get_last [] y = refl
get_last (x ∷ xs) y = get_last xs y

self_eq : (n : ℕ) → (n == n) ≡ true
self_eq n = let e = eq-eqb n n refl in grind (arith, e)

same_number : (a b : ℕ) → (a == b) ≡ true → a ≡ b
same_number a b h = grind (arith, h)

-- ---- a line whose clauses are found under new numbers has the same clause
step_carried : (number : ℕ → ℕ) (known kept : List Clause) (s : Step) (d e : Clause) →
    (s.with < length known → slice_get kept (number s.with) ≡ slice_get known s.with) →
    after_step known d s ≡ Some e → after_step kept d (step_renumbered number s) ≡ Some e
step_carried number known kept s d e same h =
    option_and_then_some (λ (w : Clause). resolvent s.var d w) (slice_get known s.with) e h
    (λ w a b. ap (option_and_then (λ (v : Clause). resolvent s.var d v)) (same (slice_get_within known s.with w a))
    ∙ h)

steps_carried : (number : ℕ → ℕ) (known kept : List Clause) (ss : List Step) (d c : Clause) →
    ((n : ℕ) → steps_name ss n ≡ true → n < length known →
    slice_get kept (number n) ≡ slice_get known n) →
    after_steps known d ss ≡ Some c → after_steps kept d (map (step_renumbered number) ss) ≡ Some c
steps_carried number known kept [] d c same h = h
steps_carried number known kept (s ∷ ss) d c same h =
    option_and_then_some (λ (e : Clause). after_steps known e ss) (after_step known d s) c h
    (λ e a b.
    ap (option_and_then (λ (f : Clause). after_steps kept f (map (step_renumbered number) ss)))
    (step_carried number known kept s d e
    (same s.with (or_left (s.with == s.with) (steps_name ss s.with) (self_eq s.with))) a)
    ∙ steps_carried number known kept ss e c (λ n p. same n (or_right (s.with == n) (steps_name ss n) p)) b)

line_carried : (number : ℕ → ℕ) (known kept : List Clause) (l : Line) (c : Clause) →
    ((n : ℕ) → names l n ≡ true → n < length known → slice_get kept (number n) ≡ slice_get known n) →
    line_clause known l ≡ Some c → line_clause kept (line_renumbered number l) ≡ Some c
line_carried number known kept l c same h =
    option_and_then_some (λ (d : Clause). after_steps known d l.steps) (slice_get known l.first) c h
    (λ d a b.
    ap (option_and_then (λ (f : Clause). after_steps kept f (map (step_renumbered number) l.steps)))
    (same l.first (or_left (l.first == l.first) (steps_name l.steps l.first) (self_eq l.first))
    (slice_get_within known l.first d a) ∙ a)
    ∙ steps_carried number known kept l.steps d c
    (λ n p. same n (or_right (l.first == n) (steps_name l.steps n) p)) b)

-- ---- the clauses that are left
-- the clause of this number is the formula's, or that of a line that is left
abbrev IsLeft : ℕ → (ℕ → Bool) → ℕ → Type 0
IsLeft formula left n = (n < formula) ⊎ (left (n - formula) ≡ true)

-- each clause that is left has its new number
abbrev AreCarried : ℕ → (ℕ → Bool) → (ℕ → ℕ) → List Clause → List Clause → Type 0
AreCarried formula left number known kept =
    (n : ℕ) → n < length known → IsLeft formula left n → slice_get kept (number n) ≡ slice_get known n

abbrev AreNew : ℕ → (ℕ → Bool) → (ℕ → ℕ) → Type 0
AreNew formula left number = (n : ℕ) → number n ≡ new_number formula left n

carried_yes : (formula : ℕ) (left : ℕ → Bool) (number : ℕ → ℕ) → AreNew formula left number →
    (i : ℕ) (known kept : List Clause) (c : Clause) → length known ≡ formula + i →
    length kept ≡ formula + count_left left i →
    AreCarried formula left number known kept →
    AreCarried formula left number (known ++ c ∷ []) (kept ++ c ∷ [])
carried_yes formula left number new i known kept c long short old n h held = ⊎_elim
    (λ (l : n < length known).
    let same = old n l held in
    let some : slice_get kept (number n) ≡ Some (get_or known n c) = same ∙ slice_get-get_or known n c l in
    get_first kept c (number n) (slice_get_within kept (number n) (get_or known n c) some) ∙ same
    ∙ sym (get_first known c n l))
    (λ (e : n ≡ length known).
    let at : n ≡ formula + i = e ∙ long in
    let place : number n ≡ length kept = ap number at ∙ line_number formula left number new i ∙ sym short in
    ap (slice_get (kept ++ c ∷ [])) place ∙ get_last kept c
    ∙ sym (ap (slice_get (known ++ c ∷ [])) e ∙ get_last known c))
    (below_or n (length known) (let p = push_length known c in omega (arith, h, p)))

carried_no : (formula : ℕ) (left : ℕ → Bool) (number : ℕ → ℕ) (i : ℕ) (known kept : List Clause)
    (c : Clause) →
    length known ≡ formula + i → left i ≡ false →
    AreCarried formula left number known kept → AreCarried formula left number (known ++ c ∷ []) kept
carried_no formula left number i known kept c long goes old n h held = ⊎_elim
    (λ (l : n < length known). old n l held ∙ sym (get_first known c n l))
    (λ (e : n ≡ length known). absurd (⊎_elim
    (λ (l : n < formula). omega (arith, l, e, long))
    (λ (stays : left (n - formula) ≡ true).
    let at : n - formula ≡ i = omega (arith, e, long) in
    let x : true ≡ false = sym stays ∙ ap left at ∙ goes in cc)
    held))
    (below_or n (length known) (let p = push_length known c in omega (arith, h, p)))

-- what a line that is left names is left
abbrev AreClosed : ℕ → (ℕ → Bool) → ℕ → List Line → Type 0
AreClosed formula left i ls = (e : ℕ) (l : Line) → slice_get ls e ≡ Some l → left (i + e) ≡ true →
    (m : ℕ) → m < i + e → names l (formula + m) ≡ true → left m ≡ true

closed_rest : (formula : ℕ) (left : ℕ → Bool) (i : ℕ) (l : Line) (ls : List Line) →
    AreClosed formula left i (l ∷ ls) → AreClosed formula left (i + 1) ls
closed_rest formula left i l ls closed e k at stays m below named =
    let same : i + suc e ≡ i + 1 + e = omega arith in
    closed (suc e) k at (ap left same ∙ stays) m (omega (arith, below)) named

named_left : (formula : ℕ) (left : ℕ → Bool) (i : ℕ) (l : Line) (ls : List Line) →
    AreClosed formula left i (l ∷ ls) → left i ≡ true →
    (n : ℕ) → names l n ≡ true → n < formula + i → IsLeft formula left n
named_left formula left i l ls closed stays n named below = ⊎_elim
    (λ (f : n < formula). inl f)
    (λ (w : formula ≤ n).
    let same : i + 0 ≡ i = omega arith in
    let back : formula + (n - formula) ≡ n = omega (arith, w) in
    inr (closed 0 l refl (ap left same ∙ stays) (n - formula) (omega (arith, w, below))
    (ap (names l) back ∙ named)))
    (below_cases n formula)

left_yes : (left : ℕ → Bool) (i : ℕ) (l : Line) (ls : List Line) → left i ≡ true →
    lines_left left i (l ∷ ls) ≡ l ∷ lines_left left (i + 1) ls
left_yes left i l ls stays =
    ap (λ (b : Bool). if b then l ∷ lines_left left (i + 1) ls else lines_left left (i + 1) ls) stays

left_no : (left : ℕ → Bool) (i : ℕ) (l : Line) (ls : List Line) → left i ≡ false →
    lines_left left i (l ∷ ls) ≡ lines_left left (i + 1) ls
left_no left i l ls goes =
    ap (λ (b : Bool). if b then l ∷ lines_left left (i + 1) ls else lines_left left (i + 1) ls) goes

-- the lines have clauses, and each clause that is left is one of them under its new number
record IsCarried (formula : ℕ) (left : ℕ → Bool) (number : ℕ → ℕ) (kept : List Clause) (lines : List Line)
    (end : ℕ) (all : List Clause) : Type 0 where
  clauses : List Clause
  numbered : numbering kept lines ≡ Some clauses
  long : length all ≡ formula + end
  short : length clauses ≡ formula + count_left left end
  carried : AreCarried formula left number all clauses

carry : (formula : ℕ) (left : ℕ → Bool) (number : ℕ → ℕ) → AreNew formula left number →
    (ls : List Line) (i : ℕ) (known kept all : List Clause) → length known ≡ formula + i →
    length kept ≡ formula + count_left left i →
    AreCarried formula left number known kept → AreClosed formula left i ls → numbering known ls ≡ Some all →
    IsCarried formula left number kept (map (line_renumbered number) (lines_left left i ls)) (i + length ls) all
carry formula left number new [] i known kept all long short old closed h =
    let e : i ≡ i + 0 = omega arith in
    let same : known ≡ all = some_is h in
    record {
      clauses = kept;
      numbered = refl;
      long = ap length (sym same) ∙ long ∙ ap (λ (k : ℕ). formula + k) e;
      short = short ∙ ap (λ (k : ℕ). formula + count_left left k) e;
      carried = subst (λ (x : List Clause). AreCarried formula left number x kept) same old;
    }
carry formula left number new (l ∷ ls) i known kept all long short old closed h =
    option_and_then_some (λ (c : Clause). numbering (known ++ c ∷ []) ls) (line_clause known l) all h
    (λ c a b.
    let grown : length (known ++ c ∷ []) ≡ formula + (i + 1) = let p = push_length known c in
    omega (arith, p, long) in
    let end : i + 1 + length ls ≡ i + length (l ∷ ls) = omega arith in
    ⊎_elim
    (λ (stays : left i ≡ true).
    let own : line_clause kept (line_renumbered number l) ≡ Some c =
    line_carried number known kept l c
    (λ n named below. old n below
    (named_left formula left i l ls closed stays n named (omega (arith, below, long)))) a in
    let more : length (kept ++ c ∷ []) ≡ formula + count_left left (i + 1) =
    let p = push_length kept c in let q = count_yes left i stays in omega (arith, p, q, short) in
    let rest = carry formula left number new ls (i + 1) (known ++ c ∷ []) (kept ++ c ∷ []) all grown more
    (carried_yes formula left number new i known kept c long short old) (closed_rest formula left i l ls closed) b in
    record {
      clauses = rest.clauses;
      numbered = ap (λ (ks : List Line). numbering kept (map (line_renumbered number) ks))
          (left_yes left i l ls stays)
          ∙ ap (option_and_then
          (λ (d : Clause). numbering (kept ++ d ∷ [])
          (map (line_renumbered number) (lines_left left (i + 1) ls)))) own
          ∙ rest.numbered;
      long = rest.long ∙ ap (λ (k : ℕ). formula + k) end;
      short = rest.short ∙ ap (λ (k : ℕ). formula + count_left left k) end;
      carried = rest.carried;
    })
    (λ (goes : left i ≡ false).
    let more : length kept ≡ formula + count_left left (i + 1) = let q = count_no left i goes in
    omega (arith, q, short) in
    let rest = carry formula left number new ls (i + 1) (known ++ c ∷ []) kept all grown more
    (carried_no formula left number i known kept c long goes old) (closed_rest formula left i l ls closed) b in
    record {
      clauses = rest.clauses;
      numbered = ap (λ (ks : List Line). numbering kept (map (line_renumbered number) ks)) (left_no left i l ls goes)
          ∙ rest.numbered;
      long = rest.long ∙ ap (λ (k : ℕ). formula + k) end;
      short = rest.short ∙ ap (λ (k : ℕ). formula + count_left left k) end;
      carried = rest.carried;
    })
    (bool_cases (left i)))

-- the last clause is left, and is the last one of those that are left
last_left : (formula : ℕ) (left : ℕ → Bool) (number : ℕ → ℕ) → AreNew formula left number →
    (end n long : ℕ) → n + 1 ≡ formula + end →
    long ≡ formula + count_left left end → ((place : ℕ) → place + 1 ≡ end → left place ≡ true) →
    IsLeft formula left n × (long - 1 ≡ number n)
last_left formula left number new end n long at short last = ⊎_elim
    (λ (none : end < 1).
    let small = count_small left end in
    let within : n < formula = omega (arith, at, none) in
    let own = formula_number formula left number new n within in
    (inl within, omega (arith, own, short, small, at, none)))
    (λ (some : 1 ≤ end).
    let place = end - 1 in
    let next : place + 1 ≡ end = omega (arith, some) in
    let stays = last place next in
    let here : n - formula ≡ place = omega (arith, at, next) in
    let there : n ≡ formula + place = omega (arith, at, next) in
    let own : number n ≡ formula + count_left left place =
    ap number there ∙ line_number formula left number new place in
    let counted = count_yes left place stays in
    let total = ap (count_left left) next in
    (inr (ap left here ∙ stays), omega (arith, own, counted, total, short)))
    (below_cases end 1)

ends_carried : (formula : ℕ) (left : ℕ → Bool) (number : ℕ → ℕ) → AreNew formula left number →
    (kept all : List Clause) (lines : List Line) (end : ℕ) →
    (o : IsCarried formula left number kept lines end all) →
    ((place : ℕ) → place + 1 ≡ end → left place ≡ true) → EndsEmpty all → EndsEmpty o.clauses
ends_carried formula left number new kept all lines end o last x =
    let n = length all - 1 in
    let within : n < length all = slice_get_within all n x.last x.is_last in
    let both = last_left formula left number new end n (length o.clauses) (let l = o.long in omega (arith, within, l))
    o.short last in
    record {
      last = x.last;
      is_last = ap (slice_get o.clauses) both.1 ∙ o.carried n within both.0 ∙ x.is_last;
      empty = x.empty;
    }

shorter_refutes : (cnf : Cnf) (log : Log) (kept : List Line) (left : ℕ → Bool) (number : ℕ → ℕ) →
    AreNeeded (length cnf.clauses) log.lines left →
    AreNew (length cnf.clauses) left number →
    kept ≡ map (line_renumbered number) (lines_left left 0 log.lines) →
    Refutes cnf log → Refutes cnf (record { lines = kept })
shorter_refutes cnf log kept left number needed new is r =
    let base = map literals cnf.clauses in
    let formula = length cnf.clauses in
    let size : length base ≡ formula = length-map cnf.clauses literals in
    let none : count_left left 0 ≡ 0 = refl in
    let o = carry formula left number new log.lines 0 base base r.clauses (omega (arith, size))
    (omega (arith, size, none))
    (λ n h held. ap (slice_get base) (formula_number formula left number new n (omega (arith, h, size))))
    (λ e l at stays m below named.
    let same : e ≡ 0 + e = omega arith in
    needed.all e m l (omega arith) at (ap left same ∙ stays)
    (record { is_earlier = omega (arith, below); named = named }))
    r.numbered in
    record {
      clauses = o.clauses;
      numbered = ap (numbering base) is ∙ o.numbered;
      ends_empty = ends_carried formula left number new base r.clauses
          (map (line_renumbered number) (lines_left left 0 log.lines)) (0 + length log.lines) o
          (λ place h. needed.last place (omega (arith, h))) r.ends_empty;
    }

-- ---- each line that is left is named by a later one
-- a line at this place is left, behind so many others
record StandsFor (left : ℕ → Bool) (i : ℕ) (p : ℕ) : Type 0 where
  place : ℕ
  stays : left (i + place) ≡ true
  counted : count_left left (i + place) ≡ count_left left i + p

stands_later : (left : ℕ → Bool) (i p q : ℕ) → StandsFor left (i + 1) q →
    count_left left (i + 1) + q ≡ count_left left i + p → StandsFor left i p
stands_later left i p q s h =
    let same : i + (s.place + 1) ≡ i + 1 + s.place = omega arith in
    record {
      place = s.place + 1;
      stays = ap left same ∙ s.stays;
      counted =
          ap (count_left left) same ∙ s.counted ∙ h;
    }

stands : (left : ℕ → Bool) (ls : List Line) (i p : ℕ) → p < length (lines_left left i ls) →
    StandsFor left i p
stands left [] i p h = absurd (omega arith)
stands left (l ∷ ls) i zero h = ⊎_elim
    (λ (stays : left i ≡ true).
    let same : i + 0 ≡ i = omega arith in
    let counted = ap (count_left left) same in
    record { place = 0; stays = ap left same ∙ stays; counted = omega (arith, counted) })
    (λ (goes : left i ≡ false).
    let shorter = ap length (left_no left i l ls goes) in
    let counted = count_no left i goes in
    stands_later left i 0 0 (stands left ls (i + 1) 0 (omega (arith, h, shorter))) (omega (arith, counted)))
    (bool_cases (left i))
stands left (l ∷ ls) i (suc p) h = ⊎_elim
    (λ (stays : left i ≡ true).
    let shorter = ap length (left_yes left i l ls stays) in
    let counted = count_yes left i stays in
    stands_later left i (suc p) p (stands left ls (i + 1) p (omega (arith, h, shorter))) (omega (arith, counted)))
    (λ (goes : left i ≡ false).
    let shorter = ap length (left_no left i l ls goes) in
    let counted = count_no left i goes in
    stands_later left i (suc p) (suc p) (stands left ls (i + 1) (suc p) (omega (arith, h, shorter)))
    (omega (arith, counted)))
    (bool_cases (left i))

-- a line that is left stands behind as many as are left before it
at_new : (left : ℕ → Bool) (ls : List Line) (i e : ℕ) (l : Line) (q : ℕ) → slice_get ls e ≡ Some l →
    left (i + e) ≡ true →
    count_left left (i + e) ≡ count_left left i + q → slice_get (lines_left left i ls) q ≡ Some l
at_new left [] i e l q at stays c = cc
at_new left (k ∷ ks) i zero l q at stays c =
    let same : i ≡ i + 0 = omega arith in
    let counted = ap (count_left left) same in
    let first : q ≡ 0 = omega (arith, c, counted) in
    ap (λ (xs : List Line). slice_get xs q) (left_yes left i k ks (ap left same ∙ stays))
    ∙ ap (slice_get (k ∷ lines_left left (i + 1) ks)) first
    ∙ at
at_new left (k ∷ ks) i (suc e) l q at stays c =
    let same : i + 1 + e ≡ i + suc e = omega arith in
    let later : left (i + 1 + e) ≡ true = ap left same ∙ stays in
    let total = ap (count_left left) same in
    ⊎_elim
    (λ (own : left i ≡ true).
    let counted = count_yes left i own in
    let grows = count_grows left (i + 1) e in
    let next : q ≡ suc (q - 1) = omega (arith, counted, grows, total, c) in
    ap (λ (xs : List Line). slice_get xs q) (left_yes left i k ks own)
    ∙ ap (slice_get (k ∷ lines_left left (i + 1) ks)) next
    ∙ at_new left ks (i + 1) e l (q - 1) at later (omega (arith, counted, next, total, c)))
    (λ (goes : left i ≡ false).
    let counted = count_no left i goes in
    ap (λ (xs : List Line). slice_get xs q) (left_no left i k ks goes)
    ∙ at_new left ks (i + 1) e l q at later (omega (arith, counted, total, c)))
    (bool_cases (left i))

length_left : (left : ℕ → Bool) (ls : List Line) (i : ℕ) →
    length (lines_left left i ls) + count_left left i ≡ count_left left (i + length ls)
length_left left [] i = let same : i ≡ i + 0 = omega arith in let counted = ap (count_left left) same in
    omega (arith, counted)
length_left left (l ∷ ls) i =
    let rest = length_left left ls (i + 1) in
    let same : i + 1 + length ls ≡ i + length (l ∷ ls) = omega arith in
    let total = ap (count_left left) same in
    ⊎_elim
    (λ (stays : left i ≡ true). let shorter = ap length (left_yes left i l ls stays) in let counted =
    count_yes left i stays in omega (arith, rest, total, shorter, counted))
    (λ (goes : left i ≡ false). let shorter = ap length (left_no left i l ls goes) in let counted =
    count_no left i goes in omega (arith, rest, total, shorter, counted))
    (bool_cases (left i))

steps_renumbered : (number : ℕ → ℕ) (ss : List Step) (n : ℕ) → steps_name ss n ≡ true →
    steps_name (map (step_renumbered number) ss) (number n) ≡ true
steps_renumbered number [] n h = h
steps_renumbered number (s ∷ ss) n h = ⊎_elim
    (λ (own : (s.with == n) ≡ true).
    let e = ap number (same_number s.with n own) in
    or_left (number s.with == number n) (steps_name (map (step_renumbered number) ss) (number n))
    (ap (λ (k : ℕ). k == number n) e ∙ self_eq (number n)))
    (λ (rest : steps_name ss n ≡ true).
    or_right (number s.with == number n) (steps_name (map (step_renumbered number) ss) (number n))
    (steps_renumbered number ss n rest))
    (either (s.with == n) (steps_name ss n) h)

names_renumbered : (number : ℕ → ℕ) (l : Line) (n : ℕ) → names l n ≡ true →
    names (line_renumbered number l) (number n) ≡ true
names_renumbered number l n h = ⊎_elim
    (λ (own : (l.first == n) ≡ true).
    let e = ap number (same_number l.first n own) in
    or_left (number l.first == number n) (steps_name (map (step_renumbered number) l.steps) (number n))
    (ap (λ (k : ℕ). k == number n) e ∙ self_eq (number n)))
    (λ (rest : steps_name l.steps n ≡ true).
    or_right (number l.first == number n) (steps_name (map (step_renumbered number) l.steps) (number n))
    (steps_renumbered number l.steps n rest))
    (either (l.first == n) (steps_name l.steps n) h)

each_named : (formula : ℕ) (lines : List Line) (left : ℕ → Bool) (number : ℕ → ℕ) →
    AreNeeded formula lines left → AreNew formula left number →
    EachIsNamed formula (map (line_renumbered number) (lines_left left 0 lines))
each_named formula lines left number needed new p h =
    let kept = lines_left left 0 lines in
    let none : count_left left 0 ≡ 0 = refl in
    let size = length-map kept (line_renumbered number) in
    let all = length_left left lines 0 in
    let s = stands left lines 0 p (omega (arith, h, size)) in
    let same : s.place ≡ 0 + s.place = omega arith in
    let counted : count_left left s.place ≡ p = let a = ap (count_left left) same in let b = s.counted in
    omega (arith, a, b, none) in
    let stays : left s.place ≡ true = ap left same ∙ s.stays in
    let more = count_yes left s.place stays in
    ⊎_elim
    (λ (e : s.place + 1 ≡ length lines).
    let end : s.place + 1 ≡ 0 + length lines = omega (arith, e) in
    let total = ap (count_left left) end in
    absurd (omega (arith, h, size, all, total, more, counted, none)))
    (λ (by : IsNeededBy formula lines left 0 s.place).
    let q = count_left left by.later in
    let after : by.later ≡ s.place + 1 + (by.later - (s.place + 1)) = let w = by.named.is_earlier in
    omega (arith, w) in
    let grows = count_grows left (s.place + 1) (by.later - (s.place + 1)) in
    let there = ap (count_left left) after in
    let zero_on : 0 + by.later ≡ by.later = omega arith in
    let from = ap (count_left left) zero_on in
    let own : number (formula + s.place) ≡ formula + p =
    line_number formula left number new s.place ∙ ap (λ (k : ℕ). formula + k) counted in
    record {
      later = q;
      line = line_renumbered number by.line;
      is_later = omega (arith, more, counted, grows, there);
      is = slice_get-map (line_renumbered number) kept q
          ∙ ap (option_map (line_renumbered number))
          (at_new left lines 0 by.later by.line q by.is (ap left zero_on ∙ by.needed)
          (omega (arith, from, none)));
      named = ap (names (line_renumbered number by.line)) (sym own)
          ∙ names_renumbered number by.line (formula + s.place) by.named.named;
    })
    (needed.only s.place stays)

-- ---- the code's lists
pub trimmed_refutes : (cnf : Cnf) (log : Log) (formula : ℕ) (lines kept : List Line)
    (needed first second : List Bool) (table : Numbering) →
    formula ≡ length cnf.clauses → lines ≡ log.lines → first ≡ needed → second ≡ needed →
    AreNeeded formula lines (needs needed) →
    CountsLeft formula (needs first) table →
    kept ≡ map (line_renumbered (number_in table)) (lines_left (needs second) 0 lines) →
    Refutes cnf log → Refutes cnf (record { lines = kept })
trimmed_refutes cnf log formula lines kept needed first second table f l a b marks counts is r =
    let marks' = subst (λ (n : ℕ). AreNeeded n log.lines (needs needed)) f
    (subst (λ (ls : List Line). AreNeeded formula ls (needs needed)) l marks) in
    let counts' = subst (λ (n : ℕ). CountsLeft n (needs needed) table) f
    (subst (λ (bs : List Bool). CountsLeft formula (needs bs) table) a counts) in
    let is' = is ∙ ap (λ (bs : List Bool). map (line_renumbered (number_in table)) (lines_left (needs bs) 0 lines))
    b
    ∙ ap (λ (ls : List Line). map (line_renumbered (number_in table)) (lines_left (needs needed) 0 ls)) l in
    shorter_refutes cnf log kept (needs needed) (number_in table) marks'
    (table_number (length cnf.clauses) (needs needed) table counts') is' r

pub trimmed_named : (cnf : Cnf) (formula : ℕ) (lines kept : List Line) (needed first second : List Bool)
    (table : Numbering) →
    formula ≡ length cnf.clauses → first ≡ needed → second ≡ needed →
    AreNeeded formula lines (needs needed) →
    CountsLeft formula (needs first) table →
    kept ≡ map (line_renumbered (number_in table)) (lines_left (needs second) 0 lines) →
    EachIsNamed (length cnf.clauses) kept
trimmed_named cnf formula lines kept needed first second table f a b marks counts is =
    let marks' = subst (λ (n : ℕ). AreNeeded n lines (needs needed)) f marks in
    let counts' = subst (λ (n : ℕ). CountsLeft n (needs needed) table) f
    (subst (λ (bs : List Bool). CountsLeft formula (needs bs) table) a counts) in
    let is' = is ∙ ap (λ (bs : List Bool). map (line_renumbered (number_in table)) (lines_left (needs bs) 0 lines))
    b in
    subst (λ (ls : List Line). EachIsNamed (length cnf.clauses) ls) (sym is')
    (each_named (length cnf.clauses) lines (needs needed) (number_in table) marks'
    (table_number (length cnf.clauses) (needs needed) table counts'))

pub trimmed_shorter : (lines kept : List Line) (left : ℕ → Bool) (number : ℕ → ℕ) →
    kept ≡ map (line_renumbered number) (lines_left left 0 lines) →
    length kept ≤ length lines
trimmed_shorter lines kept left number is =
    let a = ap length is in
    let b = length-map (lines_left left 0 lines) (line_renumbered number) in
    let c = length_left left lines 0 in
    let d = count_small left (0 + length lines) in
    omega (arith, a, b, c, d)

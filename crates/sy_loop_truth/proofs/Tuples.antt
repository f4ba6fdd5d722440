-- One tuple more.
use Rattle.std.proofs.Common.{◌≡◌, ◌<◌, ◌≤◌, ◌+◌, ◌++◌, ⊎_elim, inl, inr, refl, ap, sym, subst, ◌∙◌, ℕ, zero, suc, List, [], ◌∷◌, length, take, arith, slice_get, slice_index_or, slice_set, get_or, Some}
use Rattle.std.specs.Prelude.{◌⊎◌}
use Rattle.std.specs.List.{Contains}
use Rattle.std.proofs.lemmas.List.{length-append, take_more, take_all}
use Rattle.std.proofs.lemmas.List.Elements.{Contains-push, Contains-push_cases, Contains-append_left}
use Rattle.sy_terms.specs.Values.{Val}
use Rattle.sy_points.specs.Asked as points
use Rattle.sy_points.specs.Asked.{Asked, of_function, with_tuple}
use Rattle.sy_points.specs.declared.points.Added.TheVariants as added
use Rattle.sy_points.proofs.Distinct.{bounded_with}
use Rattle.sy_loop_spec.specs.Adding.{IsAsked, room_in, room, GainsTuples, AreAsked, FunctionIsFull}
use Rattle.sy_loop_truth.specs.Answers.{AddsCalls}
use Rattle.sy_loop_truth.specs.declared.calls.Adding.{Adding}
use Rattle.sy_loop_truth.specs.declared.calls.Adding.TheVariants.{There, New, Full}
use Rattle.sy_loop_truth.proofs.Items.{has_place}

abbrev pub Lists : Type 0
Lists = List (List (List Val))

-- the lists with one tuple more for a function
abbrev pub pushed : Lists → ℕ → List Val → Lists
pushed lists function tuple = slice_set lists function (slice_index_or lists function [] ++ tuple ∷ [])

push_keeps : (lists : Lists) (function : ℕ) (tuple : List Val) (other : ℕ) (x : List Val) → Contains (slice_index_or lists other []) x → Contains (slice_index_or (pushed lists function tuple) other []) x
push_keeps [] function tuple other x at = at
push_keeps (l ∷ lists) zero tuple zero x at = Contains-append_left l (tuple ∷ []) x at
push_keeps (l ∷ lists) zero tuple (suc other) x at = at
push_keeps (l ∷ lists) (suc function) tuple zero x at = at
push_keeps (l ∷ lists) (suc function) tuple (suc other) x at = push_keeps lists function tuple other x at

push_only : (lists : Lists) (function : ℕ) (tuple : List Val) (other : ℕ) (x : List Val) → Contains (slice_index_or (pushed lists function tuple) other []) x →
    Contains (slice_index_or lists other []) x ⊎ ((function ≡ other) × (tuple ≡ x))
push_only [] function tuple other x at = inl at
push_only (l ∷ lists) zero tuple zero x at = ⊎_elim (λ (old : Contains l x). inl old) (λ (same : tuple ≡ x). inr (refl, same)) (Contains-push_cases l tuple x at)
push_only (l ∷ lists) zero tuple (suc other) x at = inl at
push_only (l ∷ lists) (suc function) tuple zero x at = inl at
push_only (l ∷ lists) (suc function) tuple (suc other) x at = ⊎_elim
    (λ (old : Contains (slice_index_or lists other []) x). inl old)
    (λ (new : (function ≡ other) × (tuple ≡ x)). inr (ap suc new.0, new.1))
    (push_only lists function tuple other x at)

push_there : (lists : Lists) (function : ℕ) (tuple : List Val) → function < length lists → Contains (slice_index_or (pushed lists function tuple) function []) tuple
push_there [] function tuple within = absurd (omega (arith, within))
push_there (l ∷ lists) zero tuple within = Contains-push l tuple
push_there (l ∷ lists) (suc function) tuple within = push_there lists function tuple (omega (arith, within))

push_length : (lists : Lists) (function : ℕ) (tuple : List Val) → length (pushed lists function tuple) ≡ length lists
push_length [] function tuple = refl
push_length (l ∷ lists) zero tuple = refl
push_length (l ∷ lists) (suc function) tuple = ap suc (push_length lists function tuple)

push_room : (limit : ℕ) (lists : Lists) (function : ℕ) (tuple : List Val) → function < length lists → length (slice_index_or lists function []) < limit → room_in limit (pushed lists function tuple) < room_in limit lists
push_room limit [] function tuple within short = absurd (omega (arith, within))
push_room limit (l ∷ lists) zero tuple within short = omega (arith, short, length-append l (tuple ∷ []))
push_room limit (l ∷ lists) (suc function) tuple within short = omega (arith, push_room limit lists function tuple (omega (arith, within)) short)

-- nothing happened yet
pub gains_start : (calls : List (ℕ × List Val)) (before : Asked) → GainsTuples calls before before
gains_start calls before = record { limit = refl; functions = refl; keeps = λ function tuple at. at; only = λ function tuple at. inl at; less = omega arith; bounded = λ bounded. bounded }

gains_push : (calls : List (ℕ × List Val)) (before now : Asked) (function : ℕ) (tuple : List Val) → GainsTuples calls before now → function < length now.tuples → (IsAsked now function tuple → ⊥) → length (of_function now function) < now.limit → Contains calls (function, tuple) →
    GainsTuples calls before (with_tuple now function tuple)
gains_push calls before now function tuple gains within new short of = record {
  limit = gains.limit;
  functions = push_length now.tuples function tuple ∙ gains.functions;
  keeps = λ other x at. push_keeps now.tuples function tuple other x (gains.keeps other x at);
  only = λ other x at. ⊎_elim
      (λ (old : IsAsked now other x). gains.only other x old)
      (λ (new : (function ≡ other) × (tuple ≡ x)). inr (let same : (function, tuple) ≡ (other, x) = λ i. (new.0 i, new.1 i) in subst (λ call. Contains calls call) same of))
      (push_only now.tuples function tuple other x at);
  less = omega (arith, gains.less, push_room now.limit now.tuples function tuple within short);
  bounded = λ bounded. bounded_with now function tuple within (gains.bounded bounded) new short;
}

-- what an addition leaves
pub gains_more : (calls : List (ℕ × List Val)) (before now after : Asked) (place function : ℕ) (tuple : List Val) (answer : added.the_data) → GainsTuples calls before now → function < length now.tuples → slice_get calls place ≡ Some (function, tuple) →
    points.Adds now function tuple answer after → GainsTuples calls before after
gains_more calls before now after place function tuple added.There gains within at adds = subst (GainsTuples calls before) (sym adds.1) gains
gains_more calls before now after place function tuple added.Full gains within at adds = subst (GainsTuples calls before) (sym adds.2) gains
gains_more calls before now after place function tuple added.New gains within at adds =
    subst (GainsTuples calls before) (sym adds.2) (gains_push calls before now function tuple gains within adds.0 adds.1 (has_place calls place (function, tuple) at))

-- what an addition did
abbrev pub Changed : Asked → Asked → Adding → Type 0
Changed before after There = after ≡ before
Changed before after New = room after < room before
Changed before after (Full function) = ⊥

asked_more : (calls : List (ℕ × List Val)) (now after : Asked) (place function : ℕ) (tuple : List Val) → slice_get calls place ≡ Some (function, tuple) → ((other : ℕ) (x : List Val) → IsAsked now other x → IsAsked after other x) →
    IsAsked after function tuple → AreAsked (take place calls) now → AreAsked (take (place + 1) calls) after
asked_more calls now after place function tuple at keeps there asked other x in_more =
    let within = within_at calls place (function, tuple) at in
    let last = get_at calls place (function, tuple) at in
    let split = take_more calls place (function, tuple) within in
    ⊎_elim
    (λ (old : Contains (take place calls) (other, x)). keeps other x (asked other x old))
    (λ (new : get_or calls place (function, tuple) ≡ (other, x)).
    let same : (function, tuple) ≡ (other, x) = sym last ∙ new in
    subst (λ call. IsAsked after call.0 call.1) same there)
    (Contains-push_cases (take place calls) (get_or calls place (function, tuple)) (other, x) (subst (λ all. Contains all (other, x)) split in_more))
  where
    within_at : {X : Type 0} (xs : List X) (k : ℕ) (x : X) → slice_get xs k ≡ Some x → k < length xs
    within_at [] k x e = absurd (cc)
    within_at (y ∷ xs) zero x e = omega arith
    within_at (y ∷ xs) (suc k) x e = omega (arith, within_at xs k x e)

    get_at : {X : Type 0} (xs : List X) (k : ℕ) (x : X) → slice_get xs k ≡ Some x → get_or xs k x ≡ x
    get_at [] k x e = absurd (cc)
    get_at (y ∷ xs) zero x e = cc
    get_at (y ∷ xs) (suc k) x e = get_at xs k x e

-- the calls up to the next place are there
pub there_more : (calls : List (ℕ × List Val)) (now after : Asked) (place function : ℕ) (tuple : List Val) (answer : added.the_data) → function < length now.tuples → slice_get calls place ≡ Some (function, tuple) → (answer ≡ added.Full → ⊥) →
    points.Adds now function tuple answer after → AreAsked (take place calls) now → AreAsked (take (place + 1) calls) after
there_more calls now after place function tuple added.Full within at other adds asked = absurd (other refl)
there_more calls now after place function tuple added.There within at other adds asked =
    subst (AreAsked (take (place + 1) calls)) (sym adds.1) (asked_more calls now now place function tuple at (λ k x it. it) adds.0 asked)
there_more calls now after place function tuple added.New within at other adds asked =
    subst (AreAsked (take (place + 1) calls)) (sym adds.2)
    (asked_more calls now (with_tuple now function tuple) place function tuple at (push_keeps now.tuples function tuple) (push_there now.tuples function tuple within) asked)

pub changed_not : (before now after : Asked) (function : ℕ) (tuple : List Val) (adding : Adding) → points.Adds now function tuple added.There after → Changed before now adding → Changed before after adding
changed_not before now after function tuple adding adds changed = subst (λ a. Changed before a adding) (sym adds.1) changed

pub changed_new : (calls : List (ℕ × List Val)) (before now after : Asked) (function : ℕ) (tuple : List Val) → GainsTuples calls before now → function < length now.tuples → points.Adds now function tuple added.New after → Changed before after New
changed_new calls before now after function tuple gains within adds =
    subst (λ a. room a < room before) (sym adds.2) (omega (arith, gains.less, push_room now.limit now.tuples function tuple within adds.1))

-- the answer at the end
pub adds_all : (calls : List (ℕ × List Val)) (before after : Asked) (place : ℕ) (adding : Adding) → length calls ≤ place → AreAsked (take place calls) after → Changed before after adding → AddsCalls calls before after adding
adds_all calls before after place There done asked changed = (subst (λ all. AreAsked all after) (take_all place calls done) asked, changed)
adds_all calls before after place New done asked changed = (subst (λ all. AreAsked all after) (take_all place calls done) asked, changed)
adds_all calls before after place (Full function) done asked changed = absurd changed

pub full_at : (calls : List (ℕ × List Val)) (now after : Asked) (place function : ℕ) (tuple : List Val) → function < length now.tuples → slice_get calls place ≡ Some (function, tuple) → points.Adds now function tuple added.Full after → FunctionIsFull calls after function
full_at calls now after place function tuple within at adds =
    subst (λ a. FunctionIsFull calls a function) (sym adds.2)
    (record { tuple = tuple; of = has_place calls place (function, tuple) at; within = within; new = adds.0; full = adds.1 })

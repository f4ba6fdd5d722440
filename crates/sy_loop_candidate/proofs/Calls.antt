-- Calls that are among the tuples, and calls that aren't.
use Rattle.std.specs.Prelude.{ℕ, List, [], ◌∷◌, ◌++◌, ◌≡◌}
use Rattle.std.specs.List.{Contains}
use Rattle.std.proofs.Common.{⊎_elim, subst, sym, arith}
use Rattle.std.proofs.lemmas.List.Elements.{Contains-push, Contains-push_cases, Contains-append_left, Contains-append_right, Contains-append_cases}
use Rattle.sy_terms.specs.Values.{Val}
use Rattle.sy_points.specs.Asked.{Asked}
use Rattle.sy_loop_spec.specs.Adding.{IsAsked, AreAsked}
use Rattle.sy_loop_candidate.specs.Observing.{IsMissing}

pub no_call : (asked : Asked) → AreAsked [] asked
no_call asked function tuple at = absurd (omega (arith, at.1))

pub no_calls : (calls : List (ℕ × List Val)) (asked : Asked) → calls ≡ [] → AreAsked calls asked
no_calls calls asked e = subst (λ all. AreAsked all asked) (sym e) (no_call asked)

pub both_asked : (first second : List (ℕ × List Val)) (asked : Asked) → AreAsked first asked → AreAsked second asked → AreAsked (first ++ second) asked
both_asked first second asked p q function tuple at = ⊎_elim
    (λ (one : Contains first (function, tuple)). p function tuple one)
    (λ (other : Contains second (function, tuple)). q function tuple other)
    (Contains-append_cases first second (function, tuple) at)

pub one_asked : (asked : Asked) (function : ℕ) (tuple : List Val) → IsAsked asked function tuple → AreAsked ((function, tuple) ∷ []) asked
one_asked asked function tuple there f t at = ⊎_elim
    (λ (none : Contains [] (f, t)). absurd (omega (arith, none.1)))
    (λ (same : (function, tuple) ≡ (f, t)). subst (λ (call : ℕ × List Val). IsAsked asked call.0 call.1) same there)
    (Contains-push_cases [] (function, tuple) (f, t) at)

pub none_missing : (calls : List (ℕ × List Val)) (asked : Asked) → calls ≡ [] → IsMissing calls asked → ⊥
none_missing calls asked e missing = omega (arith, (subst (λ all. Contains all (missing.function, missing.tuple)) e missing.of).1)

pub first_missing : (first second : List (ℕ × List Val)) (asked : Asked) → IsMissing first asked → IsMissing (first ++ second) asked
first_missing first second asked m = record { function = m.function; tuple = m.tuple; of = Contains-append_left first second (m.function, m.tuple) m.of; new = m.new }

pub second_missing : (first second : List (ℕ × List Val)) (asked : Asked) → IsMissing second asked → IsMissing (first ++ second) asked
second_missing first second asked m = record { function = m.function; tuple = m.tuple; of = Contains-append_right first second (m.function, m.tuple) m.of; new = m.new }

pub one_missing : (asked : Asked) (function : ℕ) (tuple : List Val) → (IsAsked asked function tuple → ⊥) → IsMissing ((function, tuple) ∷ []) asked
one_missing asked function tuple new = record { function = function; tuple = tuple; of = Contains-push [] (function, tuple); new = new }

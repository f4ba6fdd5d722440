-- Whether all replies give definitions.
use Rattle.std.proofs.Common.{◌≡◌, ◌<◌, ◌+◌, ◌∷◌, [], ℕ, zero, suc, List, length, map, drop, get_or, refl, arith, subst}
use Rattle.std.specs.Prelude.{All, Any}
use Rattle.std.proofs.lemmas.List.Elements.{All-cons}
use Rattle.sygus_replies.specs.Replies.{Reply, IsSettled, IsFail}

-- one fails
pub some_fails : {A : Type 0} (reply : A → Reply) (answers : List A) (k : ℕ) (answer : A) → k < length answers → answer ≡ get_or answers k answer → IsFail (reply answer) → Any IsFail (map reply answers)
some_fails reply [] k answer lt at fails = absurd (omega arith)
some_fails reply (first ∷ rest) zero answer lt at fails = (zero, reply first, omega arith, refl, subst (λ a. IsFail (reply a)) at fails)
some_fails reply (first ∷ rest) (suc k) answer lt at fails =
    let it = some_fails reply rest k answer (omega arith) at fails in
    (suc it.0, it.1, omega (arith, it.2), it.3, it.4)

-- one more gives definitions
pub all_settled_from : {A : Type 0} (reply : A → Reply) (answers : List A) (k : ℕ) (answer : A) → k < length answers → answer ≡ get_or answers k answer → IsSettled (reply answer)
    → All IsSettled (map reply (drop (k + 1) answers)) → All IsSettled (map reply (drop k answers))
all_settled_from reply [] k answer lt at found rest = absurd (omega arith)
all_settled_from reply (first ∷ others) zero answer lt at found rest = All-cons IsSettled (reply first) (map reply others) (subst (λ a. IsSettled (reply a)) at found) rest
all_settled_from reply (first ∷ others) (suc k) answer lt at found rest =
    let e : suc k + 1 ≡ suc (k + 1) = omega arith in
    all_settled_from reply others k answer (omega arith) at found (subst (λ n. All IsSettled (map reply (drop n (first ∷ others)))) e rest)

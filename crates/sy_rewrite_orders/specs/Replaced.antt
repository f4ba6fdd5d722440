-- Terms in which names are replaced by what they stand for.
use Rattle.std.specs.Prelude.{ℕ, Bool, true, false, ◌≡◌, ◌↔◌, ◌+◌, ◌++◌, List, [], length}
use Rattle.sy_terms.specs.Values.{Val, Truth}
use Rattle.sy_terms.specs.Expr.{Expr, Exprs, Bind}
use Rattle.sy_terms.specs.Meaning.{Function, meaning, meanings}

-- at so many values, the one means what the other means at the values that the names stand for
abbrev pub IsReplaced : ℕ → Exprs → Expr → Expr → Type 0
IsReplaced count names found term = (defined wanted : List Function) (values : List Val) → length values ≡ count →
    meaning defined wanted values found ≡ meaning defined wanted (meanings defined wanted values names) term

-- the same of lists of terms
abbrev pub AreReplaced : ℕ → Exprs → Exprs → Exprs → Type 0
AreReplaced count names found terms = (defined wanted : List Function) (values : List Val) → length values ≡ count →
    meanings defined wanted values found ≡ meanings defined wanted (meanings defined wanted values names) terms

-- the terms are the variables that stand after so many others
abbrev pub AreNext : ℕ → ℕ → Exprs → Type 0
AreNext count many terms = (defined wanted : List Function) (values later : List Val) → length values ≡ count → length later ≡ many →
    meanings defined wanted (values ++ later) terms ≡ later

-- at so many values, one is true exactly where the other is
abbrev pub SaysTheSameAt : ℕ → Expr → Expr → Type 0
SaysTheSameAt count term other = (values : List Val) → length values ≡ count → (meaning [] [] values term ≡ Truth true) ↔ (meaning [] [] values other ≡ Truth true)

-- what a `let` is written as: what is under it, where its terms stand in the places of its names
abbrev pub let_of : Bool → Exprs → Expr → Expr
let_of true bound inner = inner
let_of false bound inner = Bind bound inner

-- with the names after this, where so many values more are in force, what is under a `let` of terms like these is replaced as the
-- `let` is with the names before
abbrev pub AreNamed : Bool → ℕ → ℕ → Exprs → Exprs → Exprs → Type 0
AreNamed stand count many before after bound = (terms : Exprs) (found inner : Expr) → AreReplaced count before bound terms →
    IsReplaced (count + many) after found inner → IsReplaced count before (let_of stand bound found) (Bind terms inner)

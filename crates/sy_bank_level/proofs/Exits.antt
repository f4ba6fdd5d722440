-- What holds where an error is handed on.
use Rattle.std.proofs.Common.{◌≡◌, sym, subst, Result, Ok, Err}
use Rattle.std.specs.Prelude.{IsErrAnd, OnOk, IfOk, IfErr}

pub not-ok : {X E : Type 0} (F : Type 0) (answer : Result X E) (end : E) → IsErrAnd answer (λ e. e ≡ end) → OnOk answer F
not-ok F (Ok x) end told = absurd told
not-ok F (Err e) end told = tt

pub never-ok : {X E : Type 0} (F : X → Type 0) (answer : Result X E) (end : E) → IsErrAnd answer (λ e. e ≡ end) → IfOk answer F
never-ok F (Ok x) end told = absurd told
never-ok F (Err e) end told = tt

pub ends : {X E : Type 0} (fact : E → Type 0) (answer : Result X E) (end : E) → IsErrAnd answer (λ e. e ≡ end) → fact end → IfErr answer fact
ends fact (Ok x) end told holds = tt
ends fact (Err e) end told holds = subst fact (sym told) holds

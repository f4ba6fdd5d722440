-- Terms of parts that mean the same.
use Rattle.std.specs.Prelude.{List, [], ◌∷◌, ◌++◌, ◌≡◌, refl}
use Rattle.std.proofs.Common.{ap, ◌∙◌}
use Rattle.sy_terms.specs.Values.{Val}
use Rattle.sy_terms.specs.Operators.{op_value}
use Rattle.sy_terms.specs.Expr.{Expr, Exprs, Apply, Invoke, Bind}
use Rattle.sy_terms.specs.Denoted.{expr_of, exprs_of}
use Rattle.sy_terms.specs.Meaning.{Function, meaning, meanings, called, function_of}
use Rattle.sy_terms.specs.declared.op.Op.{Op}
use Rattle.sy_terms.specs.declared.term.Fun.{Fun}
use Rattle.sy_terms.specs.declared.term.Term.{Term}
use Rattle.sy_rewrite_orders.specs.Alike.{IsAlike, AreAlike}

pub applied_alike : (operator : Op) (found : Expr) (arguments others : Exprs) → IsAlike found (Apply operator arguments) → AreAlike arguments others → IsAlike found (Apply operator others)
unfolding meaning
applied_alike operator found arguments others is are defined wanted values = is defined wanted values ∙ ap (op_value operator) (are defined wanted values)

pub called_alike : (function : Fun) (arguments others : Exprs) → AreAlike arguments others → IsAlike (Invoke function arguments) (Invoke function others)
unfolding meaning
called_alike function arguments others are defined wanted values = ap (called (function_of defined wanted function)) (are defined wanted values)

pub bound_alike : (bound others : Exprs) (inner other : Expr) → AreAlike bound others → IsAlike inner other → IsAlike (Bind bound inner) (Bind others other)
unfolding meaning
bound_alike bound others inner other are is defined wanted values =
    ap (λ (found : List Val). meaning defined wanted (values ++ found) inner) (are defined wanted values) ∙ is defined wanted (values ++ meanings defined wanted values others)

-- what a list means with one term more
pub meanings_last : {T N : Type 0} (number : N → Val) (defined wanted : List Function) (values : List Val) (terms : List (Term T N)) (last : Term T N) →
    meanings defined wanted values (exprs_of number (terms ++ last ∷ [])) ≡ meanings defined wanted values (exprs_of number terms) ++ meaning defined wanted values (expr_of number last) ∷ []
unfolding meanings
meanings_last number defined wanted values [] last = refl
meanings_last number defined wanted values (term ∷ terms) last = ap (λ (rest : List Val). meaning defined wanted values (expr_of number term) ∷ rest) (meanings_last number defined wanted values terms last)

-- lists with one term more
pub more_alike : {T N : Type 0} (number : N → Val) (terms others : List (Term T N)) (term other : Term T N) → AreAlike (exprs_of number terms) (exprs_of number others) → IsAlike (expr_of number term) (expr_of number other) →
    AreAlike (exprs_of number (terms ++ term ∷ [])) (exprs_of number (others ++ other ∷ []))
more_alike number terms others term other are is defined wanted values =
    rw (meanings_last number defined wanted values terms term, meanings_last number defined wanted values others other, are defined wanted values, is defined wanted values) refl

-- The parts of a query, in the words of its code.
use Rattle.std.specs.Prelude.{List, [], ◌∷◌, ◌++◌, ◌≡◌, refl, length}
use Rattle.std.proofs.Common.{ap, ◌∙◌, arith}
use Rattle.sy_terms.specs.Values as values
use Rattle.sy_terms.specs.Values.{Val}
use Rattle.sy_terms.specs.Expr as expr
use Rattle.sy_terms.specs.Expr.{Expr, Apply}
use Rattle.sy_terms.specs.Denoted.{expr_of, exprs_of, exprs_of-append, expr_of-App, expr_of-Const}
use Rattle.sy_terms.specs.declared.op.Op.TheVariants.{And, Not}
use Rattle.sy_terms.specs.declared.sort.Value.{Value}
use Rattle.sy_terms.specs.declared.sort.Value.TheVariants.{Truth}
use Rattle.sy_terms.specs.declared.term.Term.{Term, Const, App}
use Rattle.sy_terms.specs.declared.term.Terms.{Terms}
use Rattle.sy_query_violation.specs.Violating.{conjoined, violated_by}
use Rattle.std.specs.Prelude.{true}

none-of : {T N : Type 0} (number : N → Val) (terms : List (Term T N)) → length terms ≡ 0 → conjoined (exprs_of number terms) ≡ expr.Constant (values.Truth true)
none-of number [] e = refl
none-of number (t ∷ terms) e = absurd (omega (arith, e))

some-of : {T N : Type 0} (number : N → Val) (terms : List (Term T N)) → (length terms ≡ 0 → ⊥) → conjoined (exprs_of number terms) ≡ Apply And (exprs_of number terms)
some-of number [] not = absurd (not refl)
some-of number (t ∷ terms) not = refl

pub conjoined-none : (T : Type 0) {N : Type 0} (number : N → Val) (terms : List (Term T N)) → length terms ≡ 0 → let value : Value N = Truth true in let t : Term T N = Const value in expr_of number t ≡ conjoined (exprs_of number terms)
conjoined-none T {N} number terms e =
    let value : Value N = Truth true in
    rw (none-of number terms e) (expr_of-Const T number value)

pub conjoined-some : {T N : Type 0} (number : N → Val) (terms : Terms T N) → (length terms.items.items ≡ 0 → ⊥) → expr_of number (App And terms) ≡ conjoined (exprs_of number terms.items.items)
conjoined-some number terms not = rw (some-of number terms.items.items not) (expr_of-App number And terms)

pub violation-is : {T N : Type 0} (number : N → Val) (assumptions constraints : List (Term T N)) (parts negated : Terms T N) (inner : Term T N) → expr_of number inner ≡ conjoined (exprs_of number constraints) → negated.items.items ≡ inner ∷ [] → parts.items.items ≡ assumptions ++ App Not negated ∷ [] → expr_of number (App And parts) ≡ violated_by (exprs_of number assumptions) (exprs_of number constraints)
violation-is {T} {N} number assumptions constraints parts negated inner is one all =
    let last : expr_of number (App Not negated) ≡ Apply Not (expr.more (conjoined (exprs_of number constraints)) expr.none) =
    expr_of-App number Not negated ∙ (ap (λ (ts : List (Term T N)). Apply Not (exprs_of number ts)) one ∙ ap (λ (e : Expr). Apply Not (expr.more e expr.none)) is) in
    expr_of-App number And parts
    ∙ (ap (λ (ts : List (Term T N)). Apply And (exprs_of number ts)) all
    ∙ (ap (Apply And) (exprs_of-append number assumptions (App Not negated ∷ []))
    ∙ ap (λ (e : Expr). Apply And (expr.append (exprs_of number assumptions) (expr.more e expr.none))) last))

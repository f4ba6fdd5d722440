-- Lists of terms with one more.
use Rattle.std.proofs.Common.{◌≡◌, List, [], ◌∷◌, ◌++◌, ap, ◌∙◌}
use Rattle.sy_terms.specs.Values.{Val}
use Rattle.sy_terms.specs.Expr.{Expr, more, none}
use Rattle.sy_terms.specs.Denoted.{expr_of, exprs_of}
use Rattle.sy_terms.specs.declared.term.Term.{Term}

pub one_more : {T N : Type 0} (number : N → Val) (copies terms : List (Term T N)) (copy term : Term T N) → exprs_of number copies ≡ exprs_of number terms → expr_of number copy ≡ expr_of number term → exprs_of number (copies ++ copy ∷ []) ≡ exprs_of number (terms ++ term ∷ [])
one_more number [] [] copy term same is = ap (λ (e : Expr). more e none) is
one_more number [] (y ∷ terms) copy term same is = cc
one_more number (x ∷ copies) [] copy term same is = cc
one_more number (x ∷ copies) (y ∷ terms) copy term same is =
    let first : expr_of number x ≡ expr_of number y = cc in
    let rest : exprs_of number copies ≡ exprs_of number terms = cc in
    ap (λ (e : Expr). more e (exprs_of number (copies ++ copy ∷ []))) first ∙ ap (more (expr_of number y)) (one_more number copies terms copy term rest is)

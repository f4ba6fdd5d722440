use Rattle.std.proofs.Common.{◌≡◌, [], ◌∷◌, length, arith, ap, sym, ◌∙◌}
use Rattle.sy_terms.specs.Denoted.{expr_of}
use Rattle.sy_terms.specs.Meaning.{meaning}
use Rattle.sy_meaning_words.specs.Vectors.{vector}
use Rattle.sy_rewrite_orders.proofs.TermsLaws.{two-terms}
use Rattle.sy_query_normal.proofs.itself.twice.Goals as goal

pub returns-then-equals : goal.returns-then-equals
returns-then-equals c = λ values.
    let many : length c.args.arguments.now.items.items ≡ 2 = omega (arith, c.len.ensures, c.if-len-ne2.false) in
    two-terms vector values c.args.arguments.now.items.items c.in_ok-left.left.now c.in_ok-right.right.now many c.in_ok-left.ensures c.in_ok-right.ensures
    ∙ ap (λ term. meaning [] [] values (expr_of vector c.in_ok-left.left.now) ∷ meaning [] [] values term ∷ []) (sym (c.equals.ensures.0 c.if-equals.true))

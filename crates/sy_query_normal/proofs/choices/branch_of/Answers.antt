use Rattle.std.proofs.Common.{◌≡◌, length, arith, ap, sym, ◌∙◌, [], cond}
use Rattle.sy_terms.specs.Operators.{op_value}
use Rattle.sy_terms.specs.Denoted.{expr_of}
use Rattle.sy_terms.specs.Meaning.{meaning}
use Rattle.sy_terms.specs.declared.op.Op.TheVariants as ops
use Rattle.sy_meaning_words.specs.Vectors.{vector}
use Rattle.sy_query_normal.proofs.Pairs.{three-terms, one_branch, known_branch}
use Rattle.sy_query_normal.proofs.choices.branch_of.Goals as goal

pub returns-then-equals : goal.returns-then-equals
returns-then-equals c = λ values.
    let many : length c.args.arguments.now.items.items ≡ 3 = omega (arith, c.len.ensures, c.if-len-ne3.false) in
    let are = three-terms vector values c.args.arguments.now.items.items c.in_ok-test.test.now c.in_ok-there.there.now c.in_ok-here.here.now many c.in_ok-test.ensures c.in_ok-there.ensures c.in_ok-here.ensures in
    let same = c.equals.ensures.0 c.if-equals.true in
    one_branch (meaning [] [] values (expr_of vector c.in_ok-test.test.now)) (meaning [] [] values (expr_of vector c.in_ok-there.there.now)) (meaning [] [] values (expr_of vector c.in_ok-here.here.now)) (ap (meaning [] [] values) same)
    ∙ ap (op_value ops.Ite) (sym are)

pub returns-then-truth : goal.returns-then-truth
returns-then-truth c = λ values.
    let many : length c.args.arguments.now.items.items ≡ 3 = omega (arith, c.len.ensures, c.if-len-ne3.false) in
    let are = three-terms vector values c.args.arguments.now.items.items c.in_ok-test.test.now c.in_ok-there.there.now c.in_ok-here.here.now many c.in_ok-test.ensures c.in_ok-there.ensures c.in_ok-here.ensures in
    let there = meaning [] [] values (expr_of vector c.in_ok-there.there.now) in
    let here = meaning [] [] values (expr_of vector c.in_ok-here.here.now) in
    ap (λ b. cond b there here) (sym c.if-truth.true) ∙ known_branch (meaning [] [] values (expr_of vector c.in_ok-test.test.now)) there here c.in_ok-truth.truth (c.in_ok-truth.ensures values)
    ∙ ap (op_value ops.Ite) (sym are)

pub returns-else-truth : goal.returns-else-truth
returns-else-truth c = λ values.
    let many : length c.args.arguments.now.items.items ≡ 3 = omega (arith, c.len.ensures, c.if-len-ne3.false) in
    let are = three-terms vector values c.args.arguments.now.items.items c.in_ok-test.test.now c.in_ok-there.there.now c.in_ok-here.here.now many c.in_ok-test.ensures c.in_ok-there.ensures c.in_ok-here.ensures in
    let there = meaning [] [] values (expr_of vector c.in_ok-there.there.now) in
    let here = meaning [] [] values (expr_of vector c.in_ok-here.here.now) in
    ap (λ b. cond b there here) (sym c.if-truth.false) ∙ known_branch (meaning [] [] values (expr_of vector c.in_ok-test.test.now)) there here c.in_ok-truth.truth (c.in_ok-truth.ensures values)
    ∙ ap (op_value ops.Ite) (sym are)

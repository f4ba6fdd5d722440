use Rattle.std.proofs.Common.{◌≡◌, refl}
use Rattle.sy_terms.specs.Denoted.{expr_of-App}
use Rattle.sy_terms.specs.Expr as expr
use Rattle.sy_terms.specs.Expr.{Expr}
use Rattle.sy_terms.specs.declared.op.Op.TheVariants as ops
use Rattle.sy_loop_trees.proofs.tree.+tree_term.Goals as goal

-- equal parts make equal choices
same_choice : {test test' there there' here here' : Expr} → test ≡ test' → there ≡ there' → here ≡ here' →
    expr.Apply ops.Ite (expr.more test (expr.more there (expr.more here expr.none))) ≡ expr.Apply ops.Ite (expr.more test' (expr.more there' (expr.more here' expr.none)))
same_choice test there here = rw (test, there, here) refl

pub returns-in_ok-push-in-Test-3 : goal.returns-in_ok-push-in-Test-3
returns-in_ok-push-in-Test-3 g t c =
    let there = rw c.deref.ensures at c.in_ok-tree_term-in-Test.ensures in
    let here = rw c.deref-in-Test.ensures at c.in_ok-tree_term-in-Test-2.ensures in
    rw (expr_of-App, c.in_ok-push-in-Test-3.ensures.ok, c.in_ok-push-in-Test-2.ensures.ok, c.in_ok-push-in-Test.ensures.ok, c.in_ok-arguments-in-Test.ensures, c.in-Test.is)
    (same_choice c.in_ok-part_term-in-Test.ensures there here)

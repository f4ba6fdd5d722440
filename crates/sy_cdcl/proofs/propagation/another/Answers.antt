use Rattle.std.proofs.Common.{◌≡◌, ◌∙◌, true, sym, subst}
use Rattle.sy_clauses.specs.declared.Lit.{Lit}
use Rattle.sy_clauses.specs.Clauses.{literals, same_literal}
use Rattle.sy_cdcl.proofs.Inspect.{only_more, found_at}
use Rattle.sy_cdcl.proofs.propagation.another.Goals as goal

pub returns-then-not-is_same : goal.returns-then-not-is_same
returns-then-not-is_same c =
    let d : Lit = c.code-item.result in
    record {
      has = subst (λ (l : Lit). literals c.args.clause.now l.var l.positive ≡ true) (sym (c.literal-other.ensures ∙ c.code-item.is))
          (found_at c.args.clause.now c.loop-code.code-index d c.loop-code-test.true);
      different = sym c.is_same.ensures ∙ c.if-not-is_same.true;
    }

pub loop-code-preserved : goal.loop-code-preserved
loop-code-preserved c =
    let d : Lit = c.code-item.result in
    only_more c.args.clause.now c.loop-code.code-index d c.args.literal c.loop-code-test.true c.loop-code.invariant
    (subst (λ (l : Lit). same_literal c.args.literal.var c.args.literal.positive l.var l.positive ≡ true)
    (c.literal-other.ensures ∙ c.code-item.is) (sym c.is_same.ensures ∙ c.if-not-is_same.false))

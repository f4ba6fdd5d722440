use Rattle.std.proofs.Common.{arith, ap, min, ◌∙◌}
use Rattle.std.proofs.lemmas.List.{take_all, take_more}
use Rattle.sy_terms.specs.Expr.{depth_of}
use Rattle.sy_terms.specs.Denoted.{exprs_of, expr_of-Const, expr_of-Var, expr_of-App, expr_of-Call, expr_of-Let, depth_of-last}
use Rattle.sy_terms.proofs.term.+depth.Goals as goal
use Rattle.sy_terms.proofs.term.+depth.Goals.{Term::depth-in-Const, Term::depth-in-Var, Term::depth-in-App, Term::depth-in-Call, Term::depth-in-Let}

pub Term::depth-returns : goal.Term::depth-returns
Term::depth-returns g t c = elim c.match-self.branch [
  | Term::depth-in-Const w ↦ rw (w.in-Const.is, expr_of-Const) (grind arith)
  | Term::depth-in-Var w ↦ rw (w.in-Var.is, expr_of-Var) (grind arith)
  | Term::depth-in-App w ↦ rw (w.in-App.is, expr_of-App) (grind arith)
  | Term::depth-in-Call w ↦ rw (w.in-Call.is, expr_of-Call) (grind arith)
  | Term::depth-in-Let w ↦ rw (w.in-Let.is, expr_of-Let) (grind arith)
]

pub Terms::depth-loop-term-preserved : goal.Terms::depth-loop-term-preserved
Terms::depth-loop-term-preserved g t c =
    let more = take_more c.deref-term-items.result.now c.loop-term.term-index c.term-item.result (grind arith) in
    rw (more, ← c.term-item.is, depth_of-last) (grind arith)

pub Terms::depth-loop-term-init : goal.Terms::depth-loop-term-init
Terms::depth-loop-term-init g t c = omega arith

pub Terms::depth-returns : goal.Terms::depth-returns
Terms::depth-returns g t c =
    let all = take_all c.loop-term.term-index c.deref-term-items.result.now c.loop-term-test.false in
    rw (← c.deref-term-items.ensures.value) (c.loop-term.invariant ∙ ap (λ terms. min c.args.cap (depth_of (exprs_of g.T.Theory.denotes terms))) all)

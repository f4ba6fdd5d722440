use Rattle.std.proofs.Common.{arith, ap, min, ◌∙◌}
use Rattle.std.proofs.lemmas.List.{take_all, take_more}
use Rattle.sy_terms.specs.Expr.{nodes_of}
use Rattle.sy_terms.specs.Denoted.{exprs_of, expr_of-Const, expr_of-Var, expr_of-App, expr_of-Call, expr_of-Let, nodes_of-last}
use Rattle.sy_terms.proofs.term.+size.Goals as goal
use Rattle.sy_terms.proofs.term.+size.Goals.{Term::size-in-Const, Term::size-in-Var, Term::size-in-App, Term::size-in-Call, Term::size-in-Let}

pub Term::size-returns : goal.Term::size-returns
Term::size-returns g t c = elim c.match-self.branch [
  | Term::size-in-Const w ↦ rw (w.in-Const.is, expr_of-Const) (grind arith)
  | Term::size-in-Var w ↦ rw (w.in-Var.is, expr_of-Var) (grind arith)
  | Term::size-in-App w ↦ rw (w.in-App.is, expr_of-App) (grind arith)
  | Term::size-in-Call w ↦ rw (w.in-Call.is, expr_of-Call) (grind arith)
  | Term::size-in-Let w ↦ rw (w.in-Let.is, expr_of-Let) (grind arith)
]

pub Terms::size-loop-term-preserved : goal.Terms::size-loop-term-preserved
Terms::size-loop-term-preserved g t c =
    let more = take_more c.deref-term-items.result.now c.loop-term.term-index c.term-item.result (grind arith) in
    rw (more, ← c.term-item.is, nodes_of-last) (grind arith)

pub Terms::size-loop-term-init : goal.Terms::size-loop-term-init
Terms::size-loop-term-init g t c = omega arith

pub Terms::size-returns : goal.Terms::size-returns
Terms::size-returns g t c =
    let all = take_all c.loop-term.term-index c.deref-term-items.result.now c.loop-term-test.false in
    rw (← c.deref-term-items.ensures.value) (c.loop-term.invariant ∙ ap (λ terms. min c.args.cap (nodes_of (exprs_of g.T.Theory.denotes terms))) all)

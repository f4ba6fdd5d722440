use Rattle.std.proofs.Common.{arith}
use Rattle.std.proofs.lemmas.List.{take_more}
use Rattle.sy_terms.specs.Denoted.{expr_of-Const, expr_of-Var, expr_of-App, expr_of-Call, expr_of-Let}
use Rattle.sy_scope_steps.specs.Sizes.{expr_size, expr_sizes}
use Rattle.sy_scope_steps.proofs.Measuring.{sizes-last}
use Rattle.sy_scope_steps.proofs.measures.+size.Goals as goal
use Rattle.sy_scope_steps.proofs.measures.+size.Goals.{unfolded_size-in-Const, unfolded_size-in-Var, unfolded_size-in-App, unfolded_size-in-Call, unfolded_size-in-Let}

pub unfolded_size-returns : goal.unfolded_size-returns
unfolding expr_size expr_sizes
unfolded_size-returns g t c = elim c.match-term.branch [
  | unfolded_size-in-Const w ↦ rw (w.in-Const.is, expr_of-Const) (grind arith)
  | unfolded_size-in-Var w ↦ rw (w.in-Var.is, expr_of-Var) (grind arith)
  | unfolded_size-in-App w ↦ rw (w.in-App.is, expr_of-App) (grind arith)
  | unfolded_size-in-Call w ↦ rw (w.in-Call.is, expr_of-Call) (grind arith)
  | unfolded_size-in-Let w ↦ rw (w.in-Let.is, expr_of-Let) (grind arith)
]

pub unfolded_sizes-loop-term-preserved : goal.unfolded_sizes-loop-term-preserved
unfolded_sizes-loop-term-preserved g t c =
    let next = take_more c.args.terms.now c.loop-term.term-index c.term-item.result c.loop-term-test.true in
    rw (next, ← c.term-item.is, sizes-last) (grind arith)

pub unfolded_sizes-loop-term-init : goal.unfolded_sizes-loop-term-init
unfolding expr_size expr_sizes
unfolded_sizes-loop-term-init g t c = grind arith

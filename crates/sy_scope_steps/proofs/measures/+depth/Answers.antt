use Rattle.std.proofs.Common.{arith}
use Rattle.std.proofs.lemmas.List.{take_more}
use Rattle.sy_terms.specs.Denoted.{expr_of-Const, expr_of-Var, expr_of-App, expr_of-Call, expr_of-Let}
use Rattle.sy_scope_steps.specs.Sizes.{expr_depth, expr_depths}
use Rattle.sy_scope_steps.proofs.Measuring.{depths-last}
use Rattle.sy_scope_steps.proofs.measures.+depth.Goals as goal
use Rattle.sy_scope_steps.proofs.measures.+depth.Goals.{unfolded_depth-in-Const, unfolded_depth-in-Var, unfolded_depth-in-App, unfolded_depth-in-Call, unfolded_depth-in-Let}

pub unfolded_depth-returns : goal.unfolded_depth-returns
unfolding expr_depth expr_depths
unfolded_depth-returns g t c = elim c.match-term.branch [
  | unfolded_depth-in-Const w ↦ rw (w.in-Const.is, expr_of-Const) (grind arith)
  | unfolded_depth-in-Var w ↦ rw (w.in-Var.is, expr_of-Var) (grind arith)
  | unfolded_depth-in-App w ↦ rw (w.in-App.is, expr_of-App) (grind arith)
  | unfolded_depth-in-Call w ↦ rw (w.in-Call.is, expr_of-Call) (grind arith)
  | unfolded_depth-in-Let w ↦ rw (w.in-Let.is, expr_of-Let) (grind arith)
]

pub unfolded_depths-loop-term-preserved : goal.unfolded_depths-loop-term-preserved
unfolded_depths-loop-term-preserved g t c =
    let next = take_more c.args.terms.now c.loop-term.term-index c.term-item.result c.loop-term-test.true in
    rw (next, ← c.term-item.is, depths-last) (grind arith)

pub unfolded_depths-loop-term-init : goal.unfolded_depths-loop-term-init
unfolding expr_depth expr_depths
unfolded_depths-loop-term-init g t c = grind arith

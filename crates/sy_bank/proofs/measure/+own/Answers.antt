use Rattle.std.proofs.Common.{arith}
use Rattle.std.proofs.lemmas.List.{take_more}
use Rattle.sy_grammar_base.specs.Written.{pattern_of-Const, pattern_of-Var, pattern_of-Non, pattern_of-App, pattern_of-Call, own_sizes-last}
use Rattle.sy_bank.proofs.measure.+own.Goals as goal

pub own-returns-in-Const : goal.own-returns-in-Const
own-returns-in-Const g t c = rw (c.in-Const.is, pattern_of-Const) (grind arith)

pub own-returns-in-Var : goal.own-returns-in-Var
own-returns-in-Var g t c = rw (c.in-Var.is, pattern_of-Var) (grind arith)

pub own-returns-in-Non : goal.own-returns-in-Non
own-returns-in-Non g t c = rw (c.in-Non.is, pattern_of-Non) (grind arith)

pub own-returns-in-App : goal.own-returns-in-App
own-returns-in-App g t c = rw (c.in-App.is, pattern_of-App) (grind arith)

pub own-returns-in-Call : goal.own-returns-in-Call
own-returns-in-Call g t c = rw (c.in-Call.is, pattern_of-Call) (grind arith)

pub all_own-loop-part-preserved : goal.all_own-loop-part-preserved
all_own-loop-part-preserved g t c =
    let more = take_more c.as_slice-part-items.result.now c.loop-part.part-index c.part-item.result (grind arith) in
    rw (more, ← c.part-item.is, own_sizes-last) (grind arith)

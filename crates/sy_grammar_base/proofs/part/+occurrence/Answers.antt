use Rattle.std.proofs.Common.{◌+◌, ◌∙◌, ap, arith, length, refl}
use Rattle.std.proofs.lemmas.List.{take_all, take_more}
use Rattle.std.proofs.lemmas.Option.{slice_get-get_or}
use Rattle.sy_grammar_base.specs.Patterns.{all_occurring}
use Rattle.sy_grammar_base.specs.Written.{patterns_of, pattern_of-Const, pattern_of-Var, pattern_of-Non, pattern_of-App, pattern_of-Call, all_occurring-at, all_occurring-last}
use Rattle.sy_grammar_base.proofs.part.+occurrence.Goals as goal

pub Part::occurrence-returns-in-Const : goal.Part::occurrence-returns-in-Const
Part::occurrence-returns-in-Const g t c = rw (c.in-Const.is, pattern_of-Const) (grind arith)

pub Part::occurrence-returns-in-Var : goal.Part::occurrence-returns-in-Var
Part::occurrence-returns-in-Var g t c = rw (c.in-Var.is, pattern_of-Var) (grind arith)

pub Part::occurrence-returns-then-i-eq0 : goal.Part::occurrence-returns-then-i-eq0
Part::occurrence-returns-then-i-eq0 g t c = rw (c.in-Non.is, pattern_of-Non) (grind arith)

pub Part::occurrence-returns-else-i-eq0 : goal.Part::occurrence-returns-else-i-eq0
Part::occurrence-returns-else-i-eq0 g t c = rw (c.in-Non.is, pattern_of-Non) (grind arith)

pub Part::occurrence-returns-in-App : goal.Part::occurrence-returns-in-App
Part::occurrence-returns-in-App g t c = rw (c.in-App.is, pattern_of-App) c.occurrence.ensures

pub Part::occurrence-returns-in-Call : goal.Part::occurrence-returns-in-Call
Part::occurrence-returns-in-Call g t c = rw (c.in-Call.is, pattern_of-Call) c.occurrence-in-Call.ensures

pub Parts::occurrence-returns-in-Ok : goal.Parts::occurrence-returns-in-Ok
Parts::occurrence-returns-in-Ok g t c =
    rw (c.loop-part.invariant, ← c.deref-part-items.ensures.value)
    (all_occurring-at g.T.Theory.denotes c.deref-part-items.result.now c.loop-part.part-index c.part-item.result c.loop-part.rest c.in-Ok.n (rw (slice_get-get_or c.deref-part-items.result.now c.loop-part.part-index c.part-item.result c.loop-part-test.true, ← c.part-item.is) refl) c.in-Ok.ensures)

pub Parts::occurrence-loop-part-preserved : goal.Parts::occurrence-loop-part-preserved
Parts::occurrence-loop-part-preserved g t c =
    let more = take_more c.deref-part-items.result.now c.loop-part.part-index c.part-item.result (grind arith) in
    rw (more, ← c.part-item.is, all_occurring-last) (omega (arith, c.in-Err.ensures, c.loop-part.invariant))

pub Parts::occurrence-returns : goal.Parts::occurrence-returns
Parts::occurrence-returns g t c =
    let all = take_all c.loop-part.part-index c.deref-part-items.result.now c.loop-part-test.false in
    rw (← c.deref-part-items.ensures.value) (c.loop-part.invariant ∙ ap (λ parts. length (all_occurring (patterns_of g.T.Theory.denotes parts)) + c.loop-part.rest) all)

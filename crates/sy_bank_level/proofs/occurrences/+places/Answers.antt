use Rattle.std.proofs.Common.{arith, ap, length, min, ◌∙◌}
use Rattle.std.proofs.lemmas.List.{take_all, take_more}
use Rattle.sy_grammar_base.specs.Patterns.{all_occurring}
use Rattle.sy_grammar_base.specs.Written.{patterns_of, pattern_of-Const, pattern_of-Var, pattern_of-Non, pattern_of-App, pattern_of-Call, all_occurring-last}
use Rattle.sy_bank_level.proofs.occurrences.+places.Goals as goal

pub places-returns-in-Const : goal.places-returns-in-Const
places-returns-in-Const g t c = rw (c.in-Const.is, pattern_of-Const) (grind arith)

pub places-returns-in-Var : goal.places-returns-in-Var
places-returns-in-Var g t c = rw (c.in-Var.is, pattern_of-Var) (grind arith)

pub places-returns-in-Non : goal.places-returns-in-Non
places-returns-in-Non g t c = rw (c.in-Non.is, pattern_of-Non) (grind arith)

pub places-returns-in-App : goal.places-returns-in-App
places-returns-in-App g t c = rw (c.in-App.is, pattern_of-App) (grind arith)

pub places-returns-in-Call : goal.places-returns-in-Call
places-returns-in-Call g t c = rw (c.in-Call.is, pattern_of-Call) (grind arith)

pub places_of-loop-part-preserved : goal.places_of-loop-part-preserved
places_of-loop-part-preserved g t c =
    let more = take_more c.as_slice-part-items.result.now c.loop-part.part-index c.part-item.result (grind arith) in
    rw (more, ← c.part-item.is, all_occurring-last) (grind arith)

pub places_of-loop-part-init : goal.places_of-loop-part-init
places_of-loop-part-init g t c = omega arith

pub places_of-returns : goal.places_of-returns
places_of-returns g t c =
    let all = take_all c.loop-part.part-index c.as_slice-part-items.result.now c.loop-part-test.false in
    rw (← c.as_slice-part-items.ensures) (c.loop-part.invariant ∙ ap (λ parts. min c.args.cap (length (all_occurring (patterns_of g.T.Theory.denotes parts)))) all)

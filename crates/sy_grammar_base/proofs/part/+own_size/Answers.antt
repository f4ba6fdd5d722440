use Rattle.std.proofs.Common.{arith, ap, min, ◌∙◌}
use Rattle.std.proofs.lemmas.List.{take_all, take_more}
use Rattle.sy_grammar_base.specs.Patterns.{own_sizes}
use Rattle.sy_grammar_base.specs.Written.{patterns_of, pattern_of-Const, pattern_of-Var, pattern_of-Non, pattern_of-App, pattern_of-Call, own_sizes-last}
use Rattle.sy_grammar_base.proofs.part.+own_size.Goals as goal
use Rattle.sy_grammar_base.proofs.part.+own_size.Goals.{Part::own_size-in-Const, Part::own_size-in-Var, Part::own_size-in-App, Part::own_size-in-Call}

pub Part::own_size-returns-in-Non : goal.Part::own_size-returns-in-Non
Part::own_size-returns-in-Non g t c = rw (c.in-Non.is, pattern_of-Non) (grind arith)

pub Part::own_size-returns : goal.Part::own_size-returns
Part::own_size-returns g t c = elim c.match-self.branch [
  | Part::own_size-in-Const w ↦ rw (w.in-Const.is, pattern_of-Const) (grind arith)
  | Part::own_size-in-Var w ↦ rw (w.in-Var.is, pattern_of-Var) (grind arith)
  | Part::own_size-in-App w ↦ rw (w.in-App.is, pattern_of-App) (grind arith)
  | Part::own_size-in-Call w ↦ rw (w.in-Call.is, pattern_of-Call) (grind arith)
]

pub Parts::own_size-loop-part-preserved : goal.Parts::own_size-loop-part-preserved
Parts::own_size-loop-part-preserved g t c =
    let more = take_more c.deref-part-items.result.now c.loop-part.part-index c.part-item.result (grind arith) in
    rw (more, ← c.part-item.is, own_sizes-last) (grind arith)

pub Parts::own_size-loop-part-init : goal.Parts::own_size-loop-part-init
Parts::own_size-loop-part-init g t c = omega arith

pub Parts::own_size-returns : goal.Parts::own_size-returns
Parts::own_size-returns g t c =
    let all = take_all c.loop-part.part-index c.deref-part-items.result.now c.loop-part-test.false in
    rw (← c.deref-part-items.ensures.value) (c.loop-part.invariant ∙ ap (λ parts. min c.args.cap (own_sizes (patterns_of g.T.Theory.denotes parts))) all)

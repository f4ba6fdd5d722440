use Rattle.std.proofs.Common.{◌+◌, refl, ap, Some, take}
use Rattle.std.proofs.lemmas.List.{take_more}
use Rattle.std.proofs.lemmas.Option.{slice_get_read}
use Rattle.sy_grammar_base.specs.Patterns.{own_sizes, all_occurring}
use Rattle.sy_grammar_base.specs.Written.{patterns_of, pattern_of-Const, pattern_of-Var, pattern_of-Non, pattern_of-App, pattern_of-Call}
use Rattle.sy_grammar_sizes.specs.Tables.{entries_total}
use Rattle.sy_grammar_sizes.proofs.PartSizes.{size_alone, size_place, size_none, cut_none, cut_more, parts_more, missing_at}
use Rattle.sy_grammar_sizes.proofs.table.+part_size.Goals as goal
use Rattle.sy_grammar_sizes.proofs.table.+part_size.Goals.{part_size-in-Const, part_size-in-Var, part_size-in-App+in_ok-below-in-App, part_size-in-Call+in_ok-below-in-Call}

pub part_size-returns-in-Some : goal.part_size-returns-in-Some
part_size-returns-in-Some g t c = rw (c.in-Non.is, pattern_of-Non, size_place c.args.limit c.args.table.now c.in-Non.nonterminal, ← c.entry.ensures, c.in-Some.is) (ap Some c.min.ensures)

pub part_size-returns-in-None : goal.part_size-returns-in-None
part_size-returns-in-None g t c = rw (c.in-Non.is, pattern_of-Non, size_place c.args.limit c.args.table.now c.in-Non.nonterminal, ← c.entry.ensures, c.in-None.is) refl

pub part_size-returns-in_err-below-in-App : goal.part_size-returns-in_err-below-in-App
part_size-returns-in_err-below-in-App g t c =
    let own = own_sizes (patterns_of g.T.Theory.denotes c.in-App.parts.items.items) in
    let below = entries_total c.args.table.now (all_occurring (patterns_of g.T.Theory.denotes c.in-App.parts.items.items)) in
    rw (c.from_residual.ensures, c.in-App.is, pattern_of-App) (cut_none c.args.limit own (own + 1) below c.in_err-below-in-App.ensures)

pub part_size-returns-in_err-below-in-Call : goal.part_size-returns-in_err-below-in-Call
part_size-returns-in_err-below-in-Call g t c =
    let own = own_sizes (patterns_of g.T.Theory.denotes c.in-Call.parts.items.items) in
    let below = entries_total c.args.table.now (all_occurring (patterns_of g.T.Theory.denotes c.in-Call.parts.items.items)) in
    rw (c.from_residual-in_err-below-in-Call.ensures, c.in-Call.is, pattern_of-Call) (cut_none c.args.limit own (own + 1) below c.in_err-below-in-Call.ensures)

pub part_size-returns : goal.part_size-returns
part_size-returns g t c = elim c.match-part.branch [
  | part_size-in-Const w ↦ rw (w.in-Const.is, pattern_of-Const) (size_alone c.args.limit c.args.table.now c.min-2.result c.match-part.below c.saturating_add.result c.ranges.limit.fits w.below-is c.saturating_add.ensures c.min-2.ensures)
  | part_size-in-Var w ↦ rw (w.in-Var.is, pattern_of-Var) (size_alone c.args.limit c.args.table.now c.min-2.result c.match-part.below c.saturating_add.result c.ranges.limit.fits w.below-is c.saturating_add.ensures c.min-2.ensures)
  | part_size-in-App+in_ok-below-in-App w ↦
      let own = own_sizes (patterns_of g.T.Theory.denotes w.in-App.parts.items.items) in
      let below = entries_total c.args.table.now (all_occurring (patterns_of g.T.Theory.denotes w.in-App.parts.items.items)) in
      rw (w.in-App.is, pattern_of-App) (cut_more c.args.limit own below c.match-part.below c.saturating_add.result c.min-2.result c.ranges.limit.fits (rw (w.below-is) w.in_ok-below-in-App.ensures) c.saturating_add.ensures c.min-2.ensures)
  | part_size-in-Call+in_ok-below-in-Call w ↦
      let own = own_sizes (patterns_of g.T.Theory.denotes w.in-Call.parts.items.items) in
      let below = entries_total c.args.table.now (all_occurring (patterns_of g.T.Theory.denotes w.in-Call.parts.items.items)) in
      rw (w.in-Call.is, pattern_of-Call) (cut_more c.args.limit own below c.match-part.below c.saturating_add.result c.min-2.result c.ranges.limit.fits (rw (w.below-is) w.in_ok-below-in-Call.ensures) c.saturating_add.ensures c.min-2.ensures)
]

pub parts_size-loop-part-init : goal.parts_size-loop-part-init
parts_size-loop-part-init g t c = size_none c.args.limit c.args.table.now

pub parts_size-returns-in_err-size : goal.parts_size-returns-in_err-size
parts_size-returns-in_err-size g t c =
    let number = g.T.Theory.denotes in
    let items = c.as_slice-part-items.result.now in
    let at = slice_get_read items _ c.loop-part.part-index c.part-item.result refl c.loop-part-test.true c.part-item.is in
    rw (c.from_residual.ensures, ← c.as_slice-part-items.ensures) (missing_at number c.args.limit c.args.table.now items c.loop-part.part-index c.part-item.result at c.in_err-size.ensures)

pub parts_size-loop-part-preserved : goal.parts_size-loop-part-preserved
parts_size-loop-part-preserved g t c =
    let number = g.T.Theory.denotes in
    let items = c.as_slice-part-items.result.now in
    let more = take_more items c.loop-part.part-index c.part-item.result c.loop-part-test.true in
    rw (more, ← c.part-item.is)
    (parts_more number c.args.limit c.args.table.now (take c.loop-part.part-index items) c.part-item.result c.loop-part.sum c.in_ok-size.size c.saturating_add.result c.min-sum.result c.ranges.limit.fits c.loop-part.invariant c.in_ok-size.ensures c.saturating_add.ensures c.min-sum.ensures)

use Rattle.std.proofs.Common.{◌∙◌, ◌-◌, sym, arith}
use Rattle.sy_clauses.specs.Marking.{clause_of}
use Rattle.sy_cdcl_literals.proofs.Falsified.{some_at, none_first, none_more, none_within}
use Rattle.sy_cdcl_literals.proofs.entries.some_falsifies.Goals as goal

pub loop-place-init : goal.loop-place-init
loop-place-init c = record { within = omega arith; none = none_first c.args.entries.now c.args.end (clause_of c.args.marks.now) }

pub returns-then-falsifies : goal.returns-then-falsifies
returns-then-falsifies c =
    let above = c.loop-place-test.true in
    let within = c.loop-place.invariant.within in
    some_at c.args.entries.now c.args.start c.args.end (c.loop-place.place - 1) c.entry_at-entry.result (clause_of c.args.marks.now)
    (omega arith) (omega arith) c.entry_at-entry.ensures (sym c.falsifies.ensures ∙ c.if-falsifies.true)

pub loop-place-preserved : goal.loop-place-preserved
loop-place-preserved c =
    let above = c.loop-place-test.true in
    let within = c.loop-place.invariant.within in
    record {
      within = omega arith;
      none = none_more c.args.entries.now (c.loop-place.place - 1) c.loop-place.place c.args.end c.entry_at-entry.result (clause_of c.args.marks.now)
          (omega arith) c.entry_at-entry.ensures (sym c.falsifies.ensures ∙ c.if-falsifies.false) c.loop-place.invariant.none;
    }

pub returns : goal.returns
returns c =
    let over = c.loop-place-test.false in
    none_within c.args.entries.now c.loop-place.place c.args.start c.args.end (clause_of c.args.marks.now) (omega arith) c.loop-place.invariant.none

use Rattle.std.proofs.Common.{◌≡◌, ◌∷◌, [], arith, ap, refl, ◌∙◌, length, length-append}
use Rattle.sy_clauses.specs.Needed.{needs}
use Rattle.sy_clauses.specs.Numbers.{count_left}
use Rattle.sy_clauses.proofs.Counts.{count_small, count_yes, count_no, counts_all, counts_more}
use Rattle.sy_clauses.proofs.numbering.Numbering.new.Goals as goal
use Rattle.sy_clauses.proofs.numbering.Numbering.new.Goals.{then-is_needed, else-is_needed}

pub overflow_add-all : goal.overflow_add-all
overflow_add-all c =
    let small = count_small (needs c.args.needed.now) c.loop-is_needed.is_needed-index in
    omega (arith, small, c.loop-is_needed.invariant.all)

pub returns : goal.returns
returns c =
    let left = needs c.args.needed.now in
    let end : c.loop-is_needed.is_needed-index ≡ length c.args.needed.now = omega arith in
    counts_all c.args.formula c.args.needed.now
    (record { formula = c.args.formula; before = c.loop-is_needed.before; all = c.loop-is_needed.all })
    refl (c.loop-is_needed.invariant.long ∙ end) (c.loop-is_needed.invariant.all ∙ ap (count_left left) end)
    (λ place d h. c.loop-is_needed.invariant.before place d (omega (arith, h, end)))

pub loop-is_needed-preserved : goal.loop-is_needed-preserved
loop-is_needed-preserved c =
    let left = needs c.args.needed.now in
    let at = c.loop-is_needed.is_needed-index in
    let pushed = ap length c.in_ok-push.ensures.items in
    let both = length-append c.loop-is_needed.before.items (c.loop-is_needed.all ∷ []) in
    record {
      long = omega (arith, pushed, both, c.loop-is_needed.invariant.long);
      all = elim c.if-is_needed.branch [
        | then-is_needed w ↦ let e = count_yes left at w.if-is_needed.true in
            omega (arith, w.all-is, e, c.loop-is_needed.invariant.all)
        | else-is_needed w ↦ let e = count_no left at w.if-is_needed.false in
            omega (arith, w.all-is, e, c.loop-is_needed.invariant.all)
      ];
      before = counts_more left c.loop-is_needed.before.items c.push.new.self.items at c.loop-is_needed.all
          c.loop-is_needed.invariant.long c.loop-is_needed.invariant.all c.in_ok-push.ensures.items
          c.loop-is_needed.invariant.before;
    }

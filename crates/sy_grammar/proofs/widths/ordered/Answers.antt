use Rattle.std.proofs.Common.{◌≡◌, ◌∙◌, ◌-◌, ◌++◌, ap, sym, length, ℕ, arith}
use Rattle.std.specs.List.{filter, range_with_len}
use Rattle.std.proofs.lemmas.List.{length_push}
use Rattle.sy_grammar.specs.Defaults.{width_of, is_other}
use Rattle.sy_grammar.proofs.Growing.{width_kept, width_left}
use Rattle.sy_grammar.proofs.widths.ordered.Goals as goal
use Rattle.sy_grammar.proofs.widths.ordered.Goals.{then-is_other+in_ok-push, else-is_other}

pub loop-width-preserved : goal.loop-width-preserved
loop-width-preserved c =
    let p = is_other c.args.sort c.args.args.now in
    elim c.if-is_other.branch [
      | then-is_other+in_ok-push w ↦
          let grown = w.widths-is ∙ w.in_ok-push.ensures.ok in (
            width_kept p (width_of c.args.sort) c.loop-width.widths c.if-is_other.widths c.loop-width.width c.loop-width.auto.width (sym c.is_other.ensures ∙ w.if-is_other.true) grown c.loop-width.invariant.0,
            omega (arith, ap length grown, length_push c.loop-width.widths c.loop-width.width, c.loop-width.invariant.1),
          )
      | else-is_other w ↦ (
        w.widths-is ∙ width_left p (width_of c.args.sort) c.loop-width.widths c.loop-width.width c.loop-width.auto.width (sym c.is_other.ensures ∙ w.if-is_other.false) c.loop-width.invariant.0,
        omega (arith, ap length w.widths-is, c.loop-width.invariant.1),
      )
    ]

pub returns-clause-is : goal.returns-clause-is
returns-clause-is c =
    let last : c.loop-width.width ≡ 65 = omega (arith, c.loop-width-test.false, c.loop-width.auto.width-end (omega arith)) in
    c.loop-width.invariant.0 ∙ ap (λ (k : ℕ). width_of c.args.sort ++ filter (is_other c.args.sort c.args.args.now) (range_with_len 1 (k - 1))) last

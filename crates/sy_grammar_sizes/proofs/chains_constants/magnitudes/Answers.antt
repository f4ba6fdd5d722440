use Rattle.std.proofs.Common.{sym, ap, ◌∙◌, take, nat_eq, rules}
use Rattle.std.specs.Prelude.{unsigned_abs}
use Rattle.std.specs.HashSet.{contains}
use Rattle.std.proofs.lemmas.Int.{to_z-of_z}
use mir.Syntax.{w128}
use mir.Val.{SFits}
use Rattle.std.proofs.lemmas.List.{take_more, take_all}
use Rattle.std.proofs.lemmas.Result.{IfOk-from_err}
use Rattle.sy_terms.specs.Denoted.{val_of}
use Rattle.sy_grammar_sizes.proofs.Held.{held_more, held_kept, magnitude_abs}
use Rattle.sy_grammar_sizes.proofs.chains_constants.magnitudes.Goals as goal
use Rattle.sy_grammar_sizes.proofs.chains_constants.magnitudes.Goals.{then-is_signed+in_ok-insert, else-is_signed}

pub loop-value-preserved : goal.loop-value-preserved
loop-value-preserved g c q =
    let number = g.T.Theory.denotes in
    let earlier = take c.loop-value.value-index c.args.pool.now in
    let item = c.value-item.result in
    let more = take_more c.args.pool.now c.loop-value.value-index item c.loop-value-test.true in
    elim c.if-is_signed.branch [
      | then-is_signed+in_ok-insert w ↦
          let fits : SFits w128 w.number_of.result = search rules in
          let whole = to_z-of_z w128 w.number_of.result fits ∙ w.number_of.ensures in
          let size = w.unsigned_abs.ensures.value ∙ ap unsigned_abs whole ∙ magnitude_abs (val_of number item) in
          rw (w.found-is, more, ← c.value-item.is)
          (held_more (val_of number) earlier item c.args.sort c.args.negative w.unsigned_abs.result q (contains nat_eq c.loop-value.found q) (contains nat_eq w.insert.new.self q) (sym c.is_signed.ensures ∙ w.if-is_signed.true) size (c.loop-value.invariant q) (w.in_ok-insert.ensures.updates.0 q))
      | else-is_signed w ↦
          rw (w.found-is, more, ← c.value-item.is)
          (held_kept (val_of number) earlier item c.args.sort c.args.negative q (contains nat_eq c.loop-value.found q) (sym c.is_signed.ensures ∙ w.if-is_signed.false) (c.loop-value.invariant q))
    ]

pub returns : goal.returns
returns g c =
    let whole = take_all c.loop-value.value-index c.args.pool.now c.loop-value-test.false in
    rw (whole) at c.loop-value.invariant

pub returns-in_err-insert : goal.returns-in_err-insert
returns-in_err-insert g c = IfOk-from_err c.from_residual.result _ c.from_residual.ensures.0

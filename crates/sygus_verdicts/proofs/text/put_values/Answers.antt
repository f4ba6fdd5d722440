use Rattle.std.proofs.Common.{◌++◌, ◌∙◌, sym, ap, append-nil}
use Rattle.std.proofs.lemmas.List.{drop_all}
use Rattle.sy_terms.specs.Denoted.{vals_of}
use Rattle.sygus_verdicts.specs.Lines.{values_text}
use Rattle.sygus_verdicts.proofs.Written.{left_at, valid_at, spaced_step}
use Rattle.sygus_verdicts.proofs.text.put_values.Goals as goal

pub put_value-requires : goal.put_value-requires
put_value-requires g c =
    valid_at g.T.Theory.denotes c.args.values.now c.loop-value.value-index c.value-item.result c.loop-value-test.true c.value-item.is c.requires

pub loop-value-preserved : goal.loop-value-preserved
loop-value-preserved g c =
    let left = left_at c.args.values.now c.loop-value.value-index c.value-item.result c.loop-value-test.true c.value-item.is in
    spaced_step c.loop-value.out c.put.new.out c.put_value.new.out _ _ _ c.in_ok-put.ensures c.in_ok-put_value.ensures
    (ap (λ values. c.loop-value.out ++ values_text (vals_of g.T.Theory.denotes values)) (sym left) ∙ c.loop-value.invariant)

pub returns : goal.returns
returns g c =
    let none = ap (λ values. c.loop-value.out ++ values_text (vals_of g.T.Theory.denotes values)) (drop_all c.loop-value.value-index c.args.values.now c.loop-value-test.false) in
    sym (append-nil c.loop-value.out) ∙ sym none ∙ c.loop-value.invariant

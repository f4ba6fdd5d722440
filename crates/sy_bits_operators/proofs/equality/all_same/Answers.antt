use Rattle.std.proofs.Common.{◌∙◌, sym, ◌≡◌, ◌∷◌}
use Rattle.sy_meaning_core.proofs.Lists.{neighbours-same}
use Rattle.sy_bits_operators.specs.Signals.{signal_value, signal_values}
use Rattle.sy_bits_operators.proofs.equality.all_same.Goals as goal

pub returns-in_ok-all-in-Some-clause-value : goal.returns-in_ok-all-in-Some-clause-value
returns-in_ok-all-in-Some-clause-value c = λ v f.
    let e : c.args.signals.now ≡ c.in-Some.first.now ∷ c.in-Some.rest.now = c.in-Some.ensures.cases.0 in
    rw e (c.in_ok-all-in-Some.ensures.value v f ∙ sym (neighbours-same (signal_value v c.in-Some.first.now) (signal_values v c.in-Some.rest.now)))

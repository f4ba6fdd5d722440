use Rattle.std.proofs.Common.{◌≡◌, ◌++◌, drop}
use Rattle.sy_terms.specs.Denoted.{vals_of}
use Rattle.sygus_verdicts.specs.Lines.{values_text}
use Rattle.sygus_verdicts.proofs.text.put_values.Given as goal

abbrev pub invariant-loop-value : goal.invariant-loop-value
invariant-loop-value g l = l.out ++ values_text (vals_of g.T.Theory.denotes (drop l.value-index l.values)) ≡ l.initial.out ++ values_text (vals_of g.T.Theory.denotes l.values)

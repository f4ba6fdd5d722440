use Rattle.std.proofs.Common.{◌≡◌, drop}
use Rattle.sy_forms_items.specs.Meant.{phrases_of}
use Rattle.sy_forms_linear.specs.Linear as spec
use Rattle.sy_forms_linear.proofs.divisors.are_divisors.Given as goal

abbrev pub invariant-loop-phrase : goal.invariant-loop-phrase
invariant-loop-phrase g l =
    spec.are_divisors l.divisors (phrases_of g.T.Theory.denotes (drop l.phrase-index l.phrases)) ≡ spec.are_divisors l.divisors (phrases_of g.T.Theory.denotes l.phrases)

use Rattle.std.proofs.Common.{◌≡◌, drop, false}
use Rattle.sy_terms.specs.Values.{truth}
use Rattle.sy_terms.specs.Denoted.{val_of}
use Rattle.sy_meaning_core.proofs.Lists.{odd_from}
use Rattle.sy_meaning_core.proofs.truths.exclusive.Given as goal

abbrev pub invariant-loop-v : goal.invariant-loop-v
invariant-loop-v g l =
    odd_from (λ v. truth (val_of g.N.Number.denotes v)) false l.values ≡ odd_from (λ v. truth (val_of g.N.Number.denotes v)) l.odd (drop l.v-index l.values)

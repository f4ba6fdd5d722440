use Rattle.std.proofs.Common.{◌∙◌, refl}
use Rattle.sy_meaning.proofs.Sorts.{pointwise_same}
use Rattle.sy_meaning.proofs.fitting.are_same.Goals as goal

pub returns : goal.returns
returns c = c.eq.ensures ∙ pointwise_same _ refl refl (λ v w. refl) refl refl (λ w. refl) (λ w. refl) (λ w. refl) (λ w. refl) c.args.first.now c.args.second.now

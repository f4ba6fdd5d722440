use Rattle.std.proofs.Common.{◌∙◌, refl, sym}
use Rattle.sy_meaning.proofs.Sorts.{pointwise_same}
use Rattle.sy_terms_operators.proofs.Equations.{same_sorts_is}
use Rattle.sy_loop_chosen.proofs.values.are_same.Goals as goal

pub returns : goal.returns
returns c = λ yes.
    let same = c.eq.ensures ∙ pointwise_same _ refl refl (λ v w. refl) refl refl (λ w. refl) (λ w. refl) (λ w. refl) (λ w. refl) c.args.first.now c.args.second.now in
    same_sorts_is c.args.first.now c.args.second.now (sym same ∙ yes)

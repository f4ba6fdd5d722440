-- Kept trees as trees of the definitions.
use Rattle.std.specs.Prelude.{◌≡◌, List, ◌++◌, ◌∷◌, [], length}
use Rattle.std.proofs.Common.{refl, sym, ◌∙◌, ap, arith}
use Rattle.std.proofs.lemmas.List.{map-append}
use Rattle.sy_intsolve_cuts.specs.declared.step.Step.{Step}
use Rattle.sy_intsolve_cuts.specs.Growing.{GrownTree}
use Rattle.sy_intsolve_cuts.specs.Steps.{wrapped, plugged}
use Rattle.sy_intsolve_cuts.specs.Stored.{layer_of, layers_of}
use Rattle.sy_intsolve_cuts.proofs.Layers.{plugged-last}

-- the last step is wrapped round what stands below it
pub plugged-popped : (all rest : List Step) (last : Step) (below whole : GrownTree) → all ≡ rest ++ last ∷ [] → whole ≡ wrapped (layer_of last) below → plugged (layers_of rest) whole ≡ plugged (layers_of all) below
plugged-popped all rest last below whole e h =
    ap (plugged (layers_of rest)) h
    ∙ sym (plugged-last (layers_of rest) (layer_of last) below)
    ∙ ap (λ ls. plugged ls below) (sym (map-append layer_of rest (last ∷ [])))
    ∙ ap (λ ss. plugged (layers_of ss) below) (sym e)

pub plugged-none : (steps : List Step) (end : GrownTree) → steps ≡ [] → plugged (layers_of steps) end ≡ end
unfolding plugged
plugged-none steps end e = ap (λ ss. plugged (layers_of ss) end) e

pub no_steps : (steps : List Step) → length steps ≡ 0 → steps ≡ []
no_steps [] e = refl
no_steps (step ∷ steps) e = absurd (omega (arith, e))

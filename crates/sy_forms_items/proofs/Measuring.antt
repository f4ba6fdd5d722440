-- Measures of lists of phrases.
use Rattle.std.proofs.Common.{◌≡◌, ◌+◌, ℕ, List, [], ◌∷◌, ◌++◌, arith}
use Rattle.std.specs.Prelude.{max}
use Rattle.sy_terms.specs.Values.{Val}
use Rattle.sy_forms_items.specs.Meant.{phrase_of, phrases_of}
use Rattle.sy_forms_items.specs.Measures.{unfolded_size, unfolded_sizes, unfolded_depth, unfolded_depths}
use Rattle.sy_forms_items.specs.declared.phrase.Phrase.{Phrase}

pub sizes-last : {T N : Type 0} (number : N → Val) (sizes : List ℕ) (phrases : List (Phrase T N)) (last : Phrase T N) →
    unfolded_sizes sizes (phrases_of number (phrases ++ last ∷ [])) ≡ unfolded_sizes sizes (phrases_of number phrases) + unfolded_size sizes (phrase_of number last)
unfolding unfolded_size unfolded_sizes
sizes-last number sizes [] last = omega arith
sizes-last number sizes (phrase ∷ phrases) last = omega (arith, sizes-last number sizes phrases last)

pub depths-last : {T N : Type 0} (number : N → Val) (depths : List ℕ) (phrases : List (Phrase T N)) (last : Phrase T N) →
    unfolded_depths depths (phrases_of number (phrases ++ last ∷ [])) ≡ max (unfolded_depths depths (phrases_of number phrases)) (unfolded_depth depths (phrase_of number last))
unfolding unfolded_depth unfolded_depths
depths-last number depths [] last = grind arith
depths-last number depths (phrase ∷ phrases) last = rw (depths-last number depths phrases last) (grind arith)

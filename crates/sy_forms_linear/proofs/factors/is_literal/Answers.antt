use Rattle.std.proofs.Common.{◌≡◌, ◌≤◌, ◌<◌, ◌∙◌, ap, sym, refl, false, length, slice_index_or, arith, List, [], ◌∷◌}
use Rattle.sy_terms.specs.Values.{Val}
use Rattle.sy_forms_items.specs.Meant.{phrase_of, phrases_of}
use Rattle.sy_forms_linear.specs.Linear.{is_one_literal, is_written_phrase}
use Rattle.sy_forms_items.specs.declared.phrase.Phrase.{Phrase}
use Rattle.sy_forms_linear.proofs.factors.is_literal.Goals as goal

several : {T N : Type 0} (number : N → Val) (phrases : List (Phrase T N)) → 2 ≤ length phrases → is_one_literal (phrases_of number phrases) ≡ false
several number [] le = absurd (omega arith)
several number (x ∷ []) le = absurd (omega arith)
several number (x ∷ y ∷ phrases) le = refl

one : {T N : Type 0} (number : N → Val) (phrases : List (Phrase T N)) (x : Phrase T N) → 1 ≤ length phrases → length phrases < 2 → x ≡ slice_index_or phrases 0 x → is_written_phrase (phrase_of number x) ≡ is_one_literal (phrases_of number phrases)
one number [] x le lt is = absurd (omega arith)
one number (y ∷ []) x le lt is = ap (λ p. is_written_phrase (phrase_of number p)) is
one number (y ∷ z ∷ phrases) x le lt is = absurd (omega arith)

pub returns-in-len1 : goal.returns-in-len1
returns-in-len1 g c = c.is_written.ensures ∙ one g.T.Theory.denotes c.args.arguments.now c.argument-item.result c.in-len1.len_at_least c.in-len1.len_below c.argument-item.is

pub returns-in-len2-up : goal.returns-in-len2-up
returns-in-len2-up g c = sym (several g.T.Theory.denotes c.args.arguments.now c.in-len2-up.len_at_least)

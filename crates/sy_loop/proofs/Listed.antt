-- Kept terms in a row.
use Rattle.std.proofs.Common.{◌≡◌, ◌<◌, ◌+◌, ◌++◌, ap, sym, ◌∙◌, ℕ, List, [], ◌∷◌, length, take, get_or, append_assoc}
use Rattle.std.proofs.lemmas.List.{take_more, map_push}
use denote.Ref.{Bor}
use Rattle.sy_terms.specs.Values.{Val}
use Rattle.sy_bank_level.specs.Banks.{Entry}
use Rattle.sy_bank_level.specs.Stored.{chosen_of, entries_of, entry_of}
use Rattle.sy_bank_level.specs.declared.kept.Kept.{Kept}

module _ {T N : Type 0} (number : N → Val) where
  -- one more
  pub pushed : (all before : List (Bor (Kept T N))) (kept : List (Kept T N)) (index : ℕ) (item : Bor (Kept T N)) → chosen_of number all ≡ chosen_of number before ++ entries_of number (take index kept) →
      index < length kept → item.now ≡ get_or kept index item.now → chosen_of number (all ++ item ∷ []) ≡ chosen_of number before ++ entries_of number (take (index + 1) kept)
  pushed all before kept index item same within at =
      map_push (λ (k : Bor (Kept T N)). entry_of number k.now) all item ∙ ap (λ (es : List Entry). es ++ entry_of number item.now ∷ []) same
      ∙ append_assoc (chosen_of number before) (entries_of number (take index kept)) (entry_of number item.now ∷ [])
      ∙ ap (λ (es : List Entry). chosen_of number before ++ es) (sym (map_push (entry_of number) (take index kept) item.now)
      ∙ ap (entries_of number) (sym (take_more kept index item.now within ∙ ap (λ (k : Kept T N). take index kept ++ k ∷ []) (sym at))))

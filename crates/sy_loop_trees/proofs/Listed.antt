-- Kept terms in a row.
use Rattle.std.proofs.Common.{◌≡◌, ◌<◌, ◌≤◌, ◌+◌, ◌++◌, refl, ap, ap₂, sym, ◌∙◌, ℕ, Bool, List, [], ◌∷◌, length, map, take, get_or, false, zero, suc, arith}
use Rattle.std.proofs.lemmas.List.{take_more, map_push}
use denote.Ref.{Bor}
use Rattle.sy_terms.specs.Values.{Val, Truth, truth}
use Rattle.sy_terms.specs.Expr.{Constant}
use Rattle.sy_terms.specs.Denoted.{val_of, vals_of}
use Rattle.sy_terms.specs.declared.sort.Value.{Value}
use Rattle.sy_bank_level.specs.Banks.{Entry}
use Rattle.sy_bank_level.specs.Stored.{chosen_of, entry_of}
use Rattle.sy_bank_level.specs.declared.kept.Kept.{Kept}
use Rattle.sy_loop_spec.specs.Trees.{entry_at, truths}

-- what values say, one more
pub row_more : {N : Type 0} (number : N → Val) (said longer : List Bool) (values : List (Value N)) (index : ℕ) (value : Value N) (b : Bool) → said ≡ map truth (vals_of number (take index values)) → index < length values →
    value ≡ get_or values index value → b ≡ truth (val_of number value) → longer ≡ said ++ b ∷ [] → longer ≡ map truth (vals_of number (take (index + 1) values))
row_more {N = N} number said longer values index value b same within at is grown =
    grown ∙ ap₂ (λ (bs : List Bool) (c : Bool). bs ++ c ∷ []) same is ∙ sym (map_push truth (vals_of number (take index values)) (val_of number value))
    ∙ ap (map truth) (sym (map_push (val_of number) (take index values) value)
    ∙ ap (vals_of number) (sym (take_more values index value within ∙ ap (λ (v : Value N). take index values ++ v ∷ []) (sym at))))

module _ {T N : Type 0} (number : N → Val) where
  -- past the last
  pub past : (kept : List (Bor (Kept T N))) (place : ℕ) → length kept ≤ place → (entry_at (chosen_of number kept) place).term ≡ Constant (Truth false)
  past [] place beyond = refl
  past (first ∷ kept) zero beyond = absurd (omega (arith, beyond))
  past (first ∷ kept) (suc place) beyond = past kept place (omega (arith, beyond))

  -- where kept terms are true, one more
  pub rows_more : (rows longer : List (List Bool)) (kept : List (Bor (Kept T N))) (index : ℕ) (item : Bor (Kept T N)) (row : List Bool) → rows ≡ truths (chosen_of number (take index kept)) → index < length kept →
      item ≡ get_or kept index item → row ≡ map truth (vals_of number item.now.row) → longer ≡ rows ++ row ∷ [] → longer ≡ truths (chosen_of number (take (index + 1) kept))
  rows_more rows longer kept index item row same within at is grown =
      grown ∙ ap₂ (λ (rs : List (List Bool)) (r : List Bool). rs ++ r ∷ []) same is
      ∙ sym (map_push (λ (entry : Entry). map truth entry.row) (chosen_of number (take index kept)) (entry_of number item.now))
      ∙ ap truths (sym (map_push (λ (k : Bor (Kept T N)). entry_of number k.now) (take index kept) item)
      ∙ ap (chosen_of number) (sym (take_more kept index item within ∙ ap (λ (k : Bor (Kept T N)). take index kept ++ k ∷ []) (sym at))))

-- Bodies that are all refuted.
use Rattle.std.proofs.Common.{◌≡◌, ◌<◌, ◌≤◌, ◌+◌, ◌-◌, ◌++◌, refl, ap, sym, subst, ◌∙◌, inl, inr, ℕ, zero, suc, List, [], ◌∷◌, length, map, take, drop, get_or, arith, slice_get, Some, append_assoc, append-nil}
use Rattle.std.specs.Prelude.{◌⊎◌}
use Rattle.std.specs.List.{All}
use Rattle.std.proofs.lemmas.Option.{none-some, get_or_from_slice_get}
use Rattle.std.proofs.lemmas.List.{drop_all, drop_more, take_all, length-map}
use Rattle.std.proofs.lemmas.List.Elements.{All-head, All-tail, All-more, All-same}
use denote.Ref.{Bor}
use Rattle.sy_terms.specs.Values.{Val}
use Rattle.sy_terms.specs.Expr.{Expr}
use Rattle.sy_grammar_base.specs.Questions.{Question}
use Rattle.sy_points.specs.Asked.{Asked}
use Rattle.sy_bank_level.specs.Banks.{Entry, Merged, kept_at}
use Rattle.sy_bank_level.specs.Covering.{terms}
use Rattle.sy_bank_level.specs.Stored.{entry_of, entries_of, chosen_of}
use Rattle.sy_bank_level.specs.declared.kept.Kept.{Kept}
use Rattle.sy_bank_level.specs.Bank.{merged_of}
use Rattle.sy_bank_level.specs.declared.bank.Bank.{Bank}
use Rattle.sy_loop_spec.specs.Histories.{Counterexample}
use Rattle.sy_loop_spec.specs.Trials.{IsRefuted}
use Rattle.sy_loop.specs.Levels.{AreKeptBodies, AllAreRefuted}
use Rattle.sy_loop.proofs.Choosing.{terms_push, chosen_pushed, next_length, bank_at}

none_kept : (banks : List Merged) (bodies : List Expr) (total : ℕ) → banks ≡ [] → AreKeptBodies banks bodies total → (bodies ≡ []) × (total ≡ 0)
none_kept [] [] total none kept = (refl, kept)
none_kept [] (body ∷ bodies) total none kept = absurd kept
none_kept (bank ∷ banks) bodies total none kept = absurd (cc)

module _ (question : Question) (history : List Counterexample) (asked : Asked) where
  -- all bodies are chosen
  pub one_refuted : (banks : List Merged) (chosen : List Expr) (n left : ℕ) → length banks ≤ n → IsRefuted question history asked chosen → AllAreRefuted question history asked chosen (drop n banks) left
  one_refuted banks chosen n left all refuted = record {
    each = λ bodies kept.
        let none = none_kept (drop n banks) bodies left (drop_all n banks all) kept in
        subst (IsRefuted question history asked) (sym (ap (λ more. chosen ++ more) none.0 ∙ append-nil chosen)) refuted;
  }

  -- and some of the size is left
  pub none_refuted : (banks : List Merged) (chosen : List Expr) (n left : ℕ) → length banks ≤ n → 0 < left → AllAreRefuted question history asked chosen (drop n banks) left
  none_refuted banks chosen n left all over = record {
    each = λ bodies kept.
        let none = none_kept (drop n banks) bodies left (drop_all n banks all) kept in
        absurd (omega (arith, none.1, over));
  }

  -- those that go on with a kept term of the bank whose size is below the bound
  pub record AreRefutedBelow (bank : Merged) (chosen : List Expr) (banks : List Merged) (left least bound : ℕ) : Type 0 where
    pub each : (size place : ℕ) (entry : Entry) → slice_get (kept_at bank.levels 0 size) place ≡ Some entry → least ≤ size → size < bound → AllAreRefuted question history asked (chosen ++ entry.term ∷ []) banks (left - size)

  pub below_first : (bank : Merged) (chosen : List Expr) (banks : List Merged) (left least : ℕ) → AreRefutedBelow bank chosen banks left least least
  below_first bank chosen banks left least = record { each = λ size place entry at above below. absurd (omega (arith, above, below)) }

  or_last : (m n : ℕ) → m < n + 1 → (m < n) ⊎ (m ≡ n)
  or_last zero zero less = inr refl
  or_last zero (suc n) less = inl (omega arith)
  or_last (suc m) zero less = absurd (omega arith)
  or_last (suc m) (suc n) less = elim (or_last m n (omega arith)) [ inl h ↦ inl (omega arith) | inr h ↦ inr (ap suc h) ]

  at_all : {X : Type 0} (f : X → Entry) (P : Entry → Type 0) (xs : List X) (entries : List Entry) (i : ℕ) (entry : Entry) → map f xs ≡ entries → All (λ x. P (f x)) xs → slice_get entries i ≡ Some entry → P entry
  at_all f P [] [] i entry same all at = absurd (none-some entry at)
  at_all f P [] (e ∷ entries) i entry same all at = cc
  at_all f P (x ∷ xs) [] i entry same all at = cc
  at_all f P (x ∷ xs) (e ∷ entries) zero entry same all at =
      let equal : f x ≡ entry = cc in
      subst P equal (All-head (λ y. P (f y)) x xs all)
  at_all f P (x ∷ xs) (e ∷ entries) (suc i) entry same all at =
      let rest : map f xs ≡ entries = cc in
      at_all f P xs entries i entry rest (All-tail (λ y. P (f y)) x xs all) at

  -- one size more
  pub below_more : {X : Type 0} (f : X → Entry) (xs : List X) (bank : Merged) (chosen : List Entry) (banks : List Merged) (left least size : ℕ) → AreRefutedBelow bank (terms chosen) banks left least size → map f xs ≡ kept_at bank.levels 0 size →
      All (λ x. AllAreRefuted question history asked (terms (chosen ++ f x ∷ [])) banks (left - size)) xs → AreRefutedBelow bank (terms chosen) banks left least (size + 1)
  below_more f xs bank chosen banks left least size done same all = record {
    each = λ n place entry at above below. elim (or_last n size below) [
      | inl less ↦ done.each n place entry at above less
      | inr equal ↦
          let here : slice_get (kept_at bank.levels 0 size) place ≡ Some entry = subst (λ m. slice_get (kept_at bank.levels 0 m) place ≡ Some entry) equal at in
          let refuted = at_all f (λ (e : Entry). AllAreRefuted question history asked (terms (chosen ++ e ∷ [])) banks (left - size)) xs (kept_at bank.levels 0 size) place entry same all here in
          subst (λ m. AllAreRefuted question history asked (terms chosen ++ entry.term ∷ []) banks (left - m)) (sym equal) (subst (λ c. AllAreRefuted question history asked c banks (left - size)) (terms_push chosen entry) refuted)
    ];
  }

  whole : (bank : Merged) (chosen : List Expr) (banks : List Merged) (left least : ℕ) (bodies : List Expr) → (least ≡ 0) ⊎ ((banks ≡ []) × (least ≡ left)) → AreRefutedBelow bank chosen banks left least (left + 1) →
      AreKeptBodies (bank ∷ banks) bodies left → IsRefuted question history asked (chosen ++ bodies)
  whole bank chosen banks left least [] from done kept = absurd kept
  whole bank chosen banks left least (body ∷ bodies) from done kept =
      let size = kept.0 in
      let rest = kept.1 in
      let entry = kept.3 in
      let above : least ≤ size = elim from [ inl none ↦ omega (arith, none) | inr last ↦ omega (arith, last.1, kept.7, (none_kept banks bodies rest last.0 kept.6).1) ] in
      let given = done.each size kept.2 entry kept.4 above (omega (arith, kept.7)) in
      let split : rest ≡ left - size = omega (arith, kept.7) in
      let refuted = given.each bodies (subst (AreKeptBodies banks bodies) split kept.6) in
      subst (IsRefuted question history asked) (append_assoc chosen (entry.term ∷ []) bodies ∙ ap (λ b. chosen ++ b ∷ bodies) kept.5) refuted

  -- all sizes
  pub below_whole : (bank : Merged) (chosen : List Expr) (all : List Merged) (n left least : ℕ) → n < length all → bank ≡ get_or all n bank → (least ≡ 0) ⊎ ((n + 1 ≡ length all) × (least ≡ left)) →
      AreRefutedBelow bank chosen (drop (n + 1) all) left least (left + 1) → AllAreRefuted question history asked chosen (drop n all) left
  below_whole bank chosen all n left least within at from done =
      let split : drop n all ≡ bank ∷ drop (n + 1) all = drop_more all n bank within ∙ ap (λ b. b ∷ drop (n + 1) all) (sym at) in
      let from' : (least ≡ 0) ⊎ ((drop (n + 1) all ≡ []) × (least ≡ left)) = elim from [ inl none ↦ inl none | inr last ↦ inr (drop_all (n + 1) all (omega (arith, last.0)), last.1) ] in
      record { each = λ bodies kept. whole bank chosen (drop (n + 1) all) left least bodies from' done (subst (λ bs. AreKeptBodies bs bodies left) split kept) }

  -- one kept term more was chosen after the others
  pub next_refuted : {T N : Type 0} (number : N → Val) (initial before after : List (Bor (Kept T N))) (choice : Bor (Kept T N)) (kept : List (Kept T N)) (index : ℕ) (banks : List Merged) (left : ℕ) (history' : List Counterexample) (asked' : Asked) →
      before ≡ initial → after ≡ before ++ choice ∷ [] → index < length kept → choice.now ≡ get_or kept index choice.now → history' ≡ history → asked' ≡ asked →
      All (λ term. AllAreRefuted question history asked (terms (chosen_of number initial ++ entry_of number term ∷ [])) (drop (length initial + 1) banks) left) (take index kept) →
      AllAreRefuted question history' asked' (terms (chosen_of number after)) (drop (length after) banks) left →
      All (λ term. AllAreRefuted question history asked (terms (chosen_of number initial ++ entry_of number term ∷ [])) (drop (length initial + 1) banks) left) (take (index + 1) kept)
  next_refuted {T} {N} number initial before after choice kept index banks left history' asked' same pushed within at here there all refuted =
      let P : Kept T N → Type 0 = λ term. AllAreRefuted question history asked (terms (chosen_of number initial ++ entry_of number term ∷ [])) (drop (length initial + 1) banks) left in
      let last : P choice.now =
      subst (λ n. AllAreRefuted question history asked (terms (chosen_of number initial ++ entry_of number choice.now ∷ [])) (drop n banks) left) (next_length initial before after choice same pushed)
      (subst (λ c. AllAreRefuted question history asked (terms c) (drop (length after) banks) left) (chosen_pushed number initial before after choice same pushed)
      (subst (λ h. AllAreRefuted question h asked (terms (chosen_of number after)) (drop (length after) banks) left) here
      (subst (λ a. AllAreRefuted question history' a (terms (chosen_of number after)) (drop (length after) banks) left) there refuted))) in
      All-more P kept index choice.now within all (subst P at last)

  pub kept_refuted : {T N : Type 0} (number : N → Val) (initial : List (Bor (Kept T N))) (kept : List (Kept T N)) (index : ℕ) (banks : List Merged) (left : ℕ) → length kept ≤ index →
      All (λ term. AllAreRefuted question history asked (terms (chosen_of number initial ++ entry_of number term ∷ [])) (drop (length initial + 1) banks) left) (take index kept) →
      All (λ term. AllAreRefuted question history asked (terms (chosen_of number initial ++ entry_of number term ∷ [])) (drop (length initial + 1) banks) left) kept
  kept_refuted {T} {N} number initial kept index banks left done all =
      All-same (λ (term : Kept T N). AllAreRefuted question history asked (terms (chosen_of number initial ++ entry_of number term ∷ [])) (drop (length initial + 1) banks) left) kept (take index kept) (sym (take_all index kept done)) all

  -- one size more
  pub size_refuted : {T N : Type 0} (number : N → Val) (initial before : List (Bor (Kept T N))) (kept : List (Kept T N)) (bank : Merged) (banks : List Merged) (left least size : ℕ) (history' : List Counterexample) (asked' : Asked) → before ≡ initial → history' ≡ history → asked' ≡ asked →
      AreRefutedBelow bank (terms (chosen_of number initial)) (drop (length initial + 1) banks) left least size → entries_of number kept ≡ kept_at bank.levels 0 size →
      All (λ term. AllAreRefuted question history' asked' (terms (chosen_of number before ++ entry_of number term ∷ [])) (drop (length before + 1) banks) (left - size)) kept →
      AreRefutedBelow bank (terms (chosen_of number initial)) (drop (length initial + 1) banks) left least (size + 1)
  size_refuted {T} {N} number initial before kept bank banks left least size history' asked' same here there done is all =
      below_more (entry_of number) kept bank (chosen_of number initial) (drop (length initial + 1) banks) left least size done is
      (subst (λ (c : List (Bor (Kept T N))). All (λ term. AllAreRefuted question history asked (terms (chosen_of number c ++ entry_of number term ∷ [])) (drop (length c + 1) banks) (left - size)) kept) same
      (subst (λ h. All (λ (term : Kept T N). AllAreRefuted question h asked (terms (chosen_of number before ++ entry_of number term ∷ [])) (drop (length before + 1) banks) (left - size)) kept) here
      (subst (λ a. All (λ (term : Kept T N). AllAreRefuted question history' a (terms (chosen_of number before ++ entry_of number term ∷ [])) (drop (length before + 1) banks) (left - size)) kept) there all)))

  -- all sizes
  pub sizes_refuted : {T N : Type 0} (number : N → Val) (chosen : List Expr) (bank : Bank T N) (banks : List (Bank T N)) (function n left least bound : ℕ) → function ≡ n → function < length banks → bank ≡ get_or banks function bank → bound ≡ left + 1 →
      (least ≡ 0) ⊎ ((function + 1 ≡ length banks) × (least ≡ left)) → AreRefutedBelow (merged_of number (get_or banks function bank)) chosen (drop (n + 1) (map (merged_of number) banks)) left least bound →
      AllAreRefuted question history asked chosen (drop n (map (merged_of number) banks)) left
  sizes_refuted {T} {N} number chosen bank banks function n left least bound here within at end from done =
      let long : length (map (merged_of number) banks) ≡ length banks = length-map banks (merged_of number) in
      let place : merged_of number bank ≡ get_or (map (merged_of number) banks) n (merged_of number bank) =
      sym (get_or_from_slice_get (map (merged_of number) banks) n (merged_of number bank) (merged_of number bank)
      (subst (λ k. slice_get (map (merged_of number) banks) k ≡ Some (merged_of number bank)) here (bank_at (merged_of number) banks function bank within at))) in
      let from' : (least ≡ 0) ⊎ ((n + 1 ≡ length (map (merged_of number) banks)) × (least ≡ left)) = elim from [ inl none ↦ inl none | inr last ↦ inr (omega (arith, last.0, long, here), last.1) ] in
      below_whole (merged_of number bank) chosen (map (merged_of number) banks) n left least (omega (arith, within, long, here)) place from'
      (subst (λ m. AreRefutedBelow (merged_of number bank) chosen (drop (n + 1) (map (merged_of number) banks)) left least m) end
      (subst (λ (b : Bank T N). AreRefutedBelow (merged_of number b) chosen (drop (n + 1) (map (merged_of number) banks)) left least bound) (sym at) done))

-- Texts of lists, as they are written piece by piece.
use Rattle.std.proofs.Common.{◌≡◌, ℕ, List, [], ◌∷◌, ◌++◌, refl, ap, sym, ◌∙◌, append_assoc}
use Rattle.sy_text_items.specs.Items.{Item, Items}
use Rattle.sy_text.specs.Spelling.{item_text, others_text}
use Rattle.sy_proof.specs.Lists.{each_item, spaced}
use Rattle.sy_proof.proofs.Lists.{others_spaced}

-- a word, and the items behind it
pub word_then : (out head a b c : List ℕ) (rest : Items) → a ≡ out ++ head → b ≡ a ++ spaced rest → c ≡ b ++ 41 ∷ [] → c ≡ out ++ (head ++ others_text rest)
word_then out head a b c rest first second third =
    third ∙ ap (λ (text : List ℕ). text ++ 41 ∷ []) (second ∙ ap (λ (text : List ℕ). text ++ spaced rest) first) ∙ regroup (spaced rest) ∙ ap (λ (text : List ℕ). out ++ (head ++ text)) (sym (others_spaced rest))
  where
    regroup : (text : List ℕ) → ((out ++ head) ++ text) ++ 41 ∷ [] ≡ out ++ (head ++ (text ++ 41 ∷ []))
    regroup text = simp append_assoc

-- a word, a text, and the items behind it
pub word_text_then : (out head text a b c d : List ℕ) (rest : Items) → a ≡ out ++ head → b ≡ a ++ text → c ≡ b ++ spaced rest → d ≡ c ++ 41 ∷ [] → d ≡ out ++ (head ++ (text ++ others_text rest))
word_text_then out head text a b c d rest first second third fourth =
    word_then out (head ++ text) b c d rest (second ∙ ap (λ (front : List ℕ). front ++ text) first ∙ append_assoc out head text) third fourth ∙ ap (λ (all : List ℕ). out ++ all) (append_assoc head text (others_text rest))

-- a word, the items behind it, and byte 10
pub line_then : (head a b c : List ℕ) (rest : Items) → a ≡ [] ++ head → b ≡ a ++ spaced rest → c ≡ b ++ 41 ∷ 10 ∷ [] → c ≡ (head ++ others_text rest) ++ 10 ∷ []
line_then head a b c rest first second third =
    third ∙ ap (λ (text : List ℕ). text ++ 41 ∷ 10 ∷ []) (second ∙ ap (λ (text : List ℕ). text ++ spaced rest) first) ∙ regroup (spaced rest) ∙ ap (λ (text : List ℕ). (head ++ text) ++ 10 ∷ []) (sym (others_spaced rest))
  where
    regroup : (text : List ℕ) → (head ++ text) ++ 41 ∷ 10 ∷ [] ≡ (head ++ (text ++ 41 ∷ [])) ++ 10 ∷ []
    regroup text = simp append_assoc

spaced-append : {A : Type 0} (item : A → Item) (xs ys : List A) → spaced (each_item item (xs ++ ys)) ≡ spaced (each_item item xs) ++ spaced (each_item item ys)
spaced-append item [] ys = refl
spaced-append item (x ∷ xs) ys =
    ap (λ (text : List ℕ). (32 ∷ item_text (item x)) ++ text) (spaced-append item xs ys) ∙ sym (append_assoc (32 ∷ item_text (item x)) (spaced (each_item item xs)) (spaced (each_item item ys)))

-- a text, and the items of two lists
pub two_then : {A : Type 0} (item : A → Item) (xs ys : List A) (out text a b c : List ℕ) → a ≡ out ++ text → b ≡ a ++ spaced (each_item item xs) → c ≡ b ++ spaced (each_item item ys) →
    c ≡ out ++ (text ++ spaced (each_item item (xs ++ ys)))
two_then item xs ys out text a b c first second third =
    third ∙ ap (λ (front : List ℕ). front ++ spaced (each_item item ys)) (second ∙ ap (λ (front : List ℕ). front ++ spaced (each_item item xs)) first)
    ∙ regroup (spaced (each_item item xs)) (spaced (each_item item ys)) ∙ ap (λ (all : List ℕ). out ++ (text ++ all)) (sym (spaced-append item xs ys))
  where
    regroup : (us vs : List ℕ) → ((out ++ text) ++ us) ++ vs ≡ out ++ (text ++ (us ++ vs))
    regroup us vs = simp append_assoc

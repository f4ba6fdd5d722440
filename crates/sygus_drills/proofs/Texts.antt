-- Texts, one after the other.
use Rattle.std.proofs.Common.{◌≡◌, ◌++◌, List, ℕ, Result, Ok, Err, ap, ◌∙◌, append_assoc}
use Rattle.std.specs.Prelude.{OnOk}

pub two : {A E : Type 0} (r : Result A E) (old one last a b whole : List ℕ) → one ≡ old ++ a → a ++ b ≡ whole → OnOk r (last ≡ one ++ b) → OnOk r (last ≡ old ++ whole)
two (Ok x) old one last a b whole p e h = h ∙ ap (λ (l : List ℕ). l ++ b) p ∙ append_assoc old a b ∙ ap (λ (l : List ℕ). old ++ l) e
two (Err f) old one last a b whole p e h = tt

pub three : {A E : Type 0} (r : Result A E) (old one two last a b c whole : List ℕ) → one ≡ old ++ a → two ≡ one ++ b → a ++ (b ++ c) ≡ whole → OnOk r (last ≡ two ++ c) → OnOk r (last ≡ old ++ whole)
three (Ok x) old one two last a b c whole p q e h =
    h ∙ ap (λ (l : List ℕ). l ++ c) (q ∙ ap (λ (l : List ℕ). l ++ b) p) ∙ append_assoc (old ++ a) b c ∙ append_assoc old a (b ++ c) ∙ ap (λ (l : List ℕ). old ++ l) e
three (Err f) old one two last a b c whole p q e h = tt

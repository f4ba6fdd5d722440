-- The fraction of a numerator and a denominator, where these are in lowest terms.
use Rattle.std.proofs.Common.{◌≡◌, ◌≢◌, ◌<◌, ℕ, refl, ap, sym, subst, ◌∙◌, arith, Some, None}
use Rattle.std.specs.Prelude.{Option, ℤ, pos}
use Rattle.std.specs.Option.{option_map}
use Rattle.sy_frac.specs.Fraction.{Fraction, IsInRange, IsLowest, IsQuotient}
use Rattle.sy_frac.proofs.Canonical.{same_quotient}
use Rattle.sy_proof.specs.Lists.{Finds}
use Rattle.sy_proof.specs.Numbers.{parts_of}

same_fraction : (f g : Fraction) → f.num ≡ g.num → f.den ≡ g.den → f ≡ g
same_fraction f g num den = λ i. record { num = num i; den = den i }

same_den : (m n : ℕ) → pos m ≡ pos n → m ≡ n
same_den m n e = cc

nonzero_den : (n : ℕ) → 0 < n → pos n ≢ pos 0
nonzero_den n positive e = let same : n ≡ 0 = same_den n 0 e in omega arith

module _ (num den : ℤ) where
  pub fraction_found : (read : Option Fraction) (f : Fraction) → Some (num, den) ≡ option_map parts_of read → IsQuotient f num den → f.num ≡ num → pos f.den ≡ den → Finds IsLowest read (Some f)
  fraction_found None f is quotient same also = absurd (cc)
  fraction_found (Some g) f is quotient same also =
      let parts : (num, den) ≡ (g.num, pos g.den) = cc in
      let left : num ≡ g.num = ap (λ (p : ℤ × ℤ). p.0) parts in
      let right : den ≡ pos g.den = ap (λ (p : ℤ × ℤ). p.1) parts in
      (ap Some (same_fraction g f (sym (same ∙ left)) (same_den g.den f.den (sym (also ∙ right)))), quotient.lowest)

  pub fraction_other : (read : Option Fraction) (f : Fraction) → Some (num, den) ≡ option_map parts_of read → IsQuotient f num den → (f.num ≡ num → pos f.den ≡ den → ⊥) → Finds IsLowest read None
  fraction_other None f is quotient other g reads lowest = cc
  fraction_other (Some h) f is quotient other g reads lowest =
      let is_g : h ≡ g = cc in
      let parts : (num, den) ≡ (h.num, pos h.den) = cc in
      let left : num ≡ g.num = ap (λ (p : ℤ × ℤ). p.0) parts ∙ ap (λ (k : Fraction). k.num) is_g in
      let right : den ≡ pos g.den = ap (λ (p : ℤ × ℤ). p.1) parts ∙ ap (λ (k : Fraction). pos k.den) is_g in
      let of_f : IsQuotient f g.num (pos g.den) = subst (λ d. IsQuotient f g.num d) right (subst (λ n. IsQuotient f n den) left quotient) in
      let of_g : IsQuotient g g.num (pos g.den) = record { value = refl; lowest = lowest } in
      let same : f ≡ g = same_quotient f g g.num (pos g.den) (nonzero_den g.den lowest.positive) of_f of_g in
      other (ap (λ (k : Fraction). k.num) same ∙ sym left) (ap (λ (k : Fraction). pos k.den) same ∙ sym right)

  pub fraction_none : (read : Option Fraction) → Some (num, den) ≡ option_map parts_of read → ((den ≢ pos 0) × IsInRange num × IsInRange den → ⊥) → Finds IsLowest read None
  fraction_none None is none g reads lowest = cc
  fraction_none (Some h) is none g reads lowest =
      let is_g : h ≡ g = cc in
      let parts : (num, den) ≡ (h.num, pos h.den) = cc in
      let left : g.num ≡ num = sym (ap (λ (p : ℤ × ℤ). p.0) parts ∙ ap (λ (k : Fraction). k.num) is_g) in
      let right : pos g.den ≡ den = sym (ap (λ (p : ℤ × ℤ). p.1) parts ∙ ap (λ (k : Fraction). pos k.den) is_g) in
      none (subst (λ d. d ≢ pos 0) right (nonzero_den g.den lowest.positive), subst IsInRange left lowest.num_fits, subst IsInRange right lowest.den_fits)

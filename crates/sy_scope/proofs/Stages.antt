-- What is read in stages, of which the last says what is done.
use Rattle.std.proofs.Common.{◌≡◌, ◌∙◌, refl}
use Rattle.std.specs.Prelude.{Ok, Err}
use Rattle.sy_forms_items.specs.Readings.{Reading, ReadingFails, ◌>>=◌}
use Rattle.sy_forms_items.specs.declared.fault.ReadEnd.{ReadEnd}
use Rattle.sy_forms_items.proofs.Readings as reading

-- what is read in steps is what is made in the last, where that is so of the last
module _ {E F : Type 0} (g : E → Reading F) where
  pub by_one : {D : Type 0} (m4 : Reading D) (all : D → Reading F) (last : D → Reading E) → ((d : D) → all d ≡ (last d >>= g)) → (m4 >>= all) ≡ ((m4 >>= last) >>= g)
  by_one (Ok d) all last same = same d
  by_one (Err e) all last same = refl

  by_two : {C D : Type 0} (m3 : Reading C) (m4 : C → Reading D) (all : C → D → Reading F) (last : C → D → Reading E) → ((c : C) (d : D) → all c d ≡ (last c d >>= g)) →
      (m3 >>= λ c. m4 c >>= all c) ≡ ((m3 >>= λ c. m4 c >>= last c) >>= g)
  by_two (Ok c) m4 all last same = by_one (m4 c) (all c) (last c) (same c)
  by_two (Err e) m4 all last same = refl

  by_three : {B C D : Type 0} (m2 : Reading B) (m3 : B → Reading C) (m4 : B → C → Reading D) (all : B → C → D → Reading F) (last : B → C → D → Reading E) → ((b : B) (c : C) (d : D) → all b c d ≡ (last b c d >>= g)) →
      (m2 >>= λ b. m3 b >>= λ c. m4 b c >>= all b c) ≡ ((m2 >>= λ b. m3 b >>= λ c. m4 b c >>= last b c) >>= g)
  by_three (Ok b) m3 m4 all last same = by_two (m3 b) (m4 b) (all b) (last b) (same b)
  by_three (Err e) m3 m4 all last same = refl

  pub by_four : {A B C D : Type 0} (m1 : Reading A) (m2 : A → Reading B) (m3 : A → B → Reading C) (m4 : A → B → C → Reading D) (all : A → B → C → D → Reading F) (last : A → B → C → D → Reading E) →
      ((a : A) (b : B) (c : C) (d : D) → all a b c d ≡ (last a b c d >>= g)) →
      (m1 >>= λ a. m2 a >>= λ b. m3 a b >>= λ c. m4 a b c >>= all a b c) ≡ ((m1 >>= λ a. m2 a >>= λ b. m3 a b >>= λ c. m4 a b c >>= last a b c) >>= g)
  by_four (Ok a) m2 m3 m4 all last same = by_three (m2 a) (m3 a) (m4 a) (all a) (last a) (same a)
  by_four (Err e) m2 m3 m4 all last same = refl

  -- what is read fails as its first part
  pub fails : (read : Reading F) (first : Reading E) → read ≡ (first >>= g) → (e : ReadEnd) → ReadingFails e first → ReadingFails e read
  fails read first same e f = reading.fails_same e read (first >>= g) same (reading.fails_bind e first g f)

  -- and gives what is made of that
  pub gives : (read : Reading F) (first : Reading E) → read ≡ (first >>= g) → (x : E) (y : F) → first ≡ Ok x → g x ≡ Ok y → read ≡ Ok y
  gives read first same x y is made = same ∙ reading.bound first x g is ∙ made

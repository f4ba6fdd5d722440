-- Lists compared place by place, by what their items stand for.
use Rattle.std.proofs.Common.{◌≡◌, List, [], ◌∷◌, length, map, refl, ap, sym, ◌∙◌, arith}
use Rattle.std.proofs.lemmas.List.{length-map}

-- what is left of two lists stands for the same exactly where the whole lists do
pub record AreLeft {X Y : Type 0} (f : X → Y) (all_a all_b xs ys : List X) : Type 0 where
  pub long : length xs ≡ length ys
  pub rest : map f all_a ≡ map f all_b → map f xs ≡ map f ys
  pub whole : map f xs ≡ map f ys → map f all_a ≡ map f all_b

pub left-all : {X Y : Type 0} (f : X → Y) (all_a all_b xs ys : List X) → length all_a ≡ length all_b → xs ≡ all_a → ys ≡ all_b → AreLeft f all_a all_b xs ys
left-all f all_a all_b xs ys long one two = rw (one, two) (record { long = long; rest = λ same. same; whole = λ same. same })

-- the first of what is left on either side
pub left-first : {X Y : Type 0} (f : X → Y) (all_a all_b xs ys xs' ys' : List X) (x y : X) → AreLeft f all_a all_b xs ys → xs ≡ x ∷ xs' → ys ≡ y ∷ ys' → map f all_a ≡ map f all_b → f x ≡ f y
left-first f all_a all_b xs ys xs' ys' x y left one two same =
    let rest : f x ∷ map f xs' ≡ f y ∷ map f ys' = ap (map f) (sym one) ∙ left.rest same ∙ ap (map f) two in
    cc

-- one item less on either side, which stands for the same
pub left-next : {X Y : Type 0} (f : X → Y) (all_a all_b xs ys xs' ys' : List X) (x y : X) → AreLeft f all_a all_b xs ys → xs ≡ x ∷ xs' → ys ≡ y ∷ ys' → f x ≡ f y → AreLeft f all_a all_b xs' ys'
left-next f all_a all_b xs ys xs' ys' x y left one two here = record {
  long = omega (arith, sym (ap length one) ∙ left.long ∙ ap length two);
  rest = λ same. let rest : f x ∷ map f xs' ≡ f y ∷ map f ys' = ap (map f) (sym one) ∙ left.rest same ∙ ap (map f) two in cc;
  whole = λ same. left.whole (ap (map f) one ∙ (λ k. here k ∷ same k) ∙ sym (ap (map f) two));
}

-- nothing is left
pub left-none : {X Y : Type 0} (f : X → Y) (all_a all_b xs ys : List X) → AreLeft f all_a all_b xs ys → length xs ≡ 0 → map f all_a ≡ map f all_b
left-none f all_a all_b [] [] left none = left.whole refl
left-none f all_a all_b [] (y ∷ ys) left none = absurd (omega (arith, left.long))
left-none f all_a all_b (x ∷ xs) ys left none = absurd (omega (arith, none))

-- lists that stand for the same are of one length
pub same-length : {X Y : Type 0} (f : X → Y) (xs ys : List X) → map f xs ≡ map f ys → length xs ≡ length ys
same-length f xs ys same = sym (length-map xs f) ∙ ap length same ∙ length-map ys f

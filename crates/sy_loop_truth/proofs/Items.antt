-- Items of mapped lists.
use Rattle.std.proofs.Common.{◌≡◌, ◌<◌, ◌≤◌, ◌+◌, ◌++◌, ap, sym, subst, ◌∙◌, ℕ, zero, suc, List, [], ◌∷◌, length, map, take, get_or, arith, slice_get, Some}
use Rattle.std.specs.List.{All, Contains}
use Rattle.std.proofs.lemmas.List.{take_more, take_all, map-append, map_push}
use Rattle.std.proofs.lemmas.Option.{slice_get_within, get_or_from_slice_get}
use Rattle.std.proofs.lemmas.List.Elements.{All-head, All-tail, All-push, All-get_or}
use Rattle.sy_loop_truth.proofs.Traced.{here, there}

pub all_at : {A B : Type 0} (P : B → Type 0) (f : A → B) (xs : List A) (k : ℕ) (x : A) → k < length xs → x ≡ get_or xs k x → All P (map f xs) → P (f x)
all_at P f [] k x lt at all = absurd (omega arith)
all_at P f (y ∷ ys) zero x lt at all = subst (λ z. P (f z)) (sym at) (All-head P (f y) (map f ys) all)
all_at P f (y ∷ ys) (suc k) x lt at all = all_at P f ys k x (omega arith) at (All-tail P (f y) (map f ys) all)

pub all_more : {A B : Type 0} (P : B → Type 0) (f : A → B) (xs : List A) (k : ℕ) (x : A) → k < length xs → x ≡ get_or xs k x → All P (map f (take k xs)) → P (f x) → All P (map f (take (k + 1) xs))
all_more P f xs k x lt at all has =
    rw (take_more xs k x lt, ← at, map-append f (take k xs) (x ∷ [])) (All-push P (map f (take k xs)) (f x) all has)

pub all_done : {A B : Type 0} (P : B → Type 0) (f : A → B) (xs : List A) (k : ℕ) → length xs ≤ k → All P (map f (take k xs)) → All P (map f xs)
all_done P f xs k le all = rw (take_all k xs le) at all

-- an item of a list that is this one
pub item_of : {A : Type 0} (P : A → Type 0) (xs ys : List A) (k : ℕ) (x : A) → xs ≡ ys → k < length xs → x ≡ get_or xs k x → All P ys → P x
item_of P xs ys k x same lt at all = subst P (sym at) (All-get_or P xs k x lt (subst (All P) (sym same) all))

-- an item of the list is one of the mapped list
pub has_at : {A B : Type 0} (f : A → B) (xs : List A) (k : ℕ) (x : A) → k < length xs → x ≡ get_or xs k x → Contains (map f xs) (f x)
has_at f [] k x lt at = absurd (omega arith)
has_at f (y ∷ ys) zero x lt at = subst (λ z. Contains (f y ∷ map f ys) (f z)) (sym at) (here (f y) (map f ys))
has_at f (y ∷ ys) (suc k) x lt at = there (f y) (map f ys) (f x) (has_at f ys k x (omega arith) at)

-- what stands at a place is there
pub has_place : {A : Type 0} (xs : List A) (k : ℕ) (x : A) → slice_get xs k ≡ Some x → Contains xs x
has_place [] k x e = absurd (cc)
has_place (y ∷ ys) zero x e = let same : y ≡ x = cc in subst (λ z. Contains (y ∷ ys) z) same (here y ys)
has_place (y ∷ ys) (suc k) x e = there y ys x (has_place ys k x e)

-- the same for what stands at a place
pub all_next : {A B : Type 0} (P : B → Type 0) (f : A → B) (xs : List A) (k : ℕ) (x : A) → slice_get xs k ≡ Some x → All P (map f (take k xs)) → P (f x) → All P (map f (take (k + 1) xs))
all_next P f xs k x at all has = all_more P f xs k x (slice_get_within xs k x at) (sym (get_or_from_slice_get xs k x x at)) all has

-- one copy more
pub copied_more : {A B : Type 0} (f : A → B) (copies xs : List A) (k : ℕ) (copy x : A) → map f copies ≡ map f (take k xs) → k < length xs → x ≡ get_or xs k x → f copy ≡ f x → map f (copies ++ copy ∷ []) ≡ map f (take (k + 1) xs)
copied_more f copies xs k copy x same within at is =
    let last : map f (take (k + 1) xs) ≡ map f (take k xs) ++ f x ∷ [] = rw (take_more xs k x within, ← at) (map_push f (take k xs) x) in
    map_push f copies copy ∙ ap (λ all. all ++ f copy ∷ []) same ∙ ap (λ y. map f (take k xs) ++ y ∷ []) is ∙ sym last

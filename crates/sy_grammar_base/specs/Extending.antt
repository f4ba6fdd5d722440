-- Lists that go on from others.
use Rattle.std.specs.Prelude.{ℕ, List, slice_get, Some, ◌≡◌}

-- the later list goes on from the earlier one
abbrev pub Extends : {A : Type 0} → List A → List A → Type 0
Extends {A} earlier later = (place : ℕ) (x : A) → slice_get earlier place ≡ Some x → slice_get later place ≡ Some x

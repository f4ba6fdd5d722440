-- What holds of what is read, step by step.
use Rattle.std.specs.Prelude.{Bool, true, false, Option, Some, None, Ok, Err, ◌≡◌, refl, ⊤, if◌then◌else◌, IfOk}
use Rattle.std.proofs.Common.{subst}
use Rattle.sy_text_items.specs.declared.atom.Place.{Place}
use Rattle.sy_scope_causes.specs.declared.cause.Cause.{Cause}
use Rattle.sy_forms_items.specs.Readings.{Reading, refuse, found_or, ◌>>=◌}

-- of the one, and then of the other
pub chained : {A B : Type 0} (P : A → Type 0) (Q : B → Type 0) (read : Reading A) (next : A → Reading B) → IfOk read P → ((x : A) → read ≡ Ok x → P x → IfOk (next x) Q) → IfOk (read >>= next) Q
chained P Q (Ok x) next holds later = later x refl holds
chained P Q (Err e) next holds later = tt

-- of either branch
pub either : {A : Type 0} (P : A → Type 0) (b : Bool) (first second : Reading A) → (b ≡ true → IfOk first P) → (b ≡ false → IfOk second P) → IfOk (if b then first else second) P
either P true first second here there = here refl
either P false first second here there = there refl

-- of a branch whose other refuses
pub unless_refused : {A : Type 0} (P : A → Type 0) (b : Bool) (place : Place) (cause : Cause) (read : Reading A) → (b ≡ true → IfOk read P) → IfOk (if b then read else refuse place cause) P
unless_refused P true place cause read holds = holds refl
unless_refused P false place cause read holds = tt

-- of a branch after a refusal
pub where_not_refused : {A : Type 0} (P : A → Type 0) (b : Bool) (place : Place) (cause : Cause) (read : Reading A) → (b ≡ false → IfOk read P) → IfOk (if b then refuse place cause else read) P
where_not_refused P true place cause read holds = tt
where_not_refused P false place cause read holds = holds refl

-- of what is found
pub where_found : {A : Type 0} (P : A → Type 0) (place : Place) (cause : Cause) (found : Option A) → ((x : A) → found ≡ Some x → P x) → IfOk (found_or place cause found) P
where_found P place cause None holds = tt
where_found P place cause (Some x) holds = holds x refl

-- what is read keeps it
pub at_read : {A : Type 0} (P : A → Type 0) (read : Reading A) (x : A) → IfOk read P → read ≡ Ok x → P x
at_read P (Ok y) x holds e = let same : y ≡ x = cc in subst P same holds
at_read P (Err fault) x holds e = absurd cc

-- of everything
pub any_read : {A : Type 0} (read : Reading A) → IfOk read (λ x. ⊤)
any_read (Ok x) = tt
any_read (Err e) = tt

-- what follows
pub weaker : {A : Type 0} (P Q : A → Type 0) (read : Reading A) → IfOk read P → ((x : A) → P x → Q x) → IfOk read Q
weaker P Q (Ok x) holds implies = implies x holds
weaker P Q (Err e) holds implies = tt

-- of what is read
pub where_read : {A : Type 0} {P : A → Type 0} (read : Reading A) → ((x : A) → read ≡ Ok x → P x) → IfOk read P
where_read (Ok x) holds = holds x refl
where_read (Err e) holds = tt

-- What was read first, where all was read.
use Rattle.std.proofs.Common.{◌≡◌, refl, Bool, true, false, cond}
use Rattle.std.specs.Prelude.{Ok, Err}
use Rattle.sy_text_items.specs.declared.atom.Place.{Place}
use Rattle.sy_scope_causes.specs.declared.cause.Cause.{Cause}
use Rattle.sy_forms_items.specs.Readings.{Reading, refuse, ◌>>=◌}

pub bind_ok : {A B : Type 0} (read : Reading A) (next : A → Reading B) (y : B) → (read >>= next) ≡ Ok y → (x : A) × (read ≡ Ok x) × (next x ≡ Ok y)
bind_ok (Ok x) next y e = (x, refl, e)
bind_ok (Err f) next y e = absurd (cc)

pub if_ok : {A : Type 0} (b : Bool) (place : Place) (why : Cause) (read : Reading A) (y : A) → cond b read (refuse place why) ≡ Ok y → (b ≡ true) × (read ≡ Ok y)
if_ok true place why read y e = (refl, e)
if_ok false place why read y e = absurd (cc)

pub unless_ok : {A : Type 0} (b : Bool) (place : Place) (why : Cause) (read : Reading A) (y : A) → cond b (refuse place why) read ≡ Ok y → (b ≡ false) × (read ≡ Ok y)
unless_ok true place why read y e = absurd (cc)
unless_ok false place why read y e = (refl, e)

-- Readings one after the other.
use Rattle.std.proofs.Common.{◌≡◌, refl}
use Rattle.std.specs.Prelude.{Result, Ok, Err}
use Rattle.sy_forms_items.specs.declared.fault.ReadEnd.{ReadEnd}
use Rattle.sy_forms_items.specs.declared.fault.ReadEnd.TheVariants as ends
use Rattle.sy_forms_items.specs.Readings.{Reading, ReadingGives, ReadingFails, refuse, ◌>>=◌}

-- what is returned gives what is read, where that is another way to read
pub gives_same : {X Y : Type 0} (view : X → Y) (result : Result X ReadEnd) (read other : Reading Y) → read ≡ other → ReadingGives view result other → ReadingGives view result read
gives_same view result read other e g = rw e g

pub fails_same : {Y : Type 0} (e : ReadEnd) (read other : Reading Y) → read ≡ other → ReadingFails e other → ReadingFails e read
fails_same e read other same f = rw same f

-- what fails first fails
pub fails_bind : {A B : Type 0} (e : ReadEnd) (read : Reading A) (next : A → Reading B) → ReadingFails e read → ReadingFails e (read >>= next)
fails_bind ends.Want read next f = tt
fails_bind (ends.Refused place cause) read next f = rw f refl

-- what fails behind something that is read
pub fails_next : {A B : Type 0} (e : ReadEnd) (read : Reading A) (x : A) (next : A → Reading B) → read ≡ Ok x → ReadingFails e (next x) → ReadingFails e (read >>= next)
fails_next e read x next is f = rw is f

pub gives_next : {X A B : Type 0} (view : X → B) (result : Result X ReadEnd) (read : Reading A) (x : A) (next : A → Reading B) → read ≡ Ok x → ReadingGives view result (next x) → ReadingGives view result (read >>= next)
gives_next view result read x next is g = rw is g

pub bound : {A B : Type 0} (read : Reading A) (x : A) (next : A → Reading B) → read ≡ Ok x → (read >>= next) ≡ next x
bound read x next is = rw is refl

-- What is read of an item: a value, or the first condition that doesn't hold.
use Rattle.std.specs.Prelude.{◌≡◌, Result, Ok, Err, Option, Some, None}
use Rattle.sy_text_items.specs.declared.atom.Place.{Place}
use Rattle.sy_scope_causes.specs.declared.cause.Cause.{Cause}
use Rattle.sy_forms_items.specs.declared.fault.Fault.{Fault}
use Rattle.sy_forms_items.specs.declared.fault.ReadEnd.{ReadEnd}
use Rattle.sy_forms_items.specs.declared.fault.ReadEnd.TheVariants as ends

abbrev pub Reading : Type 0 → Type 0
Reading A = Result A Fault

abbrev pub refuse : {A : Type 0} → Place → Cause → Reading A
refuse place cause = Err (record { place = place; cause = cause })

-- the one, and then the other by what the first is
infixl 10 ◌>>=◌
abbrev pub ◌>>=◌ : {A B : Type 0} → Reading A → (A → Reading B) → Reading B
(Ok x) >>= f = f x
(Err e) >>= f = Err e

-- what is there, or else a refusal
abbrev pub found_or : {A : Type 0} → Place → Cause → Option A → Reading A
found_or place cause None = refuse place cause
found_or place cause (Some x) = Ok x

-- What a function returned, seen by view, is what is read, unless memory ran out.
abbrev pub ReadingFails : {Y : Type 0} → ReadEnd → Reading Y → Type 0
ReadingFails ends.Want read = Unit {0}
ReadingFails (ends.Refused place cause) read = read ≡ refuse place cause

abbrev pub ReadingGives : {X Y : Type 0} → (X → Y) → Result X ReadEnd → Reading Y → Type 0
ReadingGives view (Ok x) read = read ≡ Ok (view x)
ReadingGives view (Err e) read = ReadingFails e read

-- What a way out hands on.
use Rattle.std.proofs.Common.{sym, subst}
use Rattle.std.specs.Prelude.{◌≡◌, Result, Ok, Err, OnOk, IsErrAnd}
use Rattle.sy_forms_items.specs.declared.fault.ReadEnd.{ReadEnd}
use Rattle.sy_forms_items.specs.Readings.{Reading, ReadingGives, ReadingFails}

-- a fault with which what is read fails
pub fails : {X Y : Type 0} (view : X → Y) (result : Result X ReadEnd) (fault : ReadEnd) (read : Reading Y) → IsErrAnd result (λ e. e ≡ fault) → ReadingFails fault read → ReadingGives view result read
fails view (Ok x) fault read told f = absurd told
fails view (Err e) fault read told f = subst (λ (end : ReadEnd). ReadingFails end read) (sym told) f

-- on a fault nothing is said of what is returned
pub silent : {X E : Type 0} (P : Type 0) (result : Result X E) (fault : E) → IsErrAnd result (λ e. e ≡ fault) → OnOk result P
silent P (Ok x) fault told = absurd told
silent P (Err e) fault told = tt

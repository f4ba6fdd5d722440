-- Why a command gives nothing, and what its step gives the file.
use Rattle.std.specs.Prelude.{ℕ, Result, Ok, Err}
use Rattle.sy_forms_items.specs.declared.fault.ReadEnd.{ReadEnd}
use Rattle.sy_forms_items.specs.declared.fault.ReadEnd.TheVariants as read_ends
use Rattle.sy_scope_ends.specs.declared.ScopeEnd.{ScopeEnd}
use Rattle.sy_scope_ends.specs.declared.ScopeEnd.TheVariants as ends

-- why a command of this number gives nothing
abbrev pub ended_as : ℕ → ReadEnd → ScopeEnd
ended_as command read_ends.Want = ends.Want
ended_as command (read_ends.Refused place cause) = ends.Refused (record { command = command; place = place; cause = cause })

-- what a command of this number gives by its step
abbrev pub numbered_as : {X : Type 0} → ℕ → Result X ReadEnd → Result X ScopeEnd
numbered_as command (Ok x) = Ok x
numbered_as command (Err end) = Err (ended_as command end)

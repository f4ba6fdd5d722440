-- A file is a list of commands, each of which steps; or it has a first fault.
use Rattle.std.specs.Prelude.{ℕ, zero, suc, ◌+◌, List, length, drop, Option, Some, None, Result, Ok, Err}
use Rattle.sy_text_items.specs.Items.{Item}
use Rattle.sy_text.specs.Reading.{command_at, offset_of}
use Rattle.sy_text_items.specs.declared.fault.TextFault.{TextFault}
use Rattle.sy_scope_causes.specs.declared.cause.Cause.TheVariants as cause
use Rattle.sy_scope_causes.specs.declared.cause.Refused.{Refused}
use Rattle.sy_forms_items.specs.declared.fault.Fault.{Fault}
use Rattle.sy_forms_items.specs.Readings.{Reading}
use Rattle.sy_scope_names.specs.Contexts.{Context, beginning}
use Rattle.sy_scope_steps.specs.Steps.{step}

-- the fault of the command of this number
abbrev pub refused_at : ℕ → Fault → Refused
refused_at command fault = record { command = command; place = fault.place; cause = fault.cause }

abbrev pub refused_text : ℕ → TextFault → Refused
refused_text command fault = record { command = command; place = record { at = offset_of fault }; cause = cause.Text fault }

-- the context after all commands, or the first that is refused
abbrev pub FileOutcome : Type 0
FileOutcome = Result Context Refused

abbrev pub read_as : ℕ → Result (Option (Item × ℕ)) TextFault → Result (Option (Item × ℕ)) Refused
read_as command (Ok found) = Ok found
read_as command (Err fault) = Err (refused_text command fault)

-- the command of this number, from an offset on, and the offset behind it; None where there is no more
abbrev pub command_read : List ℕ → ℕ → ℕ → Result (Option (Item × ℕ)) Refused
command_read file command at = read_as command (command_at (length file) (drop at file))

-- after a step, the commands that follow
abbrev pub then_next : ℕ → Reading Context → (Context → FileOutcome) → FileOutcome
then_next command (Ok context) next = next context
then_next command (Err fault) next = Err (refused_at command fault)

abbrev pub after_command : ℕ → Context → Result (Option (Item × ℕ)) Refused → (ℕ → Context → FileOutcome) → FileOutcome
after_command command context (Ok None) next = Ok context
after_command command context (Ok (Some x)) next = then_next command (step context x.0) (next x.1)
after_command command context (Err refused) next = Err refused

-- the commands from an offset on, of which the first has a number; the first argument bounds how many there are
unfoldable pub file_from : ℕ → ℕ → List ℕ → ℕ → Context → FileOutcome
file_from zero command file at context = Ok context
file_from (suc most) command file at context =
    after_command command context (command_read file command at) (λ after later. file_from most (command + 1) file after later)

-- the context after the file, where each command steps, or else its first fault; each command takes a byte or more
abbrev pub file_read : List ℕ → FileOutcome
file_read file = file_from (length file + 1) 1 file 0 beginning

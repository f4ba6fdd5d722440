-- The causes of a refusal.
use Rattle.std.specs.Prelude.{ℕ, List, ◌++◌, codes}
use Rattle.sy_text_items.specs.declared.fault.TextFault.{TextFault}
use Rattle.sy_text_items.specs.declared.fault.TextFault.TheVariants as fault
use Rattle.sy_scope_causes.specs.declared.cause.Cause.{Cause}
use Rattle.sy_scope_causes.specs.declared.cause.Cause.TheVariants as cause

unfoldable pub number_of_cause : Cause → ℕ
number_of_cause (cause.Text f) = 1
number_of_cause cause.CommandNotInProfile = 2
number_of_cause cause.Shape = 3
number_of_cause cause.Logic = 4
number_of_cause cause.Feature = 5
number_of_cause cause.UnknownSort = 6
number_of_cause cause.Width = 7
number_of_cause cause.UnknownName = 8
number_of_cause cause.NameTaken = 9
number_of_cause cause.SortMismatch = 10
number_of_cause cause.Nonlinear = 11
number_of_cause cause.LiteralRange = 12
number_of_cause cause.FunctionNotHere = 13
number_of_cause cause.Predeclared = 14
number_of_cause cause.InvShape = 15
number_of_cause cause.TooMany = 16

unfoldable pub fault_name : TextFault → List ℕ
fault_name (fault.BadByte at) = codes "BadByte"
fault_name (fault.Unclosed at) = codes "Unclosed"
fault_name (fault.Stray at) = codes "Stray"
fault_name (fault.LiteralRange at) = codes "LiteralRange"
fault_name (fault.TooDeep at) = codes "TooDeep"

-- the name of a cause; that of a fault of the text has the fault's name behind it
unfoldable pub cause_name : Cause → List ℕ
cause_name (cause.Text f) = codes "Text " ++ fault_name f
cause_name cause.CommandNotInProfile = codes "CommandNotInProfile"
cause_name cause.Shape = codes "Shape"
cause_name cause.Logic = codes "Logic"
cause_name cause.Feature = codes "Feature"
cause_name cause.UnknownSort = codes "UnknownSort"
cause_name cause.Width = codes "Width"
cause_name cause.UnknownName = codes "UnknownName"
cause_name cause.NameTaken = codes "NameTaken"
cause_name cause.SortMismatch = codes "SortMismatch"
cause_name cause.Nonlinear = codes "Nonlinear"
cause_name cause.LiteralRange = codes "LiteralRange"
cause_name cause.FunctionNotHere = codes "FunctionNotHere"
cause_name cause.Predeclared = codes "Predeclared"
cause_name cause.InvShape = codes "InvShape"
cause_name cause.TooMany = codes "TooMany"

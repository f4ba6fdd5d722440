-- A body that is given is read as that of a `define-fun`.
use Rattle.std.specs.Prelude.{Bool, List, [], length, Some, Result, Ok, Err, ◌≡◌}
use Rattle.sy_text_items.specs.Items.{Item}
use Rattle.sy_terms.specs.Expr.{Expr}
use Rattle.sy_terms.specs.Fitting.{Signature, sort_in}
use Rattle.sy_terms.specs.declared.op.Op.{Op}
use Rattle.sy_terms.specs.declared.sort.Logic.{Logic}
use Rattle.sy_terms.specs.declared.sort.Sort.{Sort}
use Rattle.sy_grammar_base.specs.Fits.{with_functions}
use Rattle.sy_scope_causes.specs.declared.titles.Titles.{Titles}
use Rattle.sy_forms_items.specs.declared.names.Named.{Named}
use Rattle.sy_forms_items.specs.declared.names.Role.TheVariants as role
use Rattle.sy_forms_items.specs.Phrases.{expr_at}
use Rattle.sy_forms_items.specs.Readings.{Reading, refuse, ◌>>=◌}
use Rattle.sy_scope_ends.specs.declared.ScopeEnd.{ScopeEnd}
use Rattle.sy_scope_ends.specs.declared.ScopeEnd.TheVariants as ends
use Rattle.sy_scope_names.specs.Contexts.{Context}
use Rattle.sy_scope_names.specs.Lists.{sorts_of_names}
use Rattle.sy_scope_steps.specs.Steps.{read_in}
use Rattle.sy_scope_steps.specs.Around.{surroundings}

-- in a context, where let names stand behind the arguments
abbrev pub body_in : Context → Logic → List Named → Sort → Item → Reading Expr
body_in context logic arguments sort item =
    read_in context logic role.Body arguments sort item >>= λ phrase. Ok (expr_at (length arguments) phrase)

-- among the names of a problem, whose definitions have these signatures and bodies
abbrev pub body_read : Logic → Titles → List Signature → List Expr → List Named → Sort → Item → Reading Expr
body_read logic titles signatures definitions arguments sort item =
    body_in (surroundings titles signatures definitions) logic arguments sort item

-- the body has the sort, where it may call definitions of these signatures
abbrev pub BodyFits : (Op → Bool) → List Signature → List Named → Sort → Expr → Type 0
BodyFits owned signatures arguments sort body =
    sort_in (with_functions owned signatures []) (sorts_of_names arguments) body ≡ Some sort

-- so under the definitions around it
abbrev pub FitsUnder : (Op → Bool) → Context → List Named → Sort → Expr → Type 0
FitsUnder owned context arguments sort body =
    (titles : Titles) (signatures : List Signature) (definitions : List Expr) → context ≡ surroundings titles signatures definitions →
    BodyFits owned signatures arguments sort body

-- what a function returned, seen by view, is what is read, unless memory ran out; a refusal is of command 0
abbrev pub EndsBody : {Y : Type 0} → ScopeEnd → Reading Y → Type 0
EndsBody ends.Want read = Unit {0}
EndsBody (ends.Refused refused) read = (refused.command ≡ 0) × (read ≡ refuse refused.place refused.cause)

abbrev pub GivesBody : {X Y : Type 0} → (X → Y) → Result X ScopeEnd → Reading Y → Type 0
GivesBody view (Ok x) read = read ≡ Ok (view x)
GivesBody view (Err end) read = EndsBody end read

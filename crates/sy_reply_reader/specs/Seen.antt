-- What is read of a part, apart from memory.
use Rattle.std.specs.Prelude.{ℕ, Option}
use Rattle.std.specs.Option.{option_map}
use Rattle.sy_text_items.specs.Views.{item_of}
use Rattle.sy_terms.specs.Fitting.{Signature}
use Rattle.sy_scope_names.specs.Asked.{spelled_of}
use Rattle.sy_reply_reader.specs.Parts as spec
use Rattle.sy_reply_reader.specs.declared.part.Part.{Part}
use Rattle.sy_reply_reader.specs.declared.slots.Function.{Function}

abbrev pub part_in : Part → spec.Part
part_in x = record { name = spelled_of x.name; arguments = x.arguments.now; sort = item_of x.sort.now; body = item_of x.body.now; place = x.place }

abbrev pub signature_in : Function → Signature
signature_in x = record { takes = x.takes.now; gives = x.gives }

abbrev pub function_in : Function → ℕ × Signature
function_in x = (x.number, signature_in x)

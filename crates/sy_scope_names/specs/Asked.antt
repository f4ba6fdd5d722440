-- Requests apart from memory.
use Rattle.std.specs.Option.{option_map}
use Rattle.std.specs.Borrow.{Bor}
use Rattle.sy_scope_names.specs.Requests as spec
use Rattle.sy_scope_names.specs.declared.request.Spelled.{Spelled}
use Rattle.sy_scope_names.specs.declared.request.Listed.{Listed}
use Rattle.sy_scope_names.specs.declared.request.Rulebook.{Rulebook}
use Rattle.sy_scope_names.specs.declared.request.Request.{Request}
use Rattle.sy_scope_names.specs.declared.request.Request.TheVariants as requests
use Rattle.sy_text_items.specs.Items.{Item}
use Rattle.sy_text_items.specs.declared.sexp.Sexp.{Sexp}
use Rattle.sy_text_items.specs.Views.{item_of}

-- items of a list
abbrev pub two_of : Bor Sexp × Bor Sexp → Item × Item
two_of x = (item_of x.0.now, item_of x.1.now)

abbrev pub three_of : Bor Sexp × Bor Sexp × Bor Sexp → Item × Item × Item
three_of x = (item_of x.0.now, item_of x.1.now, item_of x.2.now)

abbrev pub four_of : Bor Sexp × Bor Sexp × Bor Sexp × Bor Sexp → Item × Item × Item × Item
four_of x = (item_of x.0.now, item_of x.1.now, item_of x.2.now, item_of x.3.now)

abbrev pub five_of : Bor Sexp × Bor Sexp × Bor Sexp × Bor Sexp × Bor Sexp → Item × Item × Item × Item × Item
five_of x = (item_of x.0.now, item_of x.1.now, item_of x.2.now, item_of x.3.now, item_of x.4.now)

abbrev pub spelled_of : Spelled → spec.Spelled
spelled_of x = record { name = x.name.now; place = x.place }

abbrev pub listed_of : Listed → spec.Listed
listed_of x = record { items = x.items.now; place = x.place }

abbrev pub rulebook_of : Rulebook → spec.Rulebook
rulebook_of x = record { predeclared = listed_of x.predeclared; groups = listed_of x.groups }

abbrev pub request_in : Request → spec.Request
request_in (requests.SetLogic logic) = spec.ToSetLogic (spelled_of logic)
request_in (requests.SetFeature feature on) = spec.ToSetFeature (spelled_of feature) on
request_in requests.Note = spec.ToNote
request_in (requests.DeclareVariable name sort) = spec.ToDeclareVariable (spelled_of name) (item_of sort.now)
request_in (requests.DefineSort name sort) = spec.ToDefineSort (spelled_of name) (item_of sort.now)
request_in (requests.Define name arguments sort body) = spec.ToDefine (spelled_of name) arguments.now (item_of sort.now) (item_of body.now)
request_in (requests.Synthesise name arguments sort rules) = spec.ToSynthesise (spelled_of name) arguments.now (item_of sort.now) (option_map rulebook_of rules)
request_in (requests.SynthesiseInvariant name arguments rules) = spec.ToSynthesiseInvariant (spelled_of name) arguments.now (option_map rulebook_of rules)
request_in (requests.Constrain term) = spec.ToConstrain (item_of term.now)
request_in (requests.Assume term) = spec.ToAssume (item_of term.now)
request_in (requests.ConstrainInvariant invariant before step after) =
    spec.ToConstrainInvariant (spelled_of invariant) (spelled_of before) (spelled_of step) (spelled_of after)
request_in requests.Check = spec.ToCheck

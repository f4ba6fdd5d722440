-- Requests and called functions apart from memory.
use Rattle.sy_scope_names.specs.Asked.{request_in}
use Rattle.sy_scope_names.specs.Changes as spec
use Rattle.sy_scope_declared.specs.declared.invariant.Called.{Called}
use Rattle.sy_scope_declared.specs.declared.invariant.Parts.{Parts}
use Rattle.sy_scope_declared.specs.declared.asked.Asked.{Asked}

abbrev pub called_of : Called → spec.Called
called_of f = record { function = f.function; takes = f.takes.now; gives = f.gives }

abbrev pub parts_of : Parts → spec.Parts
parts_of x = record { invariant = x.invariant; before = x.before; step = x.step; after = x.after }

abbrev pub asked_of : Asked → spec.PlacedRequest
asked_of x = record { request = request_in x.request; place = x.place; at = x.at }

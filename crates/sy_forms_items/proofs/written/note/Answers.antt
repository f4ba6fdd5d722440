use Rattle.std.proofs.Common.{◌∷◌, []}
use Rattle.std.proofs.lemmas.List.{map-append}
use Rattle.sy_terms.specs.Denoted.{val_of}
use Rattle.sy_forms_items.proofs.written.note.Goals as goal

pub returns : goal.returns
returns g c = rw (c.in_ok-push.ensures.ok) (map-append (val_of g.T.Theory.denotes) c.args.out.now (c.args.value ∷ []))

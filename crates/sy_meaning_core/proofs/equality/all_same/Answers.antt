use Rattle.std.proofs.Common.{◌∙◌, sym, ◌≡◌, ◌∷◌}
use Rattle.sy_terms.specs.Denoted.{vals_of, val_of}
use Rattle.sy_meaning_core.proofs.Lists.{neighbours-same}
use Rattle.sy_meaning_core.proofs.equality.all_same.Goals as goal

pub returns-in-Some : goal.returns-in-Some
returns-in-Some g c =
    let number = g.N.Number.denotes in
    let e : c.args.values.now ≡ c.in-Some.first.now ∷ c.in-Some.rest.now = c.in-Some.ensures.cases.0 in
    rw e (c.agrees.ensures ∙ sym (neighbours-same (val_of number c.in-Some.first.now) (vals_of number c.in-Some.rest.now)))

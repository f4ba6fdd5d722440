use Rattle.std.proofs.Common.{◌∙◌, refl, sym}
use Rattle.sy_terms.specs.Definitions.{scope_of}
use Rattle.sy_terms.specs.Denoted.{expr_of, vals_of}
use Rattle.sy_terms.specs.Fitting.{sort_in}
use Rattle.sy_loop_bodies.proofs.Fitting.{fits_where}
use Rattle.sy_loop_chosen.proofs.values.word_at.Goals as goal

pub evaluate-requires-clause-term : goal.evaluate-requires-clause-term
evaluate-requires-clause-term g c =
    let found = rw c.in-Some.is at c.in_ok-found.ensures in
    let sorts = sym c.as_slice.ensures.value ∙ c.are_same.ensures c.if-not-are_same.false in
    let own = sort_in (scope_of g.T.Theory.owned c.args.defs.now) c.args.sorts.now (expr_of g.T.Theory.denotes c.args.term.now) in
    fits_where g.T.Theory.owned g.T.Theory.denotes c.args.defs.now c.args.defs.now refl c.args.sorts.now c.args.sorts.now refl
    (vals_of g.T.Theory.denotes c.args.tuple.now) (sym found.1 ∙ sorts) (expr_of g.T.Theory.denotes c.args.term.now) own refl c.requires.term

use Rattle.std.proofs.Common.{List, [], ◌∷◌, Some, ap, map, sym, ◌∙◌}
use Rattle.std.specs.Option.{option_map}
use Rattle.std.proofs.lemmas.Option.{slice_get-map, slice_get-get_or}
use denote.Ref.{Bor}
use Rattle.sy_terms.specs.Denoted.{expr_of, vals_of}
use Rattle.sy_terms.specs.declared.sort.Value.{Value}
use Rattle.sy_terms.specs.declared.term.Term.{Term}
use Rattle.sy_bank_level.specs.Stored.{entry_of}
use Rattle.sy_bank_level.specs.declared.kept.Kept.{Kept}
use Rattle.sy_loop_spec.specs.Histories.{Counterexample}
use Rattle.sy_loop_truth.proofs.Places.{place_of}
use Rattle.sy_loop.proofs.copies.copied_leaf.Goals as goal

pub returns : goal.returns
returns g c =
    let number = g.T.Theory.denotes in
    let leaf = c.index-leaves-leaving.result in
    let entry = λ (kept : Bor (Kept g.row.T.Denot g.row.T-Num.Denot)). entry_of number kept.now in
    let pair : List (Value g.row.T-Num.Denot) × List (Term g.row.T.Denot g.row.T-Num.Denot) = (c.in-Some.assignment.now, c.in-Some.field-0-1.now) in
    let at = place_of number c.args.stored.now c.args.leaving.place pair c.in-Some.ensures in
    record {
      entry = entry leaf;
      at = slice_get-map entry c.args.leaves.now c.args.leaving.leaf ∙ ap (option_map entry) (slice_get-get_or c.args.leaves.now c.args.leaving.leaf leaf c.requires.leaf ∙ ap Some (sym c.index-leaves-leaving.is));
      bodies_are = ap (map (expr_of number)) c.in_ok-push.ensures.ok ∙ rw c.new-bodies.ensures (ap (λ term. term ∷ []) c.in_ok-term.ensures);
      assigned = ap (option_map (λ (k : Counterexample). k.assignment)) at ∙ ap (λ (values : List (Value g.row.T-Num.Denot)). Some (vals_of number values)) (sym (c.in_ok-assignment.ensures ∙ c.as_slice.ensures));
    }

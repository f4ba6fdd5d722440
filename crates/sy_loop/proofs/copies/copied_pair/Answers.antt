use Rattle.std.proofs.Common.{List, Some, ap, sym, ◌∙◌}
use Rattle.std.specs.Option.{option_map}
use Rattle.sy_terms.specs.Denoted.{vals_of}
use Rattle.sy_terms.specs.declared.sort.Value.{Value}
use Rattle.sy_terms.specs.declared.term.Term.{Term}
use Rattle.sy_loop_spec.specs.Histories.{Counterexample}
use Rattle.sy_loop_spec.specs.Stored.{counterexample_of}
use Rattle.sy_loop_truth.proofs.Places.{place_of}
use Rattle.sy_loop.proofs.copies.copied_pair.Goals as goal

pub returns : goal.returns
returns g c =
    let pair : List (Value g.row.T-Num.Denot) × List (Term g.row.T.Denot g.row.T-Num.Denot) = (c.in-Some.assignment.now, c.in-Some.bodies.now) in
    let at = place_of g.T.Theory.denotes c.args.stored.now c.args.place pair c.in-Some.ensures in
    record {
      counterexample = counterexample_of g.T.Theory.denotes pair;
      at = at;
      bodies_are = c.in_ok-bodies.ensures;
      assigned = ap (option_map (λ (k : Counterexample). k.assignment)) at ∙ ap (λ (values : List (Value g.row.T-Num.Denot)). Some (vals_of g.T.Theory.denotes values)) (sym (c.in_ok-assignment.ensures ∙ c.as_slice.ensures));
    }

use Rattle.std.proofs.Common.{◌≡◌, ◌∙◌, ap, map, length, arith}
use Rattle.sy_forms_items.specs.Meant.{phrase_of}
use Rattle.sy_forms_items.specs.Phrases.{expr_at}
use Rattle.sy_scope_names.specs.Contexts.{definition_signature, body_of, goal_sought, condition_at}
use Rattle.sy_scope_declared.specs.Seen.{definition_of, sought_of, condition_of}
use Rattle.sy_scope_declared.proofs.context.Context.problem.Goals as goal

pub returns : goal.returns
returns g c =
    let number = g.T.Theory.denotes in
    let self = c.args.self.now in
    let outside : c.in-Ok.outside ≡ length self.variables = omega (arith, c.in-Ok.ensures, c.len.ensures) in
    let signatures = c.in_ok-defs.ensures.signatures ∙ ap (λ xs. map definition_signature (map (definition_of number) xs)) c.as_slice.ensures in
    let bodies = c.in_ok-defs.ensures.bodies ∙ ap (λ xs. map body_of (map (definition_of number) xs)) c.as_slice.ensures in
    let variables = c.in_ok-vars.ensures ∙ c.as_slice-2.ensures in
    let goals = c.in_ok-wanted.ensures ∙ ap (λ xs. map goal_sought (map (sought_of number self.logic) xs)) c.as_slice-3.ensures in
    let assumptions = c.in_ok-assumptions.ensures ∙ ap (λ xs. map (expr_at c.in-Ok.outside) (map (phrase_of number) xs)) c.as_slice-4.ensures ∙ ap (λ n. map (expr_at n) (map (phrase_of number) self.assumptions)) outside in
    let constraints = c.in_ok-constraints.ensures ∙ ap (λ xs. map (condition_at c.in-Ok.outside) (map (condition_of number) xs)) c.as_slice-5.ensures ∙ ap (λ n. map (condition_at n) (map (condition_of number) self.constraints)) outside in
    λ i. record {
      signatures = signatures i;
      definitions = bodies i;
      variables = variables i;
      goals = goals i;
      assumptions = assumptions i;
      constraints = constraints i;
      pool = c.in_ok-pool.ensures i;
    }

pub all_wanted-requires-clause-fit : goal.all_wanted-requires-clause-fit
all_wanted-requires-clause-fit g c =
    let signatures = c.in_ok-defs.ensures.signatures ∙ ap (λ xs. map definition_signature (map (definition_of g.T.Theory.denotes) xs)) c.as_slice.ensures in
    rw (c.as_slice-3.ensures, signatures) c.requires.fit

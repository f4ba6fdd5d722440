use Rattle.std.proofs.Common.{◌∙◌, sym, ap, ◌≡◌, ◌∷◌, []}
use Rattle.std.specs.Prelude.{not, ◌++◌}
use Rattle.sy_terms.specs.Denoted.{val_of}
use Rattle.sy_meaning_core.proofs.Lists.{implied-then, implied-else}
use Rattle.sy_meaning_core.proofs.truths.implied.Goals as goal

pub returns-then-is_true : goal.returns-then-is_true
returns-then-is_true g c =
    let e : c.args.values.now ≡ c.in-Some.premises.now ++ c.in-Some.conclusion.now ∷ [] = c.in-Some.ensures.cases.0 in
    c.if-is_true.true ∙ implied-then (val_of g.N.Number.denotes) c.args.values.now c.in-Some.premises.now c.in-Some.conclusion.now e (sym c.is_true.ensures ∙ c.if-is_true.true)

pub returns-else-is_true : goal.returns-else-is_true
returns-else-is_true g c =
    let e : c.args.values.now ≡ c.in-Some.premises.now ++ c.in-Some.conclusion.now ∷ [] = c.in-Some.ensures.cases.0 in
    ap not c.all_true.ensures ∙ implied-else (val_of g.N.Number.denotes) c.args.values.now c.in-Some.premises.now c.in-Some.conclusion.now e (sym c.is_true.ensures ∙ c.if-is_true.false)

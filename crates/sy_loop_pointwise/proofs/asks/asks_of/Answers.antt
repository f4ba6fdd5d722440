use Rattle.std.proofs.Common.{◌∙◌, ap, sym, subst, length}
use Rattle.sy_terms.specs.Denoted.{val_of}
use Rattle.sy_terms.specs.Expr.{Invoke}
use Rattle.sy_loop_spec.specs.Applications.{applications, all_applications}
use Rattle.sy_loop_pointwise.specs.Denoted.{shape_of, shapes_of}
use Rattle.sy_loop_pointwise.specs.Shapes.{AreBelow, numbers_of, shaped, subterms, term_of, terms_of}
use Rattle.sy_loop_pointwise.specs.Asked.{AreApplications}
use Rattle.sy_loop_pointwise.proofs.Kept.{within_constant, within_variable, within_operator, within_defined}
use Rattle.sy_loop_pointwise.proofs.asks.asks_of.Goals as goal

pub asked_by-requires-clause-below : goal.asked_by-requires-clause-below
asked_by-requires-clause-below g c =
    subst (AreBelow (length c.args.asks.now)) (sym c.as_slice.ensures) (subst (λ s. AreBelow (length c.args.asks.now) (numbers_of (shape_of g.T.Theory.denotes s))) c.in-App.is c.requires.below)

pub asked_by-within-requires-clause-below : goal.asked_by-within-requires-clause-below
asked_by-within-requires-clause-below g c =
    subst (AreBelow (length c.args.asks.now)) (sym c.as_slice-in-Call.ensures) (subst (λ s. AreBelow (length c.args.asks.now) (numbers_of (shape_of g.T.Theory.denotes s))) c.in-Call.is c.requires.below)

pub returns-in-Const : goal.returns-in-Const
returns-in-Const g c =
    let number = g.T.Theory.denotes in
    let terms = subterms (shapes_of number c.args.shapes.now) in
    within_constant (term_of terms (length c.args.asks.now)) (val_of number c.in-Const.field-0) (c.requires.next ∙ ap (λ s. shaped terms (shape_of number s)) c.in-Const.is)

pub returns-in-Var : goal.returns-in-Var
returns-in-Var g c =
    let number = g.T.Theory.denotes in
    let terms = subterms (shapes_of number c.args.shapes.now) in
    within_variable (term_of terms (length c.args.asks.now)) c.in-Var.field-0 (c.requires.next ∙ ap (λ s. shaped terms (shape_of number s)) c.in-Var.is)

pub returns-in-App : goal.returns-in-App
returns-in-App g c =
    let number = g.T.Theory.denotes in
    let terms = subterms (shapes_of number c.args.shapes.now) in
    let asked = subst (λ ns. AreApplications terms (all_applications (terms_of terms ns)) c.asked_by.result) c.as_slice.ensures c.asked_by.ensures in
    within_operator terms (term_of terms (length c.args.asks.now)) c.in-App.field-0 (terms_of terms c.in-App.numbers) c.asked_by.result (c.requires.next ∙ ap (λ s. shaped terms (shape_of number s)) c.in-App.is) asked

pub returns-in-Defined : goal.returns-in-Defined
returns-in-Defined g c =
    let number = g.T.Theory.denotes in
    let terms = subterms (shapes_of number c.args.shapes.now) in
    let arguments = terms_of terms c.in-Call.numbers in
    let asked = subst (λ ns. AreApplications terms (all_applications (terms_of terms ns)) c.asked_by-within.result) c.as_slice-in-Call.ensures c.asked_by-within.ensures in
    let is = c.requires.next ∙ ap (λ s. shaped terms (shape_of number s)) c.in-Call.is ∙ ap (λ f. Invoke f arguments) c.in-Defined.is in
    within_defined terms (term_of terms (length c.args.asks.now)) c.in-Defined.field-0 arguments c.asked_by-within.result is asked

pub returns-in-Wanted : goal.returns-in-Wanted
returns-in-Wanted g c =
    let number = g.T.Theory.denotes in
    let terms = subterms (shapes_of number c.args.shapes.now) in
    let arguments = terms_of terms c.in-Call.numbers in
    let asked = subst (λ ns. AreApplications terms (all_applications (terms_of terms ns)) c.asked_by-within.result) c.as_slice-in-Call.ensures c.asked_by-within.ensures in
    let is = c.requires.next ∙ ap (λ s. shaped terms (shape_of number s)) c.in-Call.is ∙ ap (λ f. Invoke f arguments) c.in-Wanted.is in
    subst (λ e. AreApplications terms (applications e) c.applied.result) (sym is) (c.applied.ensures c.in-Wanted.field-0 arguments is asked)

use Rattle.std.proofs.Common.{[], ◌∷◌, ◌++◌, refl, ap, ◌∙◌}
use Rattle.std.proofs.lemmas.Result.{IfOk-from_err}
use Rattle.sy_terms.specs.Operators.{op_value}
use Rattle.sy_terms.specs.Denoted.{expr_of, exprs_of}
use Rattle.sy_terms.specs.Meaning.{meanings}
use Rattle.sy_terms.specs.Expr.{Exprs}
use Rattle.sy_meaning_words.specs.Vectors.{vector}
use Rattle.sy_query_normal.proofs.Terms.{application_stands, alone_stands}
use Rattle.sy_query_normal.proofs.parts.parts_of.Goals as goal

pub returns-in_ok-parts-in-Some : goal.returns-in_ok-parts-in-Some
returns-in_ok-parts-in-Some c = λ sort law values first.
    let same = c.in_ok-parts-in-Some.ensures ∙ ap (exprs_of vector) c.as_slice.ensures in
    ap (λ (list : Exprs). op_value c.args.operator (first ∷ meanings [] [] values list)) same
    ∙ application_stands vector sort c.args.operator law values (expr_of vector c.args.term.now) (exprs_of vector c.in-Some.arguments.now.items.items) c.in-Some.arguments.now.items.items c.in-Some.ensures.is refl c.in-Some.ensures.some first

pub returns-in_ok-push-in-None : goal.returns-in_ok-push-in-None
returns-in_ok-push-in-None c = λ sort law values first.
    alone_stands vector c.args.operator values first c.push.new.self.items c.in_ok-part-in-None.part (expr_of vector c.args.term.now)
    (c.in_ok-push-in-None.ensures.items ∙ ap (λ list. list ++ c.in_ok-part-in-None.part ∷ []) c.in_ok-parts-in-None.ensures.items) c.in_ok-part-in-None.ensures

pub returns-in_err-parts-in-Some : goal.returns-in_err-parts-in-Some
returns-in_err-parts-in-Some c = IfOk-from_err c.from_residual.result _ c.from_residual.ensures.0

pub returns-in_err-parts-in-None : goal.returns-in_err-parts-in-None
returns-in_err-parts-in-None c = IfOk-from_err c.from_residual-in_err-parts-in-None.result _ c.from_residual-in_err-parts-in-None.ensures.0

pub returns-in_err-part-in-None : goal.returns-in_err-part-in-None
returns-in_err-part-in-None c = IfOk-from_err c.from_residual-in_err-part-in-None.result _ c.from_residual-in_err-part-in-None.ensures.0

pub returns-in_err-push-in-None : goal.returns-in_err-push-in-None
returns-in_err-push-in-None c = IfOk-from_err c.from_residual-in_err-push-in-None.result _ c.from_residual-in_err-push-in-None.ensures.0

use Rattle.std.proofs.Common.{◌∷◌, arith, ap, sym}
use Rattle.std.proofs.lemmas.Result.{IfOk-from_err}
use Rattle.sy_terms.specs.Operators.{op_value}
use Rattle.sy_terms.specs.Denoted.{expr_of, exprs_of, expr_of-App}
use Rattle.sy_meaning_words.specs.Vectors.{vector}
use Rattle.sy_query_normal.proofs.Terms.{application_stands, none_stand, one_stands}
use Rattle.sy_query_normal.proofs.unordered.applied.Goals as goal

pub returns-then-parts-eq0 : goal.returns-then-parts-eq0
returns-then-parts-eq0 c = none_stand vector c.args.sort c.args.operator c.nothing.result c.args.parts.now (omega arith) c.nothing.ensures

pub returns-then-parts-eq1 : goal.returns-then-parts-eq1
returns-then-parts-eq1 c = λ law values first fits.
    ap (λ list. op_value c.args.operator (first ∷ list)) (one_stands vector values c.args.parts.now c.index-parts-0.result (expr_of vector c.in_ok-term.term) (omega arith) c.index-parts-0.is c.in_ok-term.ensures)

pub returns : goal.returns
returns c = λ law values first fits.
    sym (application_stands vector c.args.sort c.args.operator law values (expr_of vector _) (exprs_of vector c.in_ok-all.all.items.items) c.args.parts.now (expr_of-App vector c.args.operator c.in_ok-all.all) (sym c.in_ok-all.ensures) (omega arith) first)

pub returns-in_err-term : goal.returns-in_err-term
returns-in_err-term c = IfOk-from_err c.from_residual.result _ c.from_residual.ensures.0

pub returns-in_err-all : goal.returns-in_err-all
returns-in_err-all c = IfOk-from_err c.from_residual-in_err-all.result _ c.from_residual-in_err-all.ensures.0

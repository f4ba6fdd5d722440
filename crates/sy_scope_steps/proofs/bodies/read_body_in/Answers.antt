use Rattle.std.proofs.Common.{length, refl}
use Rattle.std.proofs.lemmas.Result.{err_from_is_err_and}
use Rattle.sy_text_items.specs.Views.{item_of}
use Rattle.sy_terms.specs.Denoted.{expr_of}
use Rattle.sy_forms_items.specs.declared.names.Role.TheVariants as role
use Rattle.sy_forms_items.specs.Meant.{phrase_of}
use Rattle.sy_forms_items.specs.Phrases.{expr_at}
use Rattle.sy_forms_items.proofs.Readings.{fails_bind}
use Rattle.sy_scope_steps.specs.Steps.{read_in}
use Rattle.sy_scope_steps.specs.Bodies.{body_in}
use Rattle.sy_scope_steps.specs.BodiesSeen.{context_around}
use Rattle.sy_scope_steps.proofs.Fitting.{serves, body_is, only_memory, fits_under}
use Rattle.sy_scope_steps.proofs.bodies.read_body_in.Goals as goal

pub read_phrase-requires : goal.read_phrase-requires
read_phrase-requires g c = serves c.args.logic g.T.Theory.owned g.T.Theory.numeric c.requires

pub returns-in_err-phrase-clause-read : goal.returns-in_err-phrase-clause-read
returns-in_err-phrase-clause-read g c =
    let p = err_from_is_err_and c.from_residual.result c.from_residual.ensures.1 in
    rw (p.1, p.2) (fails_bind c.in_err-phrase.field-0.0 (read_in (context_around c.args.around.now) c.args.logic role.Body c.args.arguments.now c.args.sort (item_of c.args.item.now)) _ c.in_err-phrase.ensures)

pub returns-in_err-term-clause-read : goal.returns-in_err-term-clause-read
returns-in_err-term-clause-read g c =
    let p = err_from_is_err_and c.from_residual-in_err-term.result c.from_residual-in_err-term.ensures.1 in
    rw (p.1, p.2) (only_memory c.in_err-term.field-0.0 (expr_at (length c.args.arguments.now) (phrase_of g.T.Theory.denotes c.in_ok-phrase.phrase)) (body_in (context_around c.args.around.now) c.args.logic c.args.arguments.now c.args.sort (item_of c.args.item.now)) c.in_err-term.ensures)

pub returns-clause-read : goal.returns-clause-read
returns-clause-read g c =
    body_is (context_around c.args.around.now) c.args.logic c.args.arguments.now c.args.sort (item_of c.args.item.now) (phrase_of g.T.Theory.denotes c.in_ok-phrase.phrase) (length c.args.arguments.now) (expr_of g.T.Theory.denotes c.in_ok-term.term)
    c.in_ok-phrase.ensures refl c.in_ok-term.ensures

pub returns-clause-fits : goal.returns-clause-fits
returns-clause-fits g c =
    fits_under c.args.logic g.T.Theory.owned g.T.Theory.numeric c.requires (context_around c.args.around.now) c.args.arguments.now c.args.sort (item_of c.args.item.now) (expr_of g.T.Theory.denotes c.in_ok-term.term)
    (body_is (context_around c.args.around.now) c.args.logic c.args.arguments.now c.args.sort (item_of c.args.item.now) (phrase_of g.T.Theory.denotes c.in_ok-phrase.phrase) (length c.args.arguments.now) (expr_of g.T.Theory.denotes c.in_ok-term.term)
    c.in_ok-phrase.ensures refl c.in_ok-term.ensures)

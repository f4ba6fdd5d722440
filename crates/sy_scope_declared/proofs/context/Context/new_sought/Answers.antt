use Rattle.std.proofs.Common.{◌∙◌, ap, sym, subst, arith}
use Rattle.std.proofs.lemmas.List.{length-map}
use Rattle.std.proofs.lemmas.Result.{err_from_is_err_and}
use Rattle.sy_scope_names.specs.Contexts.{new_name}
use Rattle.sy_scope_declared.specs.Seen.{context_of, sought_of}
use Rattle.sy_scope_declared.proofs.Names.{sought_fails, sought_full}
use Rattle.sy_forms_items.specs.Readings.{ReadingFails}
use Rattle.sy_scope_declared.proofs.context.Context.new_sought.Goals as goal

pub returns-in_err-new_name-clause-name : goal.returns-in_err-new_name-clause-name
returns-in_err-new_name-clause-name g c =
    let p = err_from_is_err_and c.from_residual.result c.from_residual.ensures.1 in
    let context = context_of g.T.Theory.denotes c.args.self.now in
    let same = subst (λ n. ReadingFails c.in_err-new_name.field-0.0 (new_name context c.args.self.now.logic c.args.name.place n)) c.as_slice-bytes.ensures c.in_err-new_name.ensures.name in
    rw (p.1, p.2) (sought_fails context c.args.self.now.logic c.args.name.place c.args.name.name.now c.in_err-new_name.field-0.0 same)

pub returns-else-len-lt-SOUGHT_MAX-clause-name : goal.returns-else-len-lt-SOUGHT_MAX-clause-name
returns-else-len-lt-SOUGHT_MAX-clause-name g c =
    let context = context_of g.T.Theory.denotes c.args.self.now in
    let is = ap (λ n. new_name context c.args.self.now.logic c.args.name.place n) (sym c.as_slice-bytes.ensures) ∙ c.in_ok-new_name.ensures.name in
    let count = length-map c.args.self.now.sought (sought_of g.T.Theory.denotes c.args.self.now.logic) in
    sought_full context c.args.self.now.logic c.args.name.place c.args.name.name.now _ is (omega (arith, c.if-len-lt-SOUGHT_MAX.false, c.len.ensures, count))

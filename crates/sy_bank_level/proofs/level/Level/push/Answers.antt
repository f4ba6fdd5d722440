use Rattle.std.proofs.Common.{◌<◌, length, arith, refl, ap, ◌∙◌}
use Rattle.std.proofs.lemmas.List.{length-map}
use Rattle.std.proofs.lemmas.Result.{err_from_is_err_and}
use Rattle.std.proofs.lemmas.Result.{IfOk-from_err}
use Rattle.sy_bank_level.specs.Stored.{entry_of, entries_of}
use Rattle.sy_bank_level.proofs.Hashes.{pushed-view, mapped-last, set-same}
use Rattle.sy_bank_level.proofs.level.Level.push.Goals as goal

pub returns-clause-ok : goal.returns-clause-ok
returns-clause-ok g c =
    let number = g.T.Theory.denotes in
    let within : c.args.nonterminal < length c.args.self.now.lists.items = omega (arith, c.requires, length-map c.args.self.now.lists.items (entries_of number)) in
    pushed-view (entries_of number) c.args.self.now.lists.items c.args.nonterminal c.push.new.self c.index_mut.result.now (entry_of number c.args.kept) within c.index_mut.ensures.value
    (ap (entries_of number) c.in_ok-push.ensures.ok ∙ mapped-last (entry_of number) c.index_mut.result.now c.args.kept)

pub index_mut-requires : goal.index_mut-requires
index_mut-requires g c = omega (arith, c.requires, length-map c.args.self.now.lists.items (entries_of g.T.Theory.denotes))

pub returns-in_err-push-clause-err : goal.returns-in_err-push-clause-err
returns-in_err-push-clause-err g c =
    let p = err_from_is_err_and c.from_residual.result c.from_residual.ensures.1 in
    rw p.1 (rw (c.in_err-push.ensures.err, set-same c.args.self.now.lists.items c.args.nonterminal c.index_mut.result.now c.index_mut.ensures.value) refl)

pub returns-in_err-push-clause-ok : goal.returns-in_err-push-clause-ok
returns-in_err-push-clause-ok g c = IfOk-from_err c.from_residual.result _ c.from_residual.ensures.0

use Rattle.std.proofs.Common.{◌∙◌, ap}
use Rattle.std.proofs.Math.Seq.{take-append_seam}
use Rattle.std.proofs.lemmas.Result.{IfOk-from_err}
use Rattle.sy_terms.specs.Denoted.{exprs_of}
use Rattle.sy_rewrite_orders.proofs.Replaced as law
use Rattle.sy_rewrite_orders.proofs.written.name_all.Goals as goal

pub returns-then-stand-clause-kept : goal.returns-then-stand-clause-kept
returns-then-stand-clause-kept g c = rw (c.in_ok-append.ensures.items) (take-append_seam c.args.names.now.items c.in_ok-copies.copies.items)

pub returns-then-stand-clause-plain : goal.returns-then-stand-clause-plain
returns-then-stand-clause-plain g c =
    rw (c.in_ok-append.ensures.items) (law.plain_put g.T.Theory.denotes c.args.count c.args.names.now.items c.in_ok-copies.copies.items c.args.bound.now c.requires.names c.in_ok-copies.ensures (c.requires.bound c.if-stand.true))

pub returns-then-stand-clause-named : goal.returns-then-stand-clause-named
returns-then-stand-clause-named g c =
    rw (c.in_ok-append.ensures.items, c.if-stand.true) (λ terms found inner are is. law.let_put g.T.Theory.denotes c.args.count c.args.names.now.items c.in_ok-copies.copies.items _ _ _ _ c.in_ok-copies.ensures are is)

pub returns-clause-counted : goal.returns-clause-counted
returns-clause-counted g c = c.in_ok-many.ensures.1

pub returns-clause-kept : goal.returns-clause-kept
returns-clause-kept g c = rw (c.in_ok-append-2.ensures.items) (take-append_seam c.args.names.now.items c.in_ok-next.next.items)

pub returns-clause-plain : goal.returns-clause-plain
returns-clause-plain g c =
    rw (c.in_ok-append-2.ensures.items) (law.plain_kept g.T.Theory.denotes c.args.count c.in_ok-many.many c.args.names.now.items c.in_ok-next.next.items c.requires.names c.in_ok-next.ensures.plain)

pub returns-clause-named : goal.returns-clause-named
returns-clause-named g c =
    rw (c.in_ok-append-2.ensures.items, c.if-stand.false)
    (λ terms found inner are is. law.let_kept g.T.Theory.denotes c.args.count c.in_ok-many.many c.args.names.now.items c.in_ok-next.next.items c.args.bound.now _ _ _ c.requires.names c.in_ok-many.ensures.0 c.in_ok-next.ensures.next are is)

pub returns-in_err-copies-clause-counted : goal.returns-in_err-copies-clause-counted
returns-in_err-copies-clause-counted g c = IfOk-from_err c.from_residual.result _ c.from_residual.ensures.0

pub returns-in_err-copies-clause-kept : goal.returns-in_err-copies-clause-kept
returns-in_err-copies-clause-kept g c = IfOk-from_err c.from_residual.result _ c.from_residual.ensures.0

pub returns-in_err-copies-clause-plain : goal.returns-in_err-copies-clause-plain
returns-in_err-copies-clause-plain g c = IfOk-from_err c.from_residual.result _ c.from_residual.ensures.0

pub returns-in_err-copies-clause-named : goal.returns-in_err-copies-clause-named
returns-in_err-copies-clause-named g c = IfOk-from_err c.from_residual.result _ c.from_residual.ensures.0

pub returns-in_err-append-clause-counted : goal.returns-in_err-append-clause-counted
returns-in_err-append-clause-counted g c = IfOk-from_err c.from_residual-in_err-append.result _ c.from_residual-in_err-append.ensures.0

pub returns-in_err-append-clause-kept : goal.returns-in_err-append-clause-kept
returns-in_err-append-clause-kept g c = IfOk-from_err c.from_residual-in_err-append.result _ c.from_residual-in_err-append.ensures.0

pub returns-in_err-append-clause-plain : goal.returns-in_err-append-clause-plain
returns-in_err-append-clause-plain g c = IfOk-from_err c.from_residual-in_err-append.result _ c.from_residual-in_err-append.ensures.0

pub returns-in_err-append-clause-named : goal.returns-in_err-append-clause-named
returns-in_err-append-clause-named g c = IfOk-from_err c.from_residual-in_err-append.result _ c.from_residual-in_err-append.ensures.0

pub returns-in_err-many-clause-counted : goal.returns-in_err-many-clause-counted
returns-in_err-many-clause-counted g c = IfOk-from_err c.from_residual-in_err-many.result _ c.from_residual-in_err-many.ensures.0

pub returns-in_err-many-clause-kept : goal.returns-in_err-many-clause-kept
returns-in_err-many-clause-kept g c = IfOk-from_err c.from_residual-in_err-many.result _ c.from_residual-in_err-many.ensures.0

pub returns-in_err-many-clause-plain : goal.returns-in_err-many-clause-plain
returns-in_err-many-clause-plain g c = IfOk-from_err c.from_residual-in_err-many.result _ c.from_residual-in_err-many.ensures.0

pub returns-in_err-many-clause-named : goal.returns-in_err-many-clause-named
returns-in_err-many-clause-named g c = IfOk-from_err c.from_residual-in_err-many.result _ c.from_residual-in_err-many.ensures.0

pub returns-in_err-next-clause-counted : goal.returns-in_err-next-clause-counted
returns-in_err-next-clause-counted g c = IfOk-from_err c.from_residual-in_err-next.result _ c.from_residual-in_err-next.ensures.0

pub returns-in_err-next-clause-kept : goal.returns-in_err-next-clause-kept
returns-in_err-next-clause-kept g c = IfOk-from_err c.from_residual-in_err-next.result _ c.from_residual-in_err-next.ensures.0

pub returns-in_err-next-clause-plain : goal.returns-in_err-next-clause-plain
returns-in_err-next-clause-plain g c = IfOk-from_err c.from_residual-in_err-next.result _ c.from_residual-in_err-next.ensures.0

pub returns-in_err-next-clause-named : goal.returns-in_err-next-clause-named
returns-in_err-next-clause-named g c = IfOk-from_err c.from_residual-in_err-next.result _ c.from_residual-in_err-next.ensures.0

pub returns-in_err-append-2-clause-counted : goal.returns-in_err-append-2-clause-counted
returns-in_err-append-2-clause-counted g c = IfOk-from_err c.from_residual-in_err-append-2.result _ c.from_residual-in_err-append-2.ensures.0

pub returns-in_err-append-2-clause-kept : goal.returns-in_err-append-2-clause-kept
returns-in_err-append-2-clause-kept g c = IfOk-from_err c.from_residual-in_err-append-2.result _ c.from_residual-in_err-append-2.ensures.0

pub returns-in_err-append-2-clause-plain : goal.returns-in_err-append-2-clause-plain
returns-in_err-append-2-clause-plain g c = IfOk-from_err c.from_residual-in_err-append-2.result _ c.from_residual-in_err-append-2.ensures.0

pub returns-in_err-append-2-clause-named : goal.returns-in_err-append-2-clause-named
returns-in_err-append-2-clause-named g c = IfOk-from_err c.from_residual-in_err-append-2.result _ c.from_residual-in_err-append-2.ensures.0

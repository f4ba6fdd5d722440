use Rattle.std.proofs.Common.{◌∙◌, sym}
use Rattle.sy_terms.specs.Definitions.{signature}
use Rattle.sy_meaning.specs.Signatures.{declared_signature}
use Rattle.sy_meaning.proofs.Sorts.{called-past, called-within}
use Rattle.sy_meaning.proofs.fitting.function_sort.Goals as goal

pub returns-in_err-def-in-Defined : goal.returns-in_err-def-in-Defined
returns-in_err-def-in-Defined g c =
    c.from_residual.ensures ∙ sym (rw c.in-Defined.is (called-past signature c.args.defs.now c.in-Defined.number c.args.sorts.now c.in_err-def-in-Defined.ensures.lookup.3))

pub returns-in_err-signature-in-Wanted : goal.returns-in_err-signature-in-Wanted
returns-in_err-signature-in-Wanted g c =
    c.from_residual-in_err-signature-in-Wanted.ensures ∙ sym (rw c.in-Wanted.is (called-past declared_signature c.args.wanted.now c.in-Wanted.number c.args.sorts.now c.in_err-signature-in-Wanted.ensures.lookup.3))

pub returns-in_ok-def-in-Defined : goal.returns-in_ok-def-in-Defined
returns-in_ok-def-in-Defined g c =
    let found = c.in_ok-def-in-Defined.ensures.lookup in
    let given = rw c.as_slice.ensures at c.given.ensures in
    rw given (sym (rw c.in-Defined.is (called-within signature c.args.defs.now c.in-Defined.number c.in_ok-def-in-Defined.def.now c.args.sorts.now found.3.0 found.1)))

pub returns-in_ok-signature-in-Wanted : goal.returns-in_ok-signature-in-Wanted
returns-in_ok-signature-in-Wanted g c =
    let found = c.in_ok-signature-in-Wanted.ensures.lookup in
    let given = rw c.as_slice-in-Wanted.ensures at c.given-in-Wanted.ensures in
    rw given (sym (rw c.in-Wanted.is (called-within declared_signature c.args.wanted.now c.in-Wanted.number c.in_ok-signature-in-Wanted.signature.now c.args.sorts.now found.3.0 found.1)))

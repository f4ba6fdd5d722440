use Rattle.std.proofs.Common.{◌≤◌, ◌∙◌, [], ◌∷◌, ap, sym, arith, length, map, subst, refl}
use Rattle.std.proofs.lemmas.List.{length-map, take_all}
use Rattle.std.proofs.lemmas.Result.{IfOk-from_err}
use Rattle.sy_terms.specs.Expr.{Apply}
use Rattle.sy_terms.specs.Denoted.{val_of, vals_of}
use Rattle.sy_terms.specs.Meaning.{functions}
use Rattle.sy_terms.specs.Definitions.{scope_of, bodies}
use Rattle.sy_terms.specs.declared.term.Fun.TheVariants.{Defined}
use Rattle.sy_grammar_base.specs.Patterns.{all_occurring, all_filled}
use Rattle.sy_grammar_base.specs.Written.{patterns_of, pattern_of-Non, pattern_of-App, pattern_of-Call}
use Rattle.sy_bank_level.specs.Rows.{IsLostAt}
use Rattle.sy_bank_level.specs.Columns.{AreSized, FitsAt, HasRow, HaveRows}
use Rattle.sy_bank_level.specs.Covering.{terms}
use Rattle.sy_bank_columns.specs.Lent.{row_values}
use Rattle.sy_bank_columns.specs.declared.ends.RowEnd.TheVariants.{Want}
use Rattle.sy_bank_level.specs.Stored.{chosen_of}
use Rattle.sy_bank_columns.specs.Found.{IsColumnOf}
use Rattle.sy_bank_columns.proofs.Pieces.{apply-owned, rows-none, rows-from, part-fits, part-lost, rows-next}
use Rattle.sy_bank_columns.proofs.Paired.{pair-items, pair-used, pair-rows, pair-sorted, pair-applied, pair-lost, row-long}
use Rattle.sy_bank_columns.proofs.Weights.{all_weight, app-falls, call-falls, part-falls}
use Rattle.sy_bank_columns.proofs.Forms.{constant-part, position-within, variable-part, place-part, apply-part-fit, call-part-fit, apply-part, call-part, apply-arguments, apply-sorted, apply-row, apply-lost, apply-lost-argument, call-arguments, call-lost-argument, call-fits, call-row, call-lost, handed_on, lost_then}
use Rattle.sy_bank_level.proofs.Fillings.{occurring-next, all_filled-none}
use Rattle.sy_bank_columns.proofs.Fillings.{enough-left}
use Rattle.sy_bank_columns.proofs.rows.+row.Goals as goal

pub part_row-returns-in_ok-row-in-Const-clause-ok : goal.part_row-returns-in_ok-row-in-Const-clause-ok
part_row-returns-in_ok-row-in-Const-clause-ok g t c =
    constant-part g.T.Theory.denotes (scope_of g.T.Theory.owned c.args.defs.now) (functions (bodies g.T.Theory.denotes c.args.defs.now)) c.args.points.now c.args.part.now c.in-Const.value (terms (chosen_of g.T.Theory.denotes c.args.chosen.now)) c.in_ok-row-in-Const.row.items c.in-Const.is c.requires.fits c.in_ok-row-in-Const.ensures

pub part_row-argument_row-requires : goal.part_row-argument_row-requires
part_row-argument_row-requires g t c =
    position-within g.T.Theory.denotes (scope_of g.T.Theory.owned c.args.defs.now) c.args.points.now c.args.part.now c.in-Var.position (terms (chosen_of g.T.Theory.denotes c.args.chosen.now)) c.in-Var.is c.requires.fits

pub part_row-returns-in_ok-row-in-Var-clause-ok : goal.part_row-returns-in_ok-row-in-Var-clause-ok
part_row-returns-in_ok-row-in-Var-clause-ok g t c =
    variable-part g.T.Theory.denotes (scope_of g.T.Theory.owned c.args.defs.now) (functions (bodies g.T.Theory.denotes c.args.defs.now)) c.args.points.now c.args.part.now c.in-Var.position (terms (chosen_of g.T.Theory.denotes c.args.chosen.now)) c.in_ok-row-in-Var.row.items c.in-Var.is c.requires.points c.requires.fits c.in_ok-row-in-Var.ensures

pub part_row-bounds-chosen-0 : goal.part_row-bounds-chosen-0
part_row-bounds-chosen-0 g t c = let enough = rw (c.in-Non.is, pattern_of-Non) at c.requires.enough in omega (arith, enough)

pub part_row-returns-in-Non-clause-ok : goal.part_row-returns-in-Non-clause-ok
part_row-returns-in-Non-clause-ok g t c =
    let enough = rw (c.in-Non.is, pattern_of-Non) at c.requires.enough in
    place-part g.T.Theory.denotes (scope_of g.T.Theory.owned c.args.defs.now) (functions (bodies g.T.Theory.denotes c.args.defs.now)) (map (vals_of g.T.Theory.denotes) c.args.points.now) c.args.part.now c.in-Non.field-0 c.args.chosen.now c.index-chosen-0.result c.as_slice.result.now c.in-Non.is c.requires.rows (omega (arith, enough)) c.as_slice.ensures

pub part_row-part_rows-requires : goal.part_row-part_rows-requires
part_row-part_rows-requires g t c κs within =
    let number = g.T.Theory.denotes in
    let scope = scope_of g.T.Theory.owned c.args.defs.now in
    let points = map (vals_of number) c.args.points.now in
    let ts = terms (chosen_of number c.args.chosen.now) in (
      omega (arith, app-falls number c.args.part.now c.in-App.operator c.in-App.parts c.in-App.is, c.decreases),
      (
        within.0,
        (
          within.1,
          (
            c.requires.definitions,
            (
              c.requires.points,
              (
                c.requires.rows,
                (
                  rw (c.in-App.is, pattern_of-App) at c.requires.enough,
                  apply-arguments scope points c.in-App.operator (all_filled (patterns_of number c.in-App.parts.items.items) ts) (apply-part-fit number scope points c.args.part.now c.in-App.operator c.in-App.parts ts c.in-App.is c.requires.fits),
                ),
              ),
            ),
          ),
        ),
      ),
    )

pub part_row-applied_row-requires-clause-owned : goal.part_row-applied_row-requires-clause-owned
part_row-applied_row-requires-clause-owned g t c =
    let number = g.T.Theory.denotes in
    let scope = scope_of g.T.Theory.owned c.args.defs.now in
    let points = map (vals_of number) c.args.points.now in
    let ts = terms (chosen_of number c.args.chosen.now) in
    λ k within. apply-owned scope points c.in-App.operator (all_filled (patterns_of number c.in-App.parts.items.items) ts) (apply-part-fit number scope points c.args.part.now c.in-App.operator c.in-App.parts ts c.in-App.is c.requires.fits) k (omega (arith, within, length-map c.args.points.now (vals_of number)))

pub part_row-applied_row-requires-clause-sized : goal.part_row-applied_row-requires-clause-sized
part_row-applied_row-requires-clause-sized g t c =
    let number = g.T.Theory.denotes in
    let have : AreSized (length (map (vals_of number) c.args.points.now)) (map (λ row. vals_of number (row_values row)) c.as_slice-in-Ok.result.now) = rw c.as_slice-in-Ok.ensures.value c.in-Ok.ensures.ok.sized in
    subst (λ n. AreSized n (map (λ row. vals_of number (row_values row)) c.as_slice-in-Ok.result.now)) (length-map c.args.points.now (vals_of number)) have

pub part_row-applied_row-requires-clause-sorted : goal.part_row-applied_row-requires-clause-sorted
part_row-applied_row-requires-clause-sorted g t c =
    let number = g.T.Theory.denotes in
    let scope = scope_of g.T.Theory.owned c.args.defs.now in
    let defined = functions (bodies number c.args.defs.now) in
    let points = map (vals_of number) c.args.points.now in
    let ts = terms (chosen_of number c.args.chosen.now) in
    let arguments = all_filled (patterns_of number c.in-App.parts.items.items) ts in
    let fit = apply-part-fit number scope points c.args.part.now c.in-App.operator c.in-App.parts ts c.in-App.is c.requires.fits in
    λ k within. rw c.as_slice-in-Ok.ensures.value (apply-sorted scope defined points c.in-App.operator arguments (map (λ row. vals_of number (row_values row)) c.in-Ok.rows.items) fit c.in-Ok.ensures.ok k (omega (arith, within, length-map c.args.points.now (vals_of number))))

pub part_row-returns-in_ok-row-in-Ok-clause-ok : goal.part_row-returns-in_ok-row-in-Ok-clause-ok
part_row-returns-in_ok-row-in-Ok-clause-ok g t c =
    let number = g.T.Theory.denotes in
    let scope = scope_of g.T.Theory.owned c.args.defs.now in
    let defined = functions (bodies number c.args.defs.now) in
    let points = map (vals_of number) c.args.points.now in
    let ts = terms (chosen_of number c.args.chosen.now) in
    let arguments = all_filled (patterns_of number c.in-App.parts.items.items) ts in
    let rows = map (λ row. vals_of number (row_values row)) c.in-Ok.rows.items in
    let fit = apply-part-fit number scope points c.args.part.now c.in-App.operator c.in-App.parts ts c.in-App.is c.requires.fits in
    let found = vals_of number c.in_ok-row-in-Ok.row.items in
    apply-part number c.args.part.now c.in-App.operator c.in-App.parts ts (λ term. HasRow scope defined points term found) c.in-App.is
    (apply-row scope defined points c.in-App.operator arguments rows found fit c.in-Ok.ensures.ok
    (subst (λ n. IsColumnOf c.in-App.operator rows n found) (sym (length-map c.args.points.now (vals_of number))) (rw c.as_slice-in-Ok.ensures.value at c.in_ok-row-in-Ok.ensures.ok)))

pub part_row-returns-in_err-row-in-Ok-clause-lost : goal.part_row-returns-in_err-row-in-Ok-clause-lost
part_row-returns-in_err-row-in-Ok-clause-lost g t c =
    let number = g.T.Theory.denotes in
    let scope = scope_of g.T.Theory.owned c.args.defs.now in
    let defined = functions (bodies number c.args.defs.now) in
    let points = map (vals_of number) c.args.points.now in
    let ts = terms (chosen_of number c.args.chosen.now) in
    let arguments = all_filled (patterns_of number c.in-App.parts.items.items) ts in
    let rows = map (λ row. vals_of number (row_values row)) c.in-Ok.rows.items in
    let end = c.in_err-row-in-Ok.field-0.0 in
    handed_on _ c.from_residual-in_err-row-in-Ok.result end c.from_residual-in_err-row-in-Ok.ensures.1
    (lost_then end (rw c.as_slice-in-Ok.ensures.value at c.in_err-row-in-Ok.ensures.lost) (λ k it.
    apply-part number c.args.part.now c.in-App.operator c.in-App.parts ts (λ term. IsLostAt defined points term k) c.in-App.is
    (apply-lost scope defined points c.in-App.operator arguments rows k c.in-Ok.ensures.ok (let below = it.0 in omega (arith, below, length-map c.args.points.now (vals_of number)), it.1))))

pub part_row-returns-in-Err-clause-lost : goal.part_row-returns-in-Err-clause-lost
part_row-returns-in-Err-clause-lost g t c =
    let number = g.T.Theory.denotes in
    let defined = functions (bodies number c.args.defs.now) in
    let points = map (vals_of number) c.args.points.now in
    let ts = terms (chosen_of number c.args.chosen.now) in
    lost_then c.in-Err.end c.in-Err.ensures.lost (λ k it.
    apply-part number c.args.part.now c.in-App.operator c.in-App.parts ts (λ term. IsLostAt defined points term k) c.in-App.is
    (apply-lost-argument defined points c.in-App.operator (all_filled (patterns_of number c.in-App.parts.items.items) ts) k it))

pub part_row-part_rows-requires-in-Call : goal.part_row-part_rows-requires-in-Call
part_row-part_rows-requires-in-Call g t c κs within =
    let number = g.T.Theory.denotes in
    let scope = scope_of g.T.Theory.owned c.args.defs.now in
    let points = map (vals_of number) c.args.points.now in
    let ts = terms (chosen_of number c.args.chosen.now) in (
      omega (arith, call-falls number c.args.part.now c.in-Call.definition c.in-Call.parts c.in-Call.is, c.decreases),
      (
        within.0,
        (
          within.1,
          (
            c.requires.definitions,
            (
              c.requires.points,
              (
                c.requires.rows,
                (
                  rw (c.in-Call.is, pattern_of-Call) at c.requires.enough,
                  call-arguments scope points (Defined c.in-Call.definition) (all_filled (patterns_of number c.in-Call.parts.items.items) ts) (call-part-fit number scope points c.args.part.now c.in-Call.definition c.in-Call.parts ts c.in-Call.is c.requires.fits),
                ),
              ),
            ),
          ),
        ),
      ),
    )

pub part_row-called_row-requires-clause-sized : goal.part_row-called_row-requires-clause-sized
part_row-called_row-requires-clause-sized g t c =
    let number = g.T.Theory.denotes in
    let have : AreSized (length (map (vals_of number) c.args.points.now)) (map (λ row. vals_of number (row_values row)) c.as_slice-in-Ok-part_rows.result.now) = rw c.as_slice-in-Ok-part_rows.ensures.value c.in-Ok-part_rows.ensures.ok.sized in
    subst (λ n. AreSized n (map (λ row. vals_of number (row_values row)) c.as_slice-in-Ok-part_rows.result.now)) (length-map c.args.points.now (vals_of number)) have

pub part_row-called_row-requires-clause-fit : goal.part_row-called_row-requires-clause-fit
part_row-called_row-requires-clause-fit g t c =
    let number = g.T.Theory.denotes in
    let scope = scope_of g.T.Theory.owned c.args.defs.now in
    let points = map (vals_of number) c.args.points.now in
    let ts = terms (chosen_of number c.args.chosen.now) in
    let arguments = all_filled (patterns_of number c.in-Call.parts.items.items) ts in
    let fit = call-part-fit number scope points c.args.part.now c.in-Call.definition c.in-Call.parts ts c.in-Call.is c.requires.fits in
    λ k within. rw c.as_slice-in-Ok-part_rows.ensures.value (call-fits g.T.Theory.owned number c.args.defs.now points (Defined c.in-Call.definition) arguments (map (λ row. vals_of number (row_values row)) c.in-Ok-part_rows.rows.items) fit c.in-Ok-part_rows.ensures.ok k (omega (arith, within, length-map c.args.points.now (vals_of number))))

pub part_row-returns-in_ok-row-in-Ok-part_rows-clause-ok : goal.part_row-returns-in_ok-row-in-Ok-part_rows-clause-ok
part_row-returns-in_ok-row-in-Ok-part_rows-clause-ok g t c =
    let number = g.T.Theory.denotes in
    let scope = scope_of g.T.Theory.owned c.args.defs.now in
    let points = map (vals_of number) c.args.points.now in
    let defined = functions (bodies number c.args.defs.now) in
    let ts = terms (chosen_of number c.args.chosen.now) in
    let arguments = all_filled (patterns_of number c.in-Call.parts.items.items) ts in
    let rows = map (λ row. vals_of number (row_values row)) c.in-Ok-part_rows.rows.items in
    let fit = call-part-fit number scope points c.args.part.now c.in-Call.definition c.in-Call.parts ts c.in-Call.is c.requires.fits in
    let found = c.in_ok-row-in-Ok-part_rows.row.items in
    let gives = rw c.as_slice-in-Ok-part_rows.ensures.value at c.in_ok-row-in-Ok-part_rows.ensures.ok in
    call-part number c.args.part.now c.in-Call.definition c.in-Call.parts ts (λ term. HasRow scope defined points term (vals_of number found)) c.in-Call.is
    (call-row g.T.Theory.owned number c.args.defs.now points (Defined c.in-Call.definition) arguments rows (vals_of number found) fit c.in-Ok-part_rows.ensures.ok
    (length-map found (val_of number) ∙ c.in_ok-row-in-Ok-part_rows.ensures.sized ∙ sym (length-map c.args.points.now (vals_of number)))
    (λ k within. gives k (omega (arith, within, length-map c.args.points.now (vals_of number)))))

pub part_row-returns-in_err-row-in-Ok-part_rows-clause-lost : goal.part_row-returns-in_err-row-in-Ok-part_rows-clause-lost
part_row-returns-in_err-row-in-Ok-part_rows-clause-lost g t c =
    let number = g.T.Theory.denotes in
    let defined = functions (bodies number c.args.defs.now) in
    let points = map (vals_of number) c.args.points.now in
    let ts = terms (chosen_of number c.args.chosen.now) in
    let arguments = all_filled (patterns_of number c.in-Call.parts.items.items) ts in
    let rows = map (λ row. vals_of number (row_values row)) c.in-Ok-part_rows.rows.items in
    let end = c.in_err-row-in-Ok-part_rows.field-0.0 in
    handed_on _ c.from_residual-in_err-row-in-Ok-part_rows.result end c.from_residual-in_err-row-in-Ok-part_rows.ensures.1
    (lost_then end (rw c.as_slice-in-Ok-part_rows.ensures.value at c.in_err-row-in-Ok-part_rows.ensures.lost) (λ k it.
    call-part number c.args.part.now c.in-Call.definition c.in-Call.parts ts (λ term. IsLostAt defined points term k) c.in-Call.is
    (call-lost g.T.Theory.owned number c.args.defs.now points (Defined c.in-Call.definition) arguments rows k c.in-Ok-part_rows.ensures.ok (let below = it.0 in omega (arith, below, length-map c.args.points.now (vals_of number)), it.1))))

pub part_row-returns-in-Err-part_rows-clause-lost : goal.part_row-returns-in-Err-part_rows-clause-lost
part_row-returns-in-Err-part_rows-clause-lost g t c =
    let number = g.T.Theory.denotes in
    let defined = functions (bodies number c.args.defs.now) in
    let points = map (vals_of number) c.args.points.now in
    let ts = terms (chosen_of number c.args.chosen.now) in
    lost_then c.in-Err-part_rows.end c.in-Err-part_rows.ensures.lost (λ k it.
    call-part number c.args.part.now c.in-Call.definition c.in-Call.parts ts (λ term. IsLostAt defined points term k) c.in-Call.is
    (call-lost-argument defined points (Defined c.in-Call.definition) (all_filled (patterns_of number c.in-Call.parts.items.items) ts) k it))

pub part_rows-loop-part-init : goal.part_rows-loop-part-init
part_rows-loop-part-init g t c =
    let number = g.T.Theory.denotes in
    record {
      used_is = refl;
      rows = rw (c.in_ok-rows.ensures.items, all_filled-none) (rows-none number (scope_of g.T.Theory.owned c.args.defs.now) (functions (bodies number c.args.defs.now)) (map (vals_of number) c.args.points.now));
    }

pub part_rows-split_at-requires : goal.part_rows-split_at-requires
part_rows-split_at-requires g t c =
    let parts = c.as_slice-part-items.result.now in
    let enough : length (all_occurring (patterns_of g.T.Theory.denotes parts)) ≤ length c.args.chosen.now = rw c.as_slice-part-items.ensures c.requires.enough in
    omega (arith, enough-left g.T.Theory.denotes parts c.loop-part.part-index c.part-item.result c.loop-part.used (length c.args.chosen.now) c.loop-part-test.true c.part-item.is c.loop-part.invariant.used_is enough)

pub part_rows-part_row-requires : goal.part_rows-part_row-requires
part_rows-part_row-requires g t c κs within =
    let number = g.T.Theory.denotes in
    let scope = scope_of g.T.Theory.owned c.args.defs.now in
    let defined = functions (bodies number c.args.defs.now) in
    let points = map (vals_of number) c.args.points.now in
    let parts = c.as_slice-part-items.result.now in
    let i = c.loop-part.part-index in
    let used = c.loop-part.used in
    let enough : length (all_occurring (patterns_of number parts)) ≤ length c.args.chosen.now = rw c.as_slice-part-items.ensures c.requires.enough in
    let falls = part-falls number parts i c.part-item.result c.loop-part-test.true c.part-item.is in
    let same = ap (λ items. all_weight (patterns_of number items)) c.as_slice-part-items.ensures in (
      omega (arith, falls, same, c.decreases),
      (
        within.0,
        (
          within.1,
          (
            c.requires.definitions,
            (
              c.requires.points,
              (
                rw c.split_at.ensures.back (rows-from number scope defined points used c.args.chosen.now c.requires.rows),
                (
                  omega (arith, c.split_at.ensures.back_len, enough-left number parts i c.part-item.result used (length c.args.chosen.now) c.loop-part-test.true c.part-item.is c.loop-part.invariant.used_is enough),
                  part-fits number scope points parts i c.part-item.result c.args.chosen.now c.split_at.result.1.now used c.loop-part-test.true c.part-item.is c.loop-part.invariant.used_is c.split_at.ensures.back (rw c.as_slice-part-items.ensures c.requires.fit),
                ),
              ),
            ),
          ),
        ),
      ),
    )

pub part_rows-returns-in-Err-clause-lost : goal.part_rows-returns-in-Err-clause-lost
part_rows-returns-in-Err-clause-lost g t c =
    let number = g.T.Theory.denotes in
    let defined = functions (bodies number c.args.defs.now) in
    let points = map (vals_of number) c.args.points.now in
    let parts = c.as_slice-part-items.result.now in
    lost_then c.in-Err.end c.in-Err.ensures.lost (λ k it.
    rw (← c.as_slice-part-items.ensures) (part-lost number defined points parts c.loop-part.part-index c.part-item.result c.args.chosen.now c.split_at.result.1.now c.loop-part.used c.loop-part-test.true c.part-item.is c.loop-part.invariant.used_is c.split_at.ensures.back k it))

pub part_rows-loop-part-preserved : goal.part_rows-loop-part-preserved
part_rows-loop-part-preserved g t c =
    let number = g.T.Theory.denotes in
    let scope = scope_of g.T.Theory.owned c.args.defs.now in
    let defined = functions (bodies number c.args.defs.now) in
    let points = map (vals_of number) c.args.points.now in
    let parts = c.as_slice-part-items.result.now in
    let i = c.loop-part.part-index in
    let used = c.loop-part.used in
    let enough : length (all_occurring (patterns_of number parts)) ≤ length c.args.chosen.now = rw c.as_slice-part-items.ensures c.requires.enough in
    record {
      used_is = omega (arith, c.places-used.ensures, occurring-next number parts i c.part-item.result c.loop-part-test.true c.part-item.is, c.loop-part.invariant.used_is, enough-left number parts i c.part-item.result used (length c.args.chosen.now) c.loop-part-test.true c.part-item.is c.loop-part.invariant.used_is enough);
      rows = rw c.in_ok-push-in-Ok.ensures.items (rows-next number scope defined points parts i c.part-item.result c.args.chosen.now c.split_at.result.1.now used (λ row. vals_of number (row_values row)) c.loop-part.rows.items c.in-Ok.row
          c.loop-part-test.true c.part-item.is c.loop-part.invariant.used_is c.split_at.ensures.back c.loop-part.invariant.rows c.in-Ok.ensures.ok);
    }

pub part_row-part_pair-requires : goal.part_row-part_pair-requires
part_row-part_pair-requires g t c κs within =
    let number = g.T.Theory.denotes in
    let scope = scope_of g.T.Theory.owned c.args.defs.now in
    let points = map (vals_of number) c.args.points.now in
    let ts = terms (chosen_of number c.args.chosen.now) in
    let items = pair-items c.in-App.parts.items.items c.as_slice-in-App.result.now c.first-item.result c.second-item.result c.as_slice-in-App.ensures c.in-len2.len_at_least c.in-len2.len_below c.first-item.is c.second-item.is in
    let same = ap (λ parts. all_weight (patterns_of number parts)) items in (
      omega (arith, app-falls number c.args.part.now c.in-App.operator c.in-App.parts c.in-App.is, same, c.decreases),
      (
        within.0,
        (
          within.1,
          (
            c.requires.definitions,
            (
              c.requires.points,
              (
                c.requires.rows,
                (
                  rw (c.in-App.is, pattern_of-App, items) at c.requires.enough,
                  subst (λ parts. FitsAt scope points (Apply c.in-App.operator (all_filled (patterns_of number parts) ts))) items (apply-part-fit number scope points c.args.part.now c.in-App.operator c.in-App.parts ts c.in-App.is c.requires.fits),
                ),
              ),
            ),
          ),
        ),
      ),
    )

pub part_row-returns-in_ok-row-in-len2-clause-ok : goal.part_row-returns-in_ok-row-in-len2-clause-ok
part_row-returns-in_ok-row-in-len2-clause-ok g t c =
    let number = g.T.Theory.denotes in
    let scope = scope_of g.T.Theory.owned c.args.defs.now in
    let defined = functions (bodies number c.args.defs.now) in
    let points = map (vals_of number) c.args.points.now in
    let ts = terms (chosen_of number c.args.chosen.now) in
    let items = pair-items c.in-App.parts.items.items c.as_slice-in-App.result.now c.first-item.result c.second-item.result c.as_slice-in-App.ensures c.in-len2.len_at_least c.in-len2.len_below c.first-item.is c.second-item.is in
    let found = vals_of number c.in_ok-row-in-len2.row.items in
    apply-part number c.args.part.now c.in-App.operator c.in-App.parts ts (λ term. HasRow scope defined points term found) c.in-App.is (rw items c.in_ok-row-in-len2.ensures.ok)

pub part_row-returns-in_err-row-in-len2-clause-lost : goal.part_row-returns-in_err-row-in-len2-clause-lost
part_row-returns-in_err-row-in-len2-clause-lost g t c =
    let number = g.T.Theory.denotes in
    let defined = functions (bodies number c.args.defs.now) in
    let points = map (vals_of number) c.args.points.now in
    let ts = terms (chosen_of number c.args.chosen.now) in
    let items = pair-items c.in-App.parts.items.items c.as_slice-in-App.result.now c.first-item.result c.second-item.result c.as_slice-in-App.ensures c.in-len2.len_at_least c.in-len2.len_below c.first-item.is c.second-item.is in
    let end = c.in_err-row-in-len2.field-0.0 in
    handed_on _ c.from_residual-in_err-row-in-len2.result end c.from_residual-in_err-row-in-len2.ensures.1
    (lost_then end c.in_err-row-in-len2.ensures.lost (λ k it. apply-part number c.args.part.now c.in-App.operator c.in-App.parts ts (λ term. IsLostAt defined points term k) c.in-App.is (rw items it)))

pub part_pair-part_row-requires : goal.part_pair-part_row-requires
part_pair-part_row-requires g t c κs within =
    let number = g.T.Theory.denotes in
    let scope = scope_of g.T.Theory.owned c.args.defs.now in
    let points = map (vals_of number) c.args.points.now in
    let parts = c.args.first.now ∷ c.args.second.now ∷ [] in
    let arguments = all_filled (patterns_of number parts) (terms (chosen_of number c.args.chosen.now)) in
    let falls = part-falls number parts 0 c.args.first.now (omega arith) refl in (
      omega (arith, falls, c.decreases),
      (
        within.0,
        (
          within.1,
          (
            c.requires.definitions,
            (
              c.requires.points,
              (
                c.requires.rows,
                (
                  omega (arith, enough-left number parts 0 c.args.first.now 0 (length c.args.chosen.now) (omega arith) refl refl c.requires.enough),
                  part-fits number scope points parts 0 c.args.first.now c.args.chosen.now c.args.chosen.now 0 (omega arith) refl refl refl (apply-arguments scope points c.args.operator.now arguments c.requires.fits),
                ),
              ),
            ),
          ),
        ),
      ),
    )

pub part_pair-returns-in_err-left-clause-lost : goal.part_pair-returns-in_err-left-clause-lost
part_pair-returns-in_err-left-clause-lost g t c =
    let number = g.T.Theory.denotes in
    let defined = functions (bodies number c.args.defs.now) in
    let points = map (vals_of number) c.args.points.now in
    let parts = c.args.first.now ∷ c.args.second.now ∷ [] in
    let arguments = all_filled (patterns_of number parts) (terms (chosen_of number c.args.chosen.now)) in
    let end = c.in_err-left.field-0.0 in
    handed_on _ c.from_residual.result end c.from_residual.ensures.1
    (lost_then end c.in_err-left.ensures.lost (λ k it.
    apply-lost-argument defined points c.args.operator.now arguments k (part-lost number defined points parts 0 c.args.first.now c.args.chosen.now c.args.chosen.now 0 (omega arith) refl refl refl k it)))

pub part_pair-part_row-requires-2 : goal.part_pair-part_row-requires-2
part_pair-part_row-requires-2 g t c κs within =
    let number = g.T.Theory.denotes in
    let scope = scope_of g.T.Theory.owned c.args.defs.now in
    let defined = functions (bodies number c.args.defs.now) in
    let points = map (vals_of number) c.args.points.now in
    let parts = c.args.first.now ∷ c.args.second.now ∷ [] in
    let arguments = all_filled (patterns_of number parts) (terms (chosen_of number c.args.chosen.now)) in
    let used = pair-used number c.args.first.now c.args.second.now c.places.result (length c.args.chosen.now) c.requires.enough c.places.ensures in
    let falls = part-falls number parts 1 c.args.second.now (omega arith) refl in (
      omega (arith, falls, c.decreases),
      (
        within.0,
        (
          within.1,
          (
            c.requires.definitions,
            (
              c.requires.points,
              (
                rw c.split_at.ensures.back (rows-from number scope defined points c.places.result c.args.chosen.now c.requires.rows),
                (
                  omega (arith, c.split_at.ensures.back_len, enough-left number parts 1 c.args.second.now c.places.result (length c.args.chosen.now) (omega arith) refl used c.requires.enough),
                  part-fits number scope points parts 1 c.args.second.now c.args.chosen.now c.split_at.result.1.now c.places.result (omega arith) refl used c.split_at.ensures.back (apply-arguments scope points c.args.operator.now arguments c.requires.fits),
                ),
              ),
            ),
          ),
        ),
      ),
    )

pub part_pair-returns-in_err-right-clause-lost : goal.part_pair-returns-in_err-right-clause-lost
part_pair-returns-in_err-right-clause-lost g t c =
    let number = g.T.Theory.denotes in
    let defined = functions (bodies number c.args.defs.now) in
    let points = map (vals_of number) c.args.points.now in
    let parts = c.args.first.now ∷ c.args.second.now ∷ [] in
    let arguments = all_filled (patterns_of number parts) (terms (chosen_of number c.args.chosen.now)) in
    let used = pair-used number c.args.first.now c.args.second.now c.places.result (length c.args.chosen.now) c.requires.enough c.places.ensures in
    let end = c.in_err-right.field-0.0 in
    handed_on _ c.from_residual-in_err-right.result end c.from_residual-in_err-right.ensures.1
    (lost_then end c.in_err-right.ensures.lost (λ k it.
    apply-lost-argument defined points c.args.operator.now arguments k (part-lost number defined points parts 1 c.args.second.now c.args.chosen.now c.split_at.result.1.now c.places.result (omega arith) refl used c.split_at.ensures.back k it)))

pub part_pair-pair_row-requires-clause-owned : goal.part_pair-pair_row-requires-clause-owned
part_pair-pair_row-requires-clause-owned g t c =
    let number = g.T.Theory.denotes in
    let scope = scope_of g.T.Theory.owned c.args.defs.now in
    let points = map (vals_of number) c.args.points.now in
    let parts = c.args.first.now ∷ c.args.second.now ∷ [] in
    let arguments = all_filled (patterns_of number parts) (terms (chosen_of number c.args.chosen.now)) in
    let long = row-long number (length points) c.as_slice.result.now (row_values c.in_ok-left.left) c.as_slice.ensures c.in_ok-left.ensures.ok.sized in
    λ k within. apply-owned scope points c.args.operator.now arguments c.requires.fits k (omega (arith, within, long))

pub part_pair-pair_row-requires-clause-same : goal.part_pair-pair_row-requires-clause-same
part_pair-pair_row-requires-clause-same g t c =
    let number = g.T.Theory.denotes in
    let points = map (vals_of number) c.args.points.now in
    row-long number (length points) c.as_slice-2.result.now (row_values c.in_ok-right.right) c.as_slice-2.ensures c.in_ok-right.ensures.ok.sized
    ∙ sym (row-long number (length points) c.as_slice.result.now (row_values c.in_ok-left.left) c.as_slice.ensures c.in_ok-left.ensures.ok.sized)

pub part_pair-pair_row-requires-clause-sorted : goal.part_pair-pair_row-requires-clause-sorted
part_pair-pair_row-requires-clause-sorted g t c =
    let number = g.T.Theory.denotes in
    let scope = scope_of g.T.Theory.owned c.args.defs.now in
    let defined = functions (bodies number c.args.defs.now) in
    let points = map (vals_of number) c.args.points.now in
    let parts = c.args.first.now ∷ c.args.second.now ∷ [] in
    let arguments = all_filled (patterns_of number parts) (terms (chosen_of number c.args.chosen.now)) in
    let used = pair-used number c.args.first.now c.args.second.now c.places.result (length c.args.chosen.now) c.requires.enough c.places.ensures in
    let rows = pair-rows number scope defined points c.args.first.now c.args.second.now c.args.chosen.now c.split_at.result.1.now c.places.result c.as_slice.result.now c.as_slice-2.result.now (row_values c.in_ok-left.left) (row_values c.in_ok-right.right) used c.split_at.ensures.back c.as_slice.ensures c.as_slice-2.ensures c.in_ok-left.ensures.ok c.in_ok-right.ensures.ok in
    pair-sorted scope defined points c.args.operator.now arguments (vals_of number c.as_slice.result.now) (vals_of number c.as_slice-2.result.now) c.requires.fits rows

pub part_pair-returns-in_err-row-clause-lost : goal.part_pair-returns-in_err-row-clause-lost
part_pair-returns-in_err-row-clause-lost g t c =
    let number = g.T.Theory.denotes in
    let scope = scope_of g.T.Theory.owned c.args.defs.now in
    let defined = functions (bodies number c.args.defs.now) in
    let points = map (vals_of number) c.args.points.now in
    let parts = c.args.first.now ∷ c.args.second.now ∷ [] in
    let arguments = all_filled (patterns_of number parts) (terms (chosen_of number c.args.chosen.now)) in
    let used = pair-used number c.args.first.now c.args.second.now c.places.result (length c.args.chosen.now) c.requires.enough c.places.ensures in
    let rows = pair-rows number scope defined points c.args.first.now c.args.second.now c.args.chosen.now c.split_at.result.1.now c.places.result c.as_slice.result.now c.as_slice-2.result.now (row_values c.in_ok-left.left) (row_values c.in_ok-right.right) used c.split_at.ensures.back c.as_slice.ensures c.as_slice-2.ensures c.in_ok-left.ensures.ok c.in_ok-right.ensures.ok in
    let end = c.in_err-row.field-0.0 in
    handed_on _ c.from_residual-in_err-row.result end c.from_residual-in_err-row.ensures.1
    (lost_then end c.in_err-row.ensures.lost (λ k it. pair-lost scope defined points c.args.operator.now arguments (vals_of number c.as_slice.result.now) (vals_of number c.as_slice-2.result.now) k rows it))

pub part_pair-returns-clause-ok : goal.part_pair-returns-clause-ok
part_pair-returns-clause-ok g t c =
    let number = g.T.Theory.denotes in
    let scope = scope_of g.T.Theory.owned c.args.defs.now in
    let defined = functions (bodies number c.args.defs.now) in
    let points = map (vals_of number) c.args.points.now in
    let parts = c.args.first.now ∷ c.args.second.now ∷ [] in
    let arguments = all_filled (patterns_of number parts) (terms (chosen_of number c.args.chosen.now)) in
    let used = pair-used number c.args.first.now c.args.second.now c.places.result (length c.args.chosen.now) c.requires.enough c.places.ensures in
    let rows = pair-rows number scope defined points c.args.first.now c.args.second.now c.args.chosen.now c.split_at.result.1.now c.places.result c.as_slice.result.now c.as_slice-2.result.now (row_values c.in_ok-left.left) (row_values c.in_ok-right.right) used c.split_at.ensures.back c.as_slice.ensures c.as_slice-2.ensures c.in_ok-left.ensures.ok c.in_ok-right.ensures.ok in
    pair-applied scope defined points c.args.operator.now arguments (vals_of number c.as_slice.result.now) (vals_of number c.as_slice-2.result.now) (vals_of number c.in_ok-row.row.items) c.requires.fits rows c.in_ok-row.ensures.ok

pub part_row-returns-in_err-row-in-Const-clause-lost : goal.part_row-returns-in_err-row-in-Const-clause-lost
part_row-returns-in_err-row-in-Const-clause-lost g t c = handed_on _ c.from_residual.result Want c.from_residual.ensures.1 tt

pub part_row-returns-in_err-row-in-Var-clause-lost : goal.part_row-returns-in_err-row-in-Var-clause-lost
part_row-returns-in_err-row-in-Var-clause-lost g t c = handed_on _ c.from_residual-in_err-row-in-Var.result Want c.from_residual-in_err-row-in-Var.ensures.1 tt

pub part_rows-returns-in_err-rows-clause-lost : goal.part_rows-returns-in_err-rows-clause-lost
part_rows-returns-in_err-rows-clause-lost g t c = handed_on _ c.from_residual.result Want c.from_residual.ensures.1 tt

pub part_rows-returns-in_err-push-in-Ok-clause-lost : goal.part_rows-returns-in_err-push-in-Ok-clause-lost
part_rows-returns-in_err-push-in-Ok-clause-lost g t c = handed_on _ c.from_residual-in_err-push-in-Ok.result Want c.from_residual-in_err-push-in-Ok.ensures.1 tt

pub part_rows-returns-clause-ok : goal.part_rows-returns-clause-ok
part_rows-returns-clause-ok g t c =
    let number = g.T.Theory.denotes in
    let scope = scope_of g.T.Theory.owned c.args.defs.now in
    let defined = functions (bodies number c.args.defs.now) in
    let points = map (vals_of number) c.args.points.now in
    let ts = terms (chosen_of number c.args.chosen.now) in
    let all = take_all c.loop-part.part-index c.as_slice-part-items.result.now c.loop-part-test.false ∙ c.as_slice-part-items.ensures in
    subst (λ items. HaveRows scope defined points (all_filled (patterns_of number items) ts) (map (λ row. vals_of number (row_values row)) c.loop-part.rows.items)) all c.loop-part.invariant.rows

pub part_row-returns-in_err-row-in-Ok-clause-ok : goal.part_row-returns-in_err-row-in-Ok-clause-ok
part_row-returns-in_err-row-in-Ok-clause-ok g t c = IfOk-from_err c.from_residual-in_err-row-in-Ok.result _ c.from_residual-in_err-row-in-Ok.ensures.0

pub part_row-returns-in_err-row-in-Ok-part_rows-clause-ok : goal.part_row-returns-in_err-row-in-Ok-part_rows-clause-ok
part_row-returns-in_err-row-in-Ok-part_rows-clause-ok g t c = IfOk-from_err c.from_residual-in_err-row-in-Ok-part_rows.result _ c.from_residual-in_err-row-in-Ok-part_rows.ensures.0

pub part_row-returns-in_err-row-in-len2-clause-ok : goal.part_row-returns-in_err-row-in-len2-clause-ok
part_row-returns-in_err-row-in-len2-clause-ok g t c = IfOk-from_err c.from_residual-in_err-row-in-len2.result _ c.from_residual-in_err-row-in-len2.ensures.0

pub part_pair-returns-in_err-left-clause-ok : goal.part_pair-returns-in_err-left-clause-ok
part_pair-returns-in_err-left-clause-ok g t c = IfOk-from_err c.from_residual.result _ c.from_residual.ensures.0

pub part_pair-returns-in_err-right-clause-ok : goal.part_pair-returns-in_err-right-clause-ok
part_pair-returns-in_err-right-clause-ok g t c = IfOk-from_err c.from_residual-in_err-right.result _ c.from_residual-in_err-right.ensures.0

pub part_pair-returns-in_err-row-clause-ok : goal.part_pair-returns-in_err-row-clause-ok
part_pair-returns-in_err-row-clause-ok g t c = IfOk-from_err c.from_residual-in_err-row.result _ c.from_residual-in_err-row.ensures.0

pub part_row-returns-in_err-row-in-Const-clause-ok : goal.part_row-returns-in_err-row-in-Const-clause-ok
part_row-returns-in_err-row-in-Const-clause-ok g t c = IfOk-from_err c.from_residual.result _ c.from_residual.ensures.0

pub part_row-returns-in_err-row-in-Var-clause-ok : goal.part_row-returns-in_err-row-in-Var-clause-ok
part_row-returns-in_err-row-in-Var-clause-ok g t c = IfOk-from_err c.from_residual-in_err-row-in-Var.result _ c.from_residual-in_err-row-in-Var.ensures.0

pub part_rows-returns-in_err-rows-clause-ok : goal.part_rows-returns-in_err-rows-clause-ok
part_rows-returns-in_err-rows-clause-ok g t c = IfOk-from_err c.from_residual.result _ c.from_residual.ensures.0

pub part_rows-returns-in_err-push-in-Ok-clause-ok : goal.part_rows-returns-in_err-push-in-Ok-clause-ok
part_rows-returns-in_err-push-in-Ok-clause-ok g t c = IfOk-from_err c.from_residual-in_err-push-in-Ok.result _ c.from_residual-in_err-push-in-Ok.ensures.0

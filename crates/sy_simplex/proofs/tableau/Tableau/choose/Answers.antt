use Rattle.std.proofs.Common.{length, sym, ap, ◌∙◌}
use Rattle.sy_simplex.specs.Stated.{tableau_state_of}
use Rattle.sy_simplex.proofs.Clear.{unclear_bounded, choice_unfit, is_leaving, stuck_read, entering_read}
use Rattle.sy_simplex.proofs.Exchanging.{in_values, in_rows, leaves_bounded, bound_there, bound_read, value_read, row_read, within}
use Rattle.sy_simplex.proofs.tableau.Tableau.choose.Goals as goal

pub returns-in_default : goal.returns-in_default
returns-in_default c = c.in_default.ensures

pub index-requires : goal.index-requires
index-requires c = within c.in-Some.row _ _ c.args.self.now.basics.ok.0 c.in-Some.ensures.row_below

pub overflow_sub-index : goal.overflow_sub-index
overflow_sub-index c =
    let t = tableau_state_of c.args.self.now in
    leaves_bounded t c.in-Some.row c.index.result.now c.in-Some.ensures.row_below (unclear_bounded t c.in-Some.row c.in-Some.ensures.unclear) c.index.ensures

pub index-bound-requires : goal.index-bound-requires
index-bound-requires c =
    let t = tableau_state_of c.args.self.now in
    within _ _ _ c.args.self.now.bounds.ok.0 (bound_there t c.in-Some.row c.index.result.now c.requires c.in-Some.ensures.row_below (unclear_bounded t c.in-Some.row c.in-Some.ensures.unclear) c.index.ensures)

pub index-requires-2 : goal.index-requires-2
index-requires-2 c = within c.in-Some.row _ _ c.args.self.now.values.ok.0 (in_values (tableau_state_of c.args.self.now) c.in-Some.row c.requires c.in-Some.ensures.row_below)

pub returns-then-is_none : goal.returns-then-is_none
returns-then-is_none c =
    let t = tableau_state_of c.args.self.now in
    let first = c.in-Some.ensures in
    choice_unfit t c.in-Some.row c.index-2.result.now c.index-bound.result.now c.compare.result c.is_none.result _ first
    (value_read t c.in-Some.row c.index-2.result.now c.requires first.row_below c.index-2.ensures)
    (bound_read t c.in-Some.row c.index.result.now c.index-bound.result.now c.requires first.row_below (unclear_bounded t c.in-Some.row first.unclear) c.index.ensures c.index-bound.ensures)
    c.is_none.ensures c.if-is_none.true c.compare.ensures

pub index-requires-3 : goal.index-requires-3
index-requires-3 c = within c.in-Some.row _ _ c.args.self.now.rows.ok.0 (in_rows (tableau_state_of c.args.self.now) c.in-Some.row c.requires c.in-Some.ensures.row_below)

pub entering_column-requires : goal.entering_column-requires
entering_column-requires c =
    let t = tableau_state_of c.args.self.now in
    ap length c.as_slice.ensures.value ∙ sym (ap length (c.as_slice-2.ensures ∙ row_read t c.in-Some.row c.index-3.result.now c.requires c.in-Some.ensures.row_below c.index-3.ensures) ∙ c.requires.widths c.in-Some.row c.in-Some.ensures.row_below)

pub returns-in-None : goal.returns-in-None
returns-in-None c =
    let t = tableau_state_of c.args.self.now in
    let first = c.in-Some.ensures in
    record {
      leaving = is_leaving t c.in-Some.row c.index-2.result.now c.index-bound.result.now c.compare.result c.is_none.result _ first
          (value_read t c.in-Some.row c.index-2.result.now c.requires first.row_below c.index-2.ensures)
          (bound_read t c.in-Some.row c.index.result.now c.index-bound.result.now c.requires first.row_below (unclear_bounded t c.in-Some.row first.unclear) c.index.ensures c.index-bound.ensures)
          c.is_none.ensures c.if-is_none.false c.compare.ensures;
      none = stuck_read t c.in-Some.row c.as_slice.result.now c.as_slice-2.result.now c.as_slice.ensures.value (c.as_slice-2.ensures ∙ row_read t c.in-Some.row c.index-3.result.now c.requires first.row_below c.index-3.ensures) c.in-None.ensures;
    }

pub returns-in-Some-entering_column : goal.returns-in-Some-entering_column
returns-in-Some-entering_column c =
    let t = tableau_state_of c.args.self.now in
    let first = c.in-Some.ensures in (
      is_leaving t c.in-Some.row c.index-2.result.now c.index-bound.result.now c.compare.result c.is_none.result _ first
          (value_read t c.in-Some.row c.index-2.result.now c.requires first.row_below c.index-2.ensures)
          (bound_read t c.in-Some.row c.index.result.now c.index-bound.result.now c.requires first.row_below (unclear_bounded t c.in-Some.row first.unclear) c.index.ensures c.index-bound.ensures)
          c.is_none.ensures c.if-is_none.false c.compare.ensures,
      entering_read t c.in-Some.row c.as_slice.result.now c.as_slice-2.result.now c.in-Some-entering_column.column c.as_slice.ensures.value (c.as_slice-2.ensures ∙ row_read t c.in-Some.row c.index-3.result.now c.requires first.row_below c.index-3.ensures) c.in-Some-entering_column.ensures,
    )

-- The tableaus of the program, and what is chosen at one.
use Rattle.sy_simplex.specs.declared.tableau.Tableau.{Tableau}
use Rattle.sy_simplex.specs.States.{TableauState}

abbrev pub tableau_state_of : Tableau → TableauState
tableau_state_of t = record {
  vars = t.vars;
  columns = t.columns.items;
  basics = t.basics.items;
  rows = t.rows.items;
  values = t.values.items;
  bounds = t.bounds.items;
}

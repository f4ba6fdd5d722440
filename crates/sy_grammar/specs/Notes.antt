-- For each subterm of a term the steps, by number, that derive it from the nonterminals.
use Rattle.std.specs.Prelude.{ℕ, List, Option}

mutual
  pub data Note : Type 0 where
    Noted : (row : List (Option ℕ)) → (below : Notes) → Note

  pub data Notes : Type 0 where
    none : Notes
    more : (first : Note) → (rest : Notes) → Notes

abbrev pub note_row : Note → List (Option ℕ)
note_row (Noted steps inner) = steps

abbrev pub below : Note → Notes
below (Noted steps inner) = inner

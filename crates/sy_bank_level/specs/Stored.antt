-- What kept and dropped terms stand for.
use Rattle.std.specs.Prelude.{List, map}
use denote.Ref.{Bor}
use Rattle.sy_terms.specs.Values.{Val}
use Rattle.sy_terms.specs.Denoted.{expr_of, vals_of}
use Rattle.sy_bank_level.specs.Banks.{Entry, Lost}
use Rattle.sy_bank_level.specs.Shared.{term_from, tree_from}
use Rattle.sy_bank_level.specs.declared.kept.Kept.{Kept}
use Rattle.sy_bank_level.specs.declared.kept.Dropped.{Dropped}

abbrev pub entry_of : {T N : Type 0} → (N → Val) → Kept T N → Entry
entry_of number kept = record { term = term_from number kept.grown.value; tree = tree_from number kept.grown.value; size = kept.size; row = vals_of number kept.row }

abbrev pub entries_of : {T N : Type 0} → (N → Val) → List (Kept T N) → List Entry
entries_of number all = map (entry_of number) all

abbrev pub lost_of : {T N : Type 0} → (N → Val) → Dropped T N → Lost
lost_of number dropped = record { term = expr_of number dropped.term; point = dropped.point }

-- kept terms that are chosen for nonterminals
abbrev pub chosen_of : {T N : Type 0} → (N → Val) → List (Bor (Kept T N)) → List Entry
chosen_of number chosen = map (λ kept. entry_of number kept.now) chosen

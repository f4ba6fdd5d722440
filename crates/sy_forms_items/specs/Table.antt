-- Names with what stands under them.
use Rattle.std.specs.Prelude.{ℕ, List, map}
use Rattle.sy_terms.specs.declared.sort.Sort.{Sort}
use Rattle.sy_forms_items.specs.declared.names.Entity.{Entity}

-- the abbreviations of sorts and the names of entities, each in the order of declaration
pub record NameTable : Type 0 where
  pub sorts : List (List ℕ × Sort)
  pub entities : List (List ℕ × Entity)

-- entries under the bytes of their keys
abbrev pub under : {K V : Type 0} → (K → List ℕ) → List (K × V) → List (List ℕ × V)
under bytes entries = map (λ e. (bytes e.0, e.1)) entries

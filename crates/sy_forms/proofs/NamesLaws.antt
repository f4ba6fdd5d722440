-- Names among let names, and what they stand for behind them.
use Rattle.std.specs.Prelude.{ℕ, suc, ◌+◌, Bool, true, false, List, [], ◌∷◌, map, slice_get, Option, Some, None, ◌≡◌, refl, bytes_eq, if◌then◌else◌}
use Rattle.std.proofs.Common.{ap, subst, arith}
use Rattle.sy_terms.specs.declared.sort.Sort.{Sort}
use Rattle.sy_forms_items.specs.declared.names.Named.{Named}
use Rattle.sy_forms_items.specs.Environments as env
use Rattle.sy_forms_items.specs.Environments.{Environment, Sense, or_else, place_from, place_among, sense_as, sense_of}
use Rattle.sy_forms.specs.Fitting.{Setting}
use Rattle.sy_forms.specs.Right.{SenseIsThere}

-- the sorts of names
abbrev pub sorts_of : List Named → List Sort
sorts_of named = map (λ (x : Named). x.sort) named

-- a place and a sort are those of an item, counted from a number
record Placed (first : ℕ) (names : List Named) (place : ℕ) (sort : Sort) : Type 0 where
  offset : ℕ
  is : first + offset ≡ place
  at : slice_get (sorts_of names) offset ≡ Some sort

placed_here : (b : Bool) (first : ℕ) (x : Named) (rest : List Named) (found : ℕ × Sort) → (let here : ℕ × Sort = (first, x.sort) in if b then Some here else None) ≡ Some found → Placed first (x ∷ rest) found.0 found.1
placed_here true first x rest found e =
    let here : ℕ × Sort = (first, x.sort) in
    let same : here ≡ found = cc in
    let number : first ≡ found.0 = ap (λ (y : ℕ × Sort). y.0) same in
    record { offset = 0; is = omega (arith, number); at = ap (λ (y : ℕ × Sort). Some y.1) same }
placed_here false first x rest found e = absurd cc

placed_by : (b : Bool) (later : Option (ℕ × Sort)) (first : ℕ) (x : Named) (rest : List Named) (found : ℕ × Sort) → ((y : ℕ × Sort) → later ≡ Some y → Placed (first + 1) rest y.0 y.1)
    → or_else later (let here : ℕ × Sort = (first, x.sort) in if b then Some here else None) ≡ Some found → Placed first (x ∷ rest) found.0 found.1
placed_by b None first x rest found behind e = placed_here b first x rest found e
placed_by b (Some y) first x rest found behind e =
    let it = behind found e in
    record { offset = suc it.offset; is = omega (arith, it.is); at = it.at }

place_is : (first : ℕ) (name : List ℕ) (names : List Named) (found : ℕ × Sort) → place_from first name names ≡ Some found → Placed first names found.0 found.1
place_is first name [] found e = absurd cc
place_is first name (x ∷ rest) found e = placed_by (bytes_eq name x.name) (place_from (first + 1) name rest) first x rest found (λ y f. place_is (first + 1) name rest y f) e

-- a name among these stands at its place
pub place_among_at : (name : List ℕ) (names : List Named) (found : ℕ × Sort) → place_among name names ≡ Some found → slice_get (sorts_of names) found.0 ≡ Some found.1
place_among_at name names found e =
    let it = place_is 0 name names found e in
    let same : it.offset ≡ found.0 = omega (arith, it.is) in
    subst (λ p. slice_get (sorts_of names) p ≡ Some found.1) same it.at

-- what is there without let names is there behind them
there_behind : (setting : Setting) (locals : List Sort) (sense : Sense) → SenseIsThere setting [] sense → SenseIsThere setting locals sense
there_behind setting locals (env.Local level sort) there = absurd cc
there_behind setting locals (env.Nonterminal number sort) there = there
there_behind setting locals (env.Argument position sort) there = there
there_behind setting locals (env.Variable position sort) there = there
there_behind setting locals (env.Function function takes gives) there = there
there_behind setting locals env.Withheld there = there

there_by : (setting : Setting) (locals : List Sort) (place : Option (ℕ × Sort)) (outer : Option Sense) (sense : Sense) →
    ((x : ℕ × Sort) → place ≡ Some x → slice_get locals x.0 ≡ Some x.1) → ((found : Sense) → outer ≡ Some found → SenseIsThere setting [] found) →
    or_else (sense_as env.Local place) outer ≡ Some sense → SenseIsThere setting locals sense
there_by setting locals None outer sense inside outside e = there_behind setting locals sense (outside sense e)
there_by setting locals (Some x) outer sense inside outside e =
    let same : env.Local x.0 x.1 ≡ sense = cc in
    subst (SenseIsThere setting locals) same (inside x refl)

-- what a name stands for where let names are in force
pub there : (setting : Setting) (read : Environment) (locals : List Named) (name : List ℕ) (sense : Sense) → ((other : List ℕ) (found : Sense) → sense_of read [] other ≡ Some found → SenseIsThere setting [] found) →
    sense_of read locals name ≡ Some sense → SenseIsThere setting (sorts_of locals) sense
there setting read locals name sense right e =
    there_by setting (sorts_of locals) (place_among name locals) (sense_of read [] name) sense (place_among_at name locals) (right name) e

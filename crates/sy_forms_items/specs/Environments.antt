-- What names stand for where a term is read.
use Rattle.std.specs.Prelude.{ℕ, ◌+◌, List, [], ◌∷◌, Bool, Option, Some, None, bytes_eq, if◌then◌else◌}
use Rattle.sy_terms.specs.declared.sort.Logic.{Logic}
use Rattle.sy_terms.specs.declared.sort.Sort.{Sort}
use Rattle.sy_terms.specs.declared.term.Fun.{Fun}
use Rattle.sy_terms.specs.declared.term.Fun.TheVariants.{Defined, Wanted}
use Rattle.sy_forms_items.specs.declared.names.Role.{Role}
use Rattle.sy_forms_items.specs.declared.names.Role.TheVariants as role
use Rattle.sy_forms_items.specs.declared.names.Entity.{Entity}
use Rattle.sy_forms_items.specs.declared.names.Entity.TheVariants as entity
use Rattle.sy_forms_items.specs.declared.names.Named.{Named}

-- the logic, what the term is, the abbreviations of sorts, what declared names stand for, the arguments in force,
-- the nonterminals, which of these derive numerals alone, and which numerals other than 0 alone
pub record Environment : Type 0 where
  pub logic : Logic
  pub role : Role
  pub sorts : List (List ℕ × Sort)
  pub entities : List (List ℕ × Entity)
  pub arguments : List Named
  pub nonterminals : List Named
  pub constants : List Bool
  pub divisors : List Bool

-- what stands under a name
abbrev pub entry_under : {A : Type 0} → List ℕ → List (List ℕ × A) → Option A
entry_under name [] = None
entry_under name (x ∷ rest) = if bytes_eq name x.0 then Some x.1 else entry_under name rest

abbrev pub or_else : {A : Type 0} → Option A → Option A → Option A
or_else (Some x) other = Some x
or_else None other = other

-- the last of the names that is this one: its place, counted from a number, and its sort
abbrev pub place_from : ℕ → List ℕ → List Named → Option (ℕ × Sort)
place_from i name [] = None
place_from i name (x ∷ rest) = or_else (place_from (i + 1) name rest) (if bytes_eq name x.name then Some (i, x.sort) else None)

abbrev pub place_among : List ℕ → List Named → Option (ℕ × Sort)
place_among name names = place_from 0 name names

-- what a name stands for: a let name, a nonterminal, an argument or a variable by its place and with its sort,
-- a function that may stand there, or one that may not
pub data Sense : Type 0 where
  Local : (level : ℕ) → (sort : Sort) → Sense
  Nonterminal : (number : ℕ) → (sort : Sort) → Sense
  Argument : (position : ℕ) → (sort : Sort) → Sense
  Variable : (position : ℕ) → (sort : Sort) → Sense
  Function : (function : Fun) → (takes : List Sort) → (gives : Sort) → Sense
  Withheld : Sense

abbrev pub sense_as : (ℕ → Sort → Sense) → Option (ℕ × Sort) → Option Sense
sense_as sense None = None
sense_as sense (Some x) = Some (sense x.0 x.1)

-- variables stand in constraints and assumptions only
abbrev pub variable_in : Role → ℕ → Sort → Option Sense
variable_in role.Body position sort = None
variable_in role.Grammar position sort = None
variable_in role.Assumption position sort = Some (Variable position sort)
variable_in role.Constraint position sort = Some (Variable position sort)

-- functions to be found stand in constraints only
abbrev pub wanted_in : Role → ℕ → List Sort → Sort → Sense
wanted_in role.Body number takes gives = Withheld
wanted_in role.Grammar number takes gives = Withheld
wanted_in role.Assumption number takes gives = Withheld
wanted_in role.Constraint number takes gives = Function (Wanted number) takes gives

abbrev pub function_in : Role → Fun → List Sort → Sort → Sense
function_in role (Defined number) takes gives = Function (Defined number) takes gives
function_in role (Wanted number) takes gives = wanted_in role number takes gives

abbrev pub declared_in : Role → Option Entity → Option Sense
declared_in role None = None
declared_in role (Some (entity.Variable position sort)) = variable_in role position sort
declared_in role (Some (entity.Function function takes gives)) = Some (function_in role function takes gives)

-- a name is looked up among the let names from the inside, then the nonterminals, the arguments, and what is declared
abbrev pub sense_of : Environment → List Named → List ℕ → Option Sense
sense_of env locals name =
    or_else (sense_as Local (place_among name locals))
    (or_else (sense_as Nonterminal (place_among name env.nonterminals))
    (or_else (sense_as Argument (place_among name env.arguments))
    (declared_in env.role (entry_under name env.entities))))

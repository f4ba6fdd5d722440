-- Definitions, each of which calls only those before it.
use Rattle.std.specs.Prelude.{Bool, List, [], ◌∷◌, ◌++◌, map, Some, ◌≡◌}
use Rattle.sy_terms.specs.Values.{Val}
use Rattle.sy_terms.specs.Expr.{Expr}
use Rattle.sy_terms.specs.Denoted.{expr_of}
use Rattle.sy_terms.specs.Fitting.{Scope, Signature, sort_in}
use Rattle.sy_terms.specs.declared.op.Op.{Op}
use Rattle.sy_terms.specs.declared.term.Def.{Def}

abbrev pub signature : {T N : Type 0} → Def T N → Signature
signature def = record { takes = def.args; gives = def.sort }

abbrev pub body : {T N : Type 0} → (N → Val) → Def T N → Expr
body number def = expr_of number def.body

abbrev pub bodies : {T N : Type 0} → (N → Val) → List (Def T N) → List Expr
bodies number defs = map (body number) defs

-- what a term may name under these definitions, where no function is to be found
abbrev pub scope_of : {T N : Type 0} → (Op → Bool) → List (Def T N) → Scope
scope_of owned defs = record { owned = owned; defined = map signature defs; wanted = [] }

-- each body fits under the definitions before it
abbrev pub FitAfter : {T N : Type 0} → (Op → Bool) → (N → Val) → List (Def T N) → List (Def T N) → Type 0
FitAfter owned number earlier [] = Unit {0}
FitAfter owned number earlier (def ∷ defs) =
    (sort_in (scope_of owned earlier) def.args (body number def) ≡ Some def.sort) × FitAfter owned number (earlier ++ def ∷ []) defs

abbrev pub DefinitionsFit : {T N : Type 0} → (Op → Bool) → (N → Val) → List (Def T N) → Type 0
DefinitionsFit owned number defs = FitAfter owned number [] defs

-- What terms ask of the functions to be found, under definitions and bodies.
use Rattle.std.specs.Prelude.{ℕ, List}
use Rattle.sy_terms.specs.Values.{Val}
use Rattle.sy_terms.specs.Expr.{Expr, Exprs}
use Rattle.sy_terms.specs.Meaning.{Function, functions, asked, all_asked}
use Rattle.sy_terms.specs.Definitions.{bodies}
use Rattle.sy_terms.specs.declared.term.Term.{Term}
use Rattle.sy_terms.specs.declared.term.Def.{Def}
use Rattle.sy_terms_operators.specs.Evaluation.{wanted_functions}
use Rattle.sy_terms_operators.specs.Agreement.{Agree, SameUnder}

-- the calls that the term asks for, in order
abbrev pub asks : {T N : Type 0} → (N → Val) → List (Def T N) → List (Term T N) → List Val → Expr → List (ℕ × List Val)
asks number defs terms values term = asked (functions (bodies number defs)) (wanted_functions number defs terms) values term

abbrev pub all_asks : {T N : Type 0} → (N → Val) → List (Def T N) → List (Term T N) → List Val → Exprs → List (ℕ × List Val)
all_asks number defs terms values all = all_asked (functions (bodies number defs)) (wanted_functions number defs terms) values all

-- whatever other functions have the bodies' values at each call that the term asks for, it means the same under them
abbrev pub StandsWith : {T N : Type 0} → (N → Val) → List (Def T N) → List (Term T N) → List Val → Expr → Type 0
StandsWith number defs terms values term = (others : List Function) → Agree (wanted_functions number defs terms) others (asks number defs terms values term) → SameUnder (functions (bodies number defs)) (wanted_functions number defs terms) others values term

-- Terms that mean the same, and terms that are always true.
use Rattle.std.specs.Prelude.{ℕ, Bool, true, false, ◌≡◌, ◌↔◌, List}
use Rattle.std.specs.List.{list_all}
use Rattle.sy_terms.specs.Values.{Val, Truth, truth}
use Rattle.sy_terms.specs.Expr.{Expr, Exprs, Apply, Variable, more, none}
use Rattle.sy_terms.specs.Meaning.{Function, meaning, meanings}
use Rattle.sy_terms.specs.declared.op.Op.{Op}
use Rattle.sy_terms.specs.declared.op.Op.TheVariants as ops

-- the terms mean the same, whatever functions and variables are
abbrev pub IsAlike : Expr → Expr → Type 0
IsAlike term other = (defined wanted : List Function) (values : List Val) → meaning defined wanted values term ≡ meaning defined wanted values other

-- the same of lists of terms
abbrev pub AreAlike : Exprs → Exprs → Type 0
AreAlike terms others = (defined wanted : List Function) (values : List Val) → meanings defined wanted values terms ≡ meanings defined wanted values others

-- the term is true, whatever functions and variables are
abbrev pub IsFact : Expr → Type 0
IsFact term = (defined wanted : List Function) (values : List Val) → truth (meaning defined wanted values term) ≡ true

-- the operator at two terms, of which the known one stands first or second
abbrev pub comparison : Op → Expr → Bool → Expr → Expr
comparison operator known true term = Apply operator (more known (more term none))
comparison operator known false term = Apply operator (more term (more known none))

-- the choice between two terms
abbrev pub chosen : Expr → Expr → Expr → Expr
chosen test there here = Apply ops.Ite (more test (more there (more here none)))

-- the operator at two variables
abbrev pub related : Op → ℕ → ℕ → Expr
related operator first second = Apply operator (more (Variable first) (more (Variable second) none))

-- all of the one list are true exactly where all of the other are
abbrev pub SayTheSame : Exprs → Exprs → Type 0
SayTheSame terms others = (defined wanted : List Function) (values : List Val) → list_all truth (meanings defined wanted values terms) ≡ list_all truth (meanings defined wanted values others)

-- one is true exactly where the other is
abbrev pub SaysTheSame : Expr → Expr → Type 0
SaysTheSame term other = (defined wanted : List Function) (values : List Val) → (meaning defined wanted values term ≡ Truth true) ↔ (meaning defined wanted values other ≡ Truth true)

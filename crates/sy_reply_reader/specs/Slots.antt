-- The bodies so far, in one slot for each function to be found, in order of declaration.
use Rattle.std.specs.Prelude.{ℕ, ◌+◌, List, [], ◌∷◌, map, Bool, false, bytes_eq, Option, Some, None, if◌then◌else◌}
use Rattle.std.specs.Option.{option_map}
use Rattle.sy_terms.specs.Values.{Val}
use Rattle.sy_terms.specs.Expr.{Expr}
use Rattle.sy_terms.specs.Denoted.{expr_of}
use Rattle.sy_terms.specs.Fitting.{Signature}
use Rattle.sy_terms.specs.declared.term.Term.{Term}
use Rattle.sy_scope_causes.specs.declared.titles.Title.{Title}
use Rattle.sy_grammar_base.specs.Questions.{Goal}

-- no bodies
abbrev pub no_bodies : List Goal → List (Option Expr)
no_bodies goals = map (λ goal. None) goals

-- a function of this name without a body
abbrev pub is_open : List ℕ → List ℕ → Option Expr → Bool
is_open title name None = bytes_eq title name
is_open title name (Some body) = false

-- the first function of this name that has no body, by its number, counted from a number, and its signature
unfoldable pub open_from : ℕ → List ℕ → List Title → List Goal → List (Option Expr) → Option (ℕ × Signature)
open_from i name (title ∷ titles) (goal ∷ goals) (slot ∷ slots) =
    if is_open title.name name slot then Some (i, goal.signature) else open_from (i + 1) name titles goals slots
open_from i name _ _ _ = None

abbrev pub with_first : {A : Type 0} → Option A → Option (List A) → Option (List A)
with_first (Some x) (Some xs) = Some (x ∷ xs)
with_first _ _ = None

-- the bodies, where each function has one
abbrev pub all_there : {A : Type 0} → List (Option A) → Option (List A)
all_there [] = Some []
all_there (slot ∷ slots) = with_first slot (all_there slots)

-- what slots of terms stand for
abbrev pub slots_of : {T N : Type 0} → (N → Val) → List (Option (Term T N)) → List (Option Expr)
slots_of number slots = map (option_map (expr_of number)) slots

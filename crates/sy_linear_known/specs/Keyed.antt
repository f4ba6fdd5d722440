-- Facts that are found by the keys of their forms.
use Rattle.std.specs.Prelude.{ℕ, List, [], ◌∷◌, Option, IsSome}
use Rattle.sy_linear_known.specs.declared.path.Fact.{Fact}
use Rattle.sy_linear_known.specs.declared.path.Fact.TheVariants.{AtLeast, Is}
use Rattle.sy_linear_known.specs.Keys.{form_key}

-- the fact's form, where it is on one, has a place by its key
abbrev pub IsKeyed : (ℕ → Option ℕ) → Fact → Type 0
IsKeyed places (AtLeast f) = IsSome (places (form_key f))
IsKeyed places (Is u b) = Unit {0}

-- each fact is
abbrev pub EachIsKeyed : (ℕ → Option ℕ) → List Fact → Type 0
EachIsKeyed places [] = Unit {0}
EachIsKeyed places (fact ∷ facts) = IsKeyed places fact × EachIsKeyed places facts

-- Paths: when an assignment meets one, and what its facts say.
use Rattle.std.specs.Prelude.{◌≡◌, ℕ, ◌≤ℤ◌, Bool, false, cond, List, [], ◌∷◌, ℤ, pos, nat_eq, Option, Some, None}
use Rattle.std.specs.List.{list_any}
use Rattle.sy_terms.specs.Values.{Val, Truth, whole}
use Rattle.sy_terms.specs.Meaning.{value_at_position}
use Rattle.sy_linear_known.specs.declared.form.Form.{Form}
use Rattle.sy_linear_known.specs.Forms.{form_value, same_form}
use Rattle.sy_linear_known.specs.declared.path.Fact.{Fact}
use Rattle.sy_linear_known.specs.declared.path.Fact.TheVariants.{AtLeast, Is}

-- the whole number that a variable is
abbrev pub number_in : List Val → ℕ → ℤ
number_in values i = whole (value_at_position values i)

-- the value of a form at an assignment
abbrev pub form_at : List Val → Form → ℤ
form_at values f = form_value f (number_in values)

-- the fact holds at the assignment
abbrev pub FactHolds : List Val → Fact → Type 0
FactHolds values (AtLeast f) = pos 0 ≤ℤ form_at values f
FactHolds values (Is variable b) = value_at_position values variable ≡ Truth b

-- each fact holds at the assignment
abbrev pub MeetsPath : List Val → List Fact → Type 0
MeetsPath values [] = Unit {0}
MeetsPath values (fact ∷ facts) = FactHolds values fact × MeetsPath values facts

-- the fact is that the form is at least 0
abbrev pub is_form : Form → Fact → Bool
is_form f (AtLeast g) = same_form f g
is_form f (Is variable b) = false

-- one of the facts is
abbrev pub has_form : Form → List Fact → Bool
has_form f facts = list_any (is_form f) facts

-- the truth value that the first fact on the variable gives
abbrev pub given : ℕ → List Fact → Option Bool
given variable [] = None
given variable (AtLeast g ∷ facts) = given variable facts
given variable (Is u b ∷ facts) = cond (nat_eq variable u) (Some b) (given variable facts)

-- Forms that a cut adds at a point of a path.
use Rattle.std.specs.Prelude.{◌≡◌, true, List, All, ℤ, pos, ◌*ℤ◌, ◌<ℤ◌, Option, Some, None}
use Rattle.sy_frac.specs.Fraction.{Fraction}
use Rattle.sy_frac.specs.Rational.{is_negative_rational}
use Rattle.sy_terms.specs.declared.sort.Sort.{Sort}
use Rattle.sy_linear_known.specs.declared.form.Form.{Form}
use Rattle.sy_linear_known.specs.declared.path.Fact.{Fact}
use Rattle.sy_linear_known.specs.declared.path.Fact.TheVariants.{AtLeast}
use Rattle.sy_linear_known.specs.Points.{form_value_at}
use Rattle.sy_linear_known.specs.Trees.{forms, IsCut}
use Rattle.sy_simplex.specs.Problems.{numbers}
use Rattle.sy_intsolve_paths_laws.specs.Paths.{Suit}
use Rattle.sy_intsolve_cuts.specs.declared.choosing.Rounding.{Rounding}

-- each multiplier is below the divisor
abbrev pub AreBelowDivisor : ℤ → List Fraction → Type 0
AreBelowDivisor d ms = All (λ m. m.num <ℤ (d *ℤ pos m.den)) ms

-- the form is added by a cut of the path, whose multipliers are below its divisor; it is on integer variables, and negative at
-- the point
pub record IsRoundingForm (vars : List Sort) (path : List Fact) (ms : List Fraction) (d : ℤ) (point : List Fraction) (e : Form) : Type 0 where
  pub cut : IsCut ms d (forms path) e
  pub below : AreBelowDivisor d ms
  pub broken : is_negative_rational (form_value_at e (numbers point)) ≡ true
  pub suits : Suit vars (AtLeast e)

-- the form is added by these multipliers with divisor 1
abbrev pub IsCutBy : List Sort → List Fact → List Fraction → Rounding → Type 0
IsCutBy vars path point r = IsRoundingForm vars path r.multipliers (pos 1) point r.form

-- there is none, or it is such
abbrev pub AllFound : List Sort → List Fact → List Fraction → Option Rounding → Type 0
AllFound vars path point None = Unit {0}
AllFound vars path point (Some r) = IsCutBy vars path point r

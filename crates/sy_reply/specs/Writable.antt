-- What can be written: titles with enough names, and bodies that use nothing else.
use Rattle.std.specs.Prelude.{ℕ, ◌≡◌, ◌<◌, ◌≤◌, Bool, true, false, List, length, take, pos, negsuc}
use Rattle.std.specs.List.{AllZip}
use Rattle.sy_scope_causes.specs.declared.titles.Title.{Title}
use Rattle.sy_scope_causes.specs.declared.titles.Titles.{Titles}
use Rattle.sy_terms.specs.Values.{Val, Truth, Whole, Bits}
use Rattle.sy_terms.specs.Expr.{Expr, Exprs, Constant, Variable, Apply, Invoke, Bind, none, more}
use Rattle.sy_terms.specs.Theories.{valid}
use Rattle.sy_terms.specs.declared.term.Fun.{Fun}
use Rattle.sy_terms.specs.declared.term.Fun.TheVariants.{Defined, Wanted}
use Rattle.sy_grammar_base.specs.Questions.{Goal, Question}

-- a value of its sort that isn't negative
abbrev pub is_plain_value : Val → Bool
is_plain_value (Truth truth) = true
is_plain_value (Whole (pos n)) = true
is_plain_value (Whole (negsuc n)) = false
is_plain_value (Bits width n) = valid (Bits width n)

-- one of so many definitions
abbrev pub IsDefined : ℕ → Fun → Type 0
IsDefined definitions (Defined number) = number < definitions
IsDefined definitions (Wanted number) = ⊥

unfoldable mutual
  -- a term over so many arguments that calls only so many definitions, and in which no `let` and no negative constant stands
  pub IsWritable : ℕ → ℕ → Expr → Type 0
  IsWritable arguments definitions (Constant value) = is_plain_value value ≡ true
  IsWritable arguments definitions (Variable position) = position < arguments
  IsWritable arguments definitions (Apply operator parts) = AreWritable arguments definitions parts
  IsWritable arguments definitions (Invoke function parts) = IsDefined definitions function × AreWritable arguments definitions parts
  IsWritable arguments definitions (Bind bound inner) = ⊥

  pub AreWritable : ℕ → ℕ → Exprs → Type 0
  AreWritable arguments definitions none = Unit {0}
  AreWritable arguments definitions (more first rest) = IsWritable arguments definitions first × AreWritable arguments definitions rest

-- the first titles are those of the functions: each has a name for each argument
abbrev pub AreTitled : List Title → List Goal → Type 0
AreTitled titles goals = AllZip (λ title goal. length title.args ≡ length goal.signature.takes) (take (length goals) titles) goals

-- there is a body for each function, over its arguments and so many definitions
abbrev pub HaveBodies : ℕ → List Goal → List Expr → Type 0
HaveBodies definitions goals bodies = AllZip (λ goal body. IsWritable (length goal.signature.takes) definitions body) goals bodies

-- each function to be found has a name, and one for each argument; each definition has a name
pub record IsTitled (titles : Titles) (question : Question) : Type 0 where
  pub wanted : AreTitled titles.wanted question.goals
  pub defined : length question.definitions ≤ length titles.defined

-- Terms that have a sort without functions to be found.
use Rattle.std.specs.Prelude.{Bool, true, List, [], map, Option, Some, None, ◌≡◌}
use Rattle.std.proofs.Common.{ap, sym, ◌∙◌}
use Rattle.std.specs.Option.{is_some}
use Rattle.std.proofs.lemmas.Bool.{true≢false}
use Rattle.sy_terms.specs.Values.{Val}
use Rattle.sy_terms.specs.Expr.{Expr}
use Rattle.sy_terms.specs.Fitting.{sort_in}
use Rattle.sy_terms.specs.Definitions.{scope_of}
use Rattle.sy_terms.specs.Theories.{sort_of_value}
use Rattle.sy_terms.specs.declared.op.Op.{Op}
use Rattle.sy_terms.specs.declared.sort.Sort.{Sort}
use Rattle.sy_terms.specs.declared.term.Def.{Def}
use Rattle.sy_terms.specs.declared.term.Term.{Term}
use Rattle.sy_terms_operators.specs.Evaluation.{FitsWith}

-- a term that has a sort under a problem's definitions fits at values of its variables' sorts
module _ {T N : Type 0} (owned : Op → Bool) (number : N → Val) (defs slice : List (Def T N)) (same : slice ≡ defs) (sorts vars : List Sort) (all : sorts ≡ vars) (values : List Val) (sorted : map sort_of_value values ≡ vars) (term : Expr) where
  pub fits_where : (found : Option Sort) → found ≡ sort_in (scope_of owned slice) sorts term → is_some found ≡ true → (let none_to_find : List (Term T N) = [] in FitsWith owned number defs none_to_find values term)
  fits_where None is some = absurd (true≢false (sym some))
  fits_where (Some sort) is some = record {
    wanted = [];
    bodies = tt;
    fits = record {
      sort = sort;
      is = ap (λ (vs : List Sort). sort_in (scope_of owned defs) vs term) (sorted ∙ sym all) ∙ ap (λ (ds : List (Def T N)). sort_in (scope_of owned ds) sorts term) (sym same) ∙ sym is;
    };
  }

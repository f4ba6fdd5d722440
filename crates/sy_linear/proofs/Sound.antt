-- A query for which a tree is accepted is never satisfied.
use Rattle.std.specs.Prelude.{◌≡◌, true, false, List, [], ◌∷◌, ◌++◌, map, All}
use Rattle.std.specs.List.{list_all}
use Rattle.std.proofs.Common.{refl, sym, ◌∙◌, ap}
use Rattle.std.proofs.lemmas.List.Elements.{All-head, All-tail}
use Rattle.sy_terms.specs.Values.{Val, Truth, Whole, Bits, truth}
use Rattle.sy_terms.specs.Theories.{sort_of_value}
use Rattle.sy_terms.specs.declared.sort.Sort.{Sort}
use Rattle.sy_terms.specs.declared.sort.Sort.TheVariants as sorts
use Rattle.sy_meaning_integers.specs.Lia.{owned, numeric}
use Rattle.sy_grammar_base.specs.Formed.{is_known}
use Rattle.sy_query_base.specs.Asked.{Query, QueryFits, Satisfies, IsNever}
use Rattle.sy_lower_laws.specs.Lowering.{lowering}
use Rattle.sy_lower_laws.proofs.Lowered.{lowering_is}
use Rattle.sy_linear_known.specs.declared.tree.Tree.{Tree}
use Rattle.sy_linear_known.specs.Right.{Assigns, is_linear_sort}
use Rattle.sy_linear_known.specs.Stored.{tree_shape_of}
use Rattle.sy_linear_known.specs.Trees.{TreeRefutes}
use Rattle.sy_linear_known.proofs.Refutation.{never_satisfied}
use Rattle.sy_linear.specs.Accepted.{linear_query, Accepted}

is_linear : (sort : Sort) → is_known numeric sort ≡ true → is_linear_sort sort ≡ true
is_linear sorts.Bool e = refl
is_linear sorts.Int e = refl
is_linear (sorts.Bits w) e = absurd cc

-- the sorts of the theory are those of linear arithmetic
pub are_linear : (vars : List Sort) → All (λ sort. is_known numeric sort ≡ true) vars → list_all is_linear_sort vars ≡ true
are_linear [] h = refl
are_linear (sort ∷ vars) h = rw (is_linear sort (All-head (λ sort. is_known numeric sort ≡ true) sort vars h), are_linear vars (All-tail (λ sort. is_known numeric sort ≡ true) sort vars h))

-- values of the variables' sorts are an assignment
pub values_assign : (vars : List Sort) (values : List Val) → list_all is_linear_sort vars ≡ true → map sort_of_value values ≡ vars → Assigns vars values
values_assign [] [] h e = tt
values_assign [] (value ∷ values) h e = absurd cc
values_assign (sort ∷ vars) [] h e = absurd cc
values_assign (sorts.Int ∷ vars) (Whole z ∷ values) h e = let rest : map sort_of_value values ≡ vars = cc in values_assign vars values h rest
values_assign (sorts.Int ∷ vars) (Truth b ∷ values) h e = absurd cc
values_assign (sorts.Int ∷ vars) (Bits w n ∷ values) h e = absurd cc
values_assign (sorts.Bool ∷ vars) (Truth b ∷ values) h e = let rest : map sort_of_value values ≡ vars = cc in values_assign vars values h rest
values_assign (sorts.Bool ∷ vars) (Whole z ∷ values) h e = absurd cc
values_assign (sorts.Bool ∷ vars) (Bits w n ∷ values) h e = absurd cc
values_assign (sorts.Bits w ∷ vars) (value ∷ values) h e = absurd cc

disagree : true ≡ false → ⊥
disagree e = cc

-- a query of linear arithmetic that a tree refutes has no values that satisfy it
never_linear : (query : Query) (proof : Tree) (values : List Val) → QueryFits owned numeric query → TreeRefutes (linear_query query) [] (tree_shape_of proof) → Satisfies query values → ⊥
never_linear query proof values fits refutes satisfied =
    disagree (sym (ap truth satisfied.true) ∙ never_satisfied (linear_query query) (tree_shape_of proof) refutes values (values_assign query.variables values (are_linear query.variables fits.variables) satisfied.sorted.sorted))

pub sound : (query : Query) (proof : Tree) → QueryFits owned numeric query → Accepted query proof → IsNever query
sound query proof fits accepted values are is =
    let lowered = lowering_is query fits accepted.integers in
    let more = lowered.onto values (record { sorted = are; true = is }) in
    never_linear (lowering query) proof (values ++ more.0) lowered.fits accepted.refutes more.1

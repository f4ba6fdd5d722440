-- Queries that fit, the values of a model, and what answers to lowered queries say.
use Rattle.std.specs.Prelude.{◌≡◌, true, List, [], ◌∷◌, map, All, length, ◌<◌, ◌^◌, ℤ}
use Rattle.std.proofs.Common.{refl, ap, sym, subst, take}
use Rattle.std.proofs.lemmas.List.{take-map}
use Rattle.std.proofs.lemmas.List.Elements.{All-nil, All-cons}
use Rattle.sy_query_limits.specs.declared.Limits.{Limits}
use Rattle.sy_terms.specs.Values.{Val, Truth, Whole, Bits}
use Rattle.sy_terms.specs.Denoted.{val_of, vals_of}
use Rattle.sy_terms.specs.declared.sort.Value.{Value}
use Rattle.sy_terms.specs.Expr.{nodes}
use Rattle.sy_terms.specs.Theories.{sort_of_value, valid}
use Rattle.sy_terms.specs.declared.sort.Sort.{Sort}
use Rattle.sy_terms.specs.declared.sort.Sort.TheVariants as sorts
use Rattle.sy_meaning_integers.specs.Lia.{owned, numeric}
use Rattle.sy_query_base.specs.Asked.{Query, QueryFits, Satisfies}
use Rattle.sy_lower_laws.specs.Lowering.{lowering}
use Rattle.sy_lower_laws.specs.Laws.{has_integers}
use Rattle.sy_lower_laws.proofs.Lowered.{lowering_is}
use Rattle.sy_linear_known.specs.declared.tree.Tree.{Tree}
use Rattle.sy_linear_known.specs.Right.{Assigns}
use Rattle.sy_linear_known.specs.Stored.{tree_shape_of}
use Rattle.sy_linear_known.specs.Trees.{TreeRefutes}
use Rattle.sy_linear.specs.Accepted.{linear_query, Accepted}
use Rattle.sy_linear.proofs.Sound.{are_linear}
use Rattle.sy_intsolve_cuts.specs.declared.spent.IntSpent.{IntSpent}
use Rattle.sy_intsolve_cuts.specs.Budgets.{budget, Shows}
use Rattle.sy_intsolve.specs.Ways.{IsNumberedQuery}
use Rattle.sy_intsolve.specs.States.{IsModelOfQuery, IsSpentFor}
use Rattle.sy_intsolve.specs.Proofs.{ShowsFor}

pub asked : (query : Query) → QueryFits owned numeric query → nodes query.body < 2 ^ 31 → length query.variables < 2 ^ 31 → IsNumberedQuery (linear_query query)
asked query fits n v = record {
  fits = record { vars = are_linear query.variables fits.variables; body = fits.body };
  nodes = n;
  vars = v;
}

-- the lowered query fits
pub fits_lowered : (query lowered : Query) → lowered ≡ lowering query → QueryFits owned numeric query → has_integers query.body ≡ true → QueryFits owned numeric lowered
fits_lowered query lowered is fits integers = subst (QueryFits owned numeric) (sym is) (lowering_is query fits integers).fits

assign_sorted : (vars : List Sort) (values : List Val) → Assigns vars values → map sort_of_value values ≡ vars
assign_sorted [] [] h = refl
assign_sorted [] (value ∷ values) h = absurd h
assign_sorted (sorts.Int ∷ vars) [] h = absurd h
assign_sorted (sorts.Bool ∷ vars) [] h = absurd h
assign_sorted (sorts.Bits w ∷ vars) [] h = absurd h
assign_sorted (sorts.Int ∷ vars) (Whole z ∷ values) h = ap (λ rest. sorts.Int ∷ rest) (assign_sorted vars values h)
assign_sorted (sorts.Int ∷ vars) (Truth b ∷ values) h = absurd h
assign_sorted (sorts.Int ∷ vars) (Bits w n ∷ values) h = absurd h
assign_sorted (sorts.Bool ∷ vars) (Truth b ∷ values) h = ap (λ rest. sorts.Bool ∷ rest) (assign_sorted vars values h)
assign_sorted (sorts.Bool ∷ vars) (Whole z ∷ values) h = absurd h
assign_sorted (sorts.Bool ∷ vars) (Bits w n ∷ values) h = absurd h
assign_sorted (sorts.Bits w ∷ vars) (Whole z ∷ values) h = absurd h
assign_sorted (sorts.Bits w ∷ vars) (Truth b ∷ values) h = absurd h
assign_sorted (sorts.Bits w ∷ vars) (Bits x n ∷ values) h = absurd h

assign_valid : (vars : List Sort) (values : List Val) → Assigns vars values → All (λ value. valid value ≡ true) values
assign_valid [] [] h = All-nil (λ value. valid value ≡ true)
assign_valid [] (value ∷ values) h = absurd h
assign_valid (sorts.Int ∷ vars) [] h = absurd h
assign_valid (sorts.Bool ∷ vars) [] h = absurd h
assign_valid (sorts.Bits w ∷ vars) [] h = absurd h
assign_valid (sorts.Int ∷ vars) (Whole z ∷ values) h = All-cons (λ value. valid value ≡ true) (Whole z) values refl (assign_valid vars values h)
assign_valid (sorts.Int ∷ vars) (Truth b ∷ values) h = absurd h
assign_valid (sorts.Int ∷ vars) (Bits w n ∷ values) h = absurd h
assign_valid (sorts.Bool ∷ vars) (Truth b ∷ values) h = All-cons (λ value. valid value ≡ true) (Truth b) values refl (assign_valid vars values h)
assign_valid (sorts.Bool ∷ vars) (Whole z ∷ values) h = absurd h
assign_valid (sorts.Bool ∷ vars) (Bits w n ∷ values) h = absurd h
assign_valid (sorts.Bits w ∷ vars) (Whole z ∷ values) h = absurd h
assign_valid (sorts.Bits w ∷ vars) (Truth b ∷ values) h = absurd h
assign_valid (sorts.Bits w ∷ vars) (Bits x n ∷ values) h = absurd h

satisfied : (query : Query) (values : List (Value ℤ)) → IsModelOfQuery (linear_query query) values → Satisfies query (vals_of Whole values)
satisfied query values h = record {
  sorted = record { sorted = assign_sorted query.variables _ h.0; valid = assign_valid query.variables _ h.0 };
  true = h.1;
}

-- ---- what an answer to the lowered query says of the query
pub never : (query lowered : Query) (tree : Tree) → lowered ≡ lowering query → has_integers query.body ≡ true → TreeRefutes (linear_query lowered) [] (tree_shape_of tree) → Accepted query tree
never query lowered tree is integers refutes = record {
  integers = integers;
  refutes = subst (λ (l : Query). TreeRefutes (linear_query l) [] (tree_shape_of tree)) is refutes;
}

pub model : (query lowered : Query) (values : List (Value ℤ)) → lowered ≡ lowering query → QueryFits owned numeric query → has_integers query.body ≡ true → IsModelOfQuery (linear_query lowered) values →
    Satisfies query (vals_of Whole (take (length query.variables) values))
model query lowered values is fits integers h =
    let whole : Satisfies (lowering query) (vals_of Whole values) = subst (λ (l : Query). Satisfies l (vals_of Whole values)) is (satisfied lowered values h) in
    subst (Satisfies query) (take-map (val_of Whole) (length query.variables) values) ((lowering_is query fits integers).back (vals_of Whole values) whole)

pub spent : (query lowered : Query) (limits : Limits) (kept : IntSpent) → lowered ≡ lowering query → IsSpentFor (linear_query lowered) limits kept → ShowsFor query limits (budget kept) kept
spent query lowered limits kept is h = subst (λ (l : Query). Shows (linear_query l) limits (budget kept) kept) is h

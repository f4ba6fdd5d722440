-- Queries without variables, and the constant that each of them is.
use Rattle.std.specs.Prelude.{ℕ, ◌≡◌, ◌↔◌, ◌≤◌, ◌<◌, ◌*◌, ◌^◌, Bool, true, false, List, [], ◌∷◌, map, length, Some, IsTrue}
use Rattle.std.proofs.Common.{refl, sym, ap, subst, ◌∙◌, arith}
use Rattle.std.proofs.lemmas.List.{length-map}
use Rattle.std.proofs.lemmas.List.Elements.{All-nil}
use Rattle.sy_terms.specs.Values.{Val, Truth, Whole, Bits}
use Rattle.sy_terms.specs.Expr.{Expr, Constant}
use Rattle.sy_terms.specs.Denoted.{expr_of, expr_of-Const}
use Rattle.sy_terms.specs.Theories.{sort_of_value, valid}
use Rattle.sy_terms.specs.Fitting.{sort_in}
use Rattle.sy_terms.specs.Meaning.{meaning}
use Rattle.sy_terms.specs.declared.op.Op.{Op}
use Rattle.sy_terms.specs.declared.sort.Sort.{Sort}
use Rattle.sy_terms.specs.declared.sort.Sort.TheVariants as sorts
use Rattle.sy_terms.specs.declared.sort.Value.TheVariants as values
use Rattle.sy_terms.specs.declared.term.Def.{Def}
use Rattle.sy_terms.specs.declared.term.Term.{Term}
use Rattle.sy_terms.specs.declared.term.Term.TheVariants.{Const}
use Rattle.sy_terms_operators.specs.Evaluation.{GivesValue}
use Rattle.sy_grammar_base.specs.Formed.{is_known}
use Rattle.sy_grammar_base.specs.Solving.{AreValues}
use Rattle.sy_query_base.specs.Weights.{weight, query_scope}
use Rattle.sy_query_base.specs.Asked.{Query, QueryFits, Satisfies}
use Rattle.sy_meaning_words.specs.Vectors.{owned, is_bits}
use Rattle.sy_bits_circuit.specs.Clauses.{Blasted, HasCircuitClauses, query_size}
use Rattle.sy_bits_circuit.proofs.Alike.{same_clauses}

pub no_items : {X : Type 0} (xs : List X) → length xs ≡ 0 → xs ≡ []
no_items [] none = refl
no_items (x ∷ xs) none = absurd (omega (arith, none))

no_values : (values : List Val) (kinds : List Sort) → map sort_of_value values ≡ kinds → kinds ≡ [] → values ≡ []
no_values values kinds sorted none = no_items values (sym (length-map values sort_of_value) ∙ ap length (sorted ∙ none))

abbrev truth_in : Val → Bool
truth_in (Truth truth) = truth
truth_in (Whole number) = false
truth_in (Bits width number) = false

-- evaluation at no values says whether no values satisfy the query
pub evaluated : {T N : Type 0} (number : N → Val) (query : Query) (defs : List (Def T N)) (values : List Val) (value : Val) (truth : Bool) → QueryFits owned is_bits query → length query.variables ≡ 0 → defs ≡ [] → values ≡ [] → value ≡ Truth truth →
    GivesValue {T = T} owned number defs [] values query.body value → IsTrue truth ↔ Satisfies query []
evaluated {T} {N} number query defs values value truth fits closed none nothing is gives =
    let open_sorts = no_items query.variables closed in
    let by_defs : GivesValue {T = T} owned number [] [] values query.body value = subst (λ (ds : List (Def T N)). GivesValue owned number ds [] values query.body value) none gives in
    let at_none : GivesValue {T = T} owned number [] [] [] query.body value = subst (λ (vs : List Val). GivesValue {T = T} {N = N} owned number [] [] vs query.body value) nothing by_defs in
    let has = at_none [] tt (record { sort = sorts.Bool; is = subst (λ ss. sort_in (query_scope owned) ss query.body ≡ Some sorts.Bool) open_sorts fits.body }) in (
      (λ yes. record { sorted = record { sorted = sym open_sorts; valid = All-nil (λ v. valid v ≡ true) }; true = sym has.meaning ∙ is ∙ ap Truth yes }),
      (λ satisfied. ap truth_in (sym is ∙ has.meaning ∙ satisfied.true)),
    )

-- the query of a constant
abbrev pub constantly : Bool → Query
constantly truth = record { variables = []; body = Constant (Truth truth) }

pub constant_fits : (truth : Bool) → QueryFits owned is_bits (constantly truth)
unfolding sort_in
constant_fits truth = record { variables = All-nil (λ sort. is_known is_bits sort ≡ true); body = refl }

pub constant_size : (truth : Bool) → query_size (constantly truth) ≡ 1
unfolding weight sort_in
constant_size truth = refl

constant_satisfied : (truth : Bool) (values : List Val) → Satisfies (constantly truth) values ↔ (AreValues [] values × IsTrue truth)
unfolding meaning
constant_satisfied truth values = ((λ satisfied. (satisfied.sorted, ap truth_in satisfied.true)), (λ both. record { sorted = both.0; true = ap Truth both.1 }))

alike : (query : Query) (truth : Bool) → query.variables ≡ [] → (IsTrue truth ↔ Satisfies query []) → (values : List Val) → Satisfies (constantly truth) values ↔ Satisfies query values
alike query truth closed says values = (
  (λ satisfied.
      let both = (constant_satisfied truth values).0 satisfied in
      subst (λ (vs : List Val). Satisfies query vs) (sym (no_values values [] both.0.sorted refl)) (says.0 both.1)),
  (λ satisfied.
      let none = no_values values query.variables satisfied.sorted.sorted closed in
      (constant_satisfied truth values).1 (subst (λ ss. AreValues ss values) closed satisfied.sorted, says.1 (subst (λ (vs : List Val). Satisfies query vs) none satisfied))),
)

-- what is written as a constant, without variables
pub constant_written : (T : Type 0) {N : Type 0} (number : N → Val) (vars : List Sort) (truth : Bool) → vars ≡ [] →
    let term : Term T N = Const (values.Truth truth) in let query : Query = record { variables = vars; body = expr_of number term } in query ≡ constantly truth
constant_written T {N} number vars truth none =
    let term : Term T N = Const (values.Truth truth) in
    let query : List Sort → Expr → Query = λ vs body. record { variables = vs; body = body } in
    ap (λ vs. query vs (expr_of number term)) none ∙ ap (query []) (expr_of-Const T number (values.Truth truth))

pub written_fits : (query : Query) (truth : Bool) → query ≡ constantly truth → QueryFits owned is_bits query
written_fits query truth same = subst (λ q. QueryFits owned is_bits q) (sym same) (constant_fits truth)

pub written_room : (query : Query) (truth : Bool) → query ≡ constantly truth → 1000 * query_size query < 2 ^ 31
written_room query truth same = let one : query_size query ≡ 1 = ap query_size same ∙ constant_size truth in omega (arith, one)

-- the constant's clauses say what the query says
pub says_closed : (query : Query) (truth : Bool) (size : ℕ) (circuit : Blasted) → length query.variables ≡ 0 → 1 ≤ size → size ≤ query_size query → (IsTrue truth ↔ Satisfies query []) →
    HasCircuitClauses (constantly truth) circuit.clauses → HasCircuitClauses query circuit.clauses
says_closed query truth size circuit closed some least says has =
    let none = no_items query.variables closed in
    let one = constant_size truth in
    same_clauses query (constantly truth) circuit.clauses (sym none) (alike query truth none says)
    (omega (arith, has.few_variables, one, some, least)) (omega (arith, has.few_clauses, one, some, least)) has

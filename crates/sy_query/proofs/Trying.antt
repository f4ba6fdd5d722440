-- What evaluation says of a query.
use Rattle.std.specs.Prelude.{◌≡◌, ◌<◌, ◌+◌, ℕ, Bool, true, List, [], ◌∷◌, ◌++◌, length, take, get_or, Some}
use Rattle.std.proofs.Common.{refl, subst, sym, ◌∙◌}
use Rattle.std.proofs.lemmas.List.{map-append, take_more}
use Rattle.std.proofs.lemmas.List.Elements.{All-push}
use Rattle.sy_terms.specs.Values.{Val, Truth}
use Rattle.sy_terms.specs.Fitting.{sort_in}
use Rattle.sy_terms.specs.Theories.{sort_of_value, valid}
use Rattle.sy_terms.specs.declared.op.Op.{Op}
use Rattle.sy_terms.specs.declared.sort.Sort.{Sort}
use Rattle.sy_terms.specs.declared.sort.Sort.TheVariants as sorts
use Rattle.sy_terms.specs.declared.term.Def.{Def}
use Rattle.sy_terms_operators.specs.Evaluation.{TermFits, GivesValue}
use Rattle.sy_grammar_base.specs.Solving.{AreValues}
use Rattle.sy_query_base.specs.Weights.{query_scope}
use Rattle.sy_query_base.specs.Asked.{Query, QueryFits, Satisfies}

term_fits : (owned : Op → Bool) (numeric : Sort → Bool) (query : Query) (values : List Val) → QueryFits owned numeric query → AreValues query.variables values → TermFits (query_scope owned) values query.body
term_fits owned numeric query values fits are = record { sort = sorts.Bool; is = subst (λ ss. sort_in (query_scope owned) ss query.body ≡ Some sorts.Bool) (sym are.sorted) fits.body }

-- where evaluation gives true, the query is satisfied
pub satisfied : {T N : Type 0} (owned : Op → Bool) (numeric : Sort → Bool) (number : N → Val) (query : Query) (values : List Val) (defs : List (Def T N)) (value : Val) → QueryFits owned numeric query → AreValues query.variables values → defs ≡ [] → GivesValue owned number defs [] values query.body value → value ≡ Truth true → Satisfies query values
satisfied {T} {N} owned numeric number query values defs value fits are none gives holds =
    let now : GivesValue {T = T} owned number [] [] values query.body value = subst (λ (ds : List (Def T N)). GivesValue owned number ds [] values query.body value) none gives in
    record { sorted = are; true = sym (now [] tt (term_fits owned numeric query values fits are)).meaning ∙ holds }

-- one value more
pub one_more : (sorts : List Sort) (index : ℕ) (d : Sort) (values : List Val) (value : Val) → index < length sorts → AreValues (take index sorts) values → sort_of_value value ≡ get_or sorts index d → valid value ≡ true → AreValues (take (index + 1) sorts) (values ++ value ∷ [])
one_more sorts index d values value here are same holds = rw (take_more sorts index d here) (record {
  sorted = rw (map-append, are.sorted, same) refl;
  valid = All-push (λ (v : Val). valid v ≡ true) values value are.valid holds;
})

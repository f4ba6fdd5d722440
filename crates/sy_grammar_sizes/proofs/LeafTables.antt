-- Tables of what rules for all of a sort give.
use Rattle.std.proofs.Common.{◌≡◌, ℕ, ◌<◌, ◌≤◌, List, [], ◌∷◌, ◌++◌, length, length-append, map, refl, ap, sym, ◌∙◌, arith, subst, Option, Some, None, slice_get, min, inl, inr}
use Rattle.std.proofs.lemmas.List.{length-map}
use Rattle.std.proofs.lemmas.Option.{slice_get_past, slice_get_within, slice_get_cases}
use Rattle.sy_terms.specs.Values.{Val}
use Rattle.sy_terms.specs.declared.sort.Sort.{Sort}
use Rattle.sy_grammar_base.specs.Trees.{Production, rule_of}
use Rattle.sy_grammar_base.specs.Grown.{production_of, nonterminal_of, syntax_from}
use Rattle.sy_grammar_base.specs.declared.grammar.Non.{Non}
use Rattle.sy_grammar_base.specs.declared.grammar.Grammar.{Grammar}
use Rattle.sy_grammar_sizes.specs.Greatest.{IsSize}
use Rattle.sy_grammar_sizes.specs.Tables.{GivesLeaf, GivesLeaves, IsBest, IsTable, larger, table_entry, entry_in_table}
use Rattle.sy_grammar_sizes.proofs.Best.{best_more}
use Rattle.sy_grammar_sizes.proofs.Derived.{leaf_is}
use Rattle.sy_grammar_sizes.proofs.Lists.{get-last, get-before, get-end, rule_at-is}

-- one rule more
pub leaves_more : (limit : ℕ) (arguments : List Sort) (pool : List Val) (productions : List Production) (production : Production) (p q : Option ℕ) →
    IsBest limit (GivesLeaves arguments pool productions) p → IsBest limit (GivesLeaf arguments pool production) q → IsBest limit (GivesLeaves arguments pool (productions ++ production ∷ [])) (larger p q)
leaves_more limit arguments pool productions production p q first second =
    best_more limit (GivesLeaves arguments pool productions) (GivesLeaf arguments pool production) (GivesLeaves arguments pool (productions ++ production ∷ [])) p q first second
    (λ size of. elim (get-last productions production of.rule of.production of.at) [
      | inl old ↦ inl (record { rule = of.rule; production = of.production; at = old; gives = of.gives })
      | inr new ↦ inr (subst (λ x. GivesLeaf arguments pool x size) new.1 of.gives)
    ])
    (λ size of. record { rule = of.rule; production = of.production; at = get-before productions production of.rule of.production of.at; gives = of.gives })
    (λ size gives. record { rule = length productions; production = production; at = get-end productions production; gives = gives })

pub leaves_none : (limit : ℕ) (arguments : List Sort) (pool : List Val) → IsBest limit (GivesLeaves arguments pool []) None
leaves_none limit arguments pool size of = let at = of.at in cc

-- the entries of these nonterminals
pub record IsLeafTable {T N : Type 0} (number : N → Val) (arguments : List Sort) (pool : List Val) (limit : ℕ) (items : List (Non T N)) (table : List (Option ℕ)) : Type 0 where
  pub sized : length table ≡ length items
  pub each : (place : ℕ) (item : Non T N) → slice_get items place ≡ Some item → IsBest limit (GivesLeaves arguments pool (map (production_of number) item.rules)) (table_entry table place)

pub leaf_table_none : {T N : Type 0} (number : N → Val) (arguments : List Sort) (pool : List Val) (limit : ℕ) (table : List (Option ℕ)) → table ≡ [] → IsLeafTable {T = T} number arguments pool limit [] table
leaf_table_none number arguments pool limit table is = record { sized = ap length is; each = λ place item at. absurd cc }

pub leaf_table_more : {T N : Type 0} (number : N → Val) (arguments : List Sort) (pool : List Val) (limit : ℕ) (items : List (Non T N)) (item : Non T N) (table : List (Option ℕ)) (best : Option ℕ) → IsLeafTable number arguments pool limit items table →
    IsBest limit (GivesLeaves arguments pool (map (production_of number) item.rules)) best → IsLeafTable number arguments pool limit (items ++ item ∷ []) (table ++ best ∷ [])
leaf_table_more number arguments pool limit items item table best is found = record {
  sized = let one = length-append items (item ∷ []) in let other = length-append table (best ∷ []) in omega (arith, one, other, is.sized);
  each = λ place next at. elim (get-last items item place next at) [
    | inl old ↦
        let within = slice_get_within items place next old in
        subst (IsBest limit (GivesLeaves arguments pool (map (production_of number) next.rules))) (sym (entry_kept table best place (omega (arith, within, is.sized)))) (is.each place next old)
    | inr new ↦
        subst (λ x. IsBest limit (GivesLeaves arguments pool (map (production_of number) x.rules)) (table_entry (table ++ best ∷ []) place)) (sym new.1)
        (subst (IsBest limit (GivesLeaves arguments pool (map (production_of number) item.rules))) (sym (entry_last table best place (new.0 ∙ sym is.sized))) found)
  ];
}
  where
    entry_kept : (table : List (Option ℕ)) (best : Option ℕ) (place : ℕ) → place < length table → table_entry (table ++ best ∷ []) place ≡ table_entry table place
    entry_kept table best place within = elim ((slice_get_cases table place).1) [
      | inl here ↦ ap entry_in_table (get-before table best place here.0 here.2) ∙ sym (ap entry_in_table here.2)
      | inr past ↦ absurd (omega (arith, within, past.0))
    ]

    entry_last : (table : List (Option ℕ)) (best : Option ℕ) (place : ℕ) → place ≡ length table → table_entry (table ++ best ∷ []) place ≡ best
    entry_last table best place is = ap (table_entry (table ++ best ∷ [])) is ∙ ap entry_in_table (get-end table best)

best_there : (limit : ℕ) (Kind : ℕ → Type 0) (found : Option ℕ) (size : ℕ) → IsBest limit Kind found → Kind size → (best : ℕ) × (found ≡ Some best) × (min limit size ≤ best)
best_there limit Kind None size best of = absurd (best size of)
best_there limit Kind (Some m) size best of = (m, refl, best.1 size of)

pub leaf_table_done : {T N : Type 0} (number : N → Val) (grammar : Grammar T N) (pool : List Val) (limit : ℕ) (table : List (Option ℕ)) → IsLeafTable number grammar.args pool limit grammar.nons table → IsTable (syntax_from number grammar) pool limit table
leaf_table_done {T} {N} number grammar pool limit table is = record {
  sized = is.sized ∙ sym (length-map grammar.nons (nonterminal_of number));
  sound = λ nonterminal best e. elim ((slice_get_cases grammar.nons nonterminal).1) [
    | inl here ↦ sound nonterminal here.0 best here.2 (subst (IsBest limit (GivesLeaves grammar.args pool (map (production_of number) here.0.rules))) e (is.each nonterminal here.0 here.2))
    | inr past ↦ absurd (let gone = ap entry_in_table (slice_get_past table nonterminal (omega (arith, past.0, is.sized))) in cc)
  ];
  leaves = λ nonterminal rule production size at gives. elim ((slice_get_cases grammar.nons nonterminal).1) [
    | inl here ↦
        best_there limit (GivesLeaves grammar.args pool (map (production_of number) here.0.rules)) (table_entry table nonterminal) size (is.each nonterminal here.0 here.2)
        (record { rule = rule; production = production; at = sym (rule_at-is number grammar nonterminal rule here.0 here.2) ∙ at; gives = gives })
    | inr past ↦ absurd (
        let sized = length-map grammar.nons (nonterminal_of number) in
        let gone = ap (λ found. rule_of found rule) (slice_get_past (syntax_from number grammar).nonterminals nonterminal (omega (arith, past.0, sized))) in
        cc)
  ];
}
  where
    sound : (nonterminal : ℕ) (item : Non T N) (best : ℕ) → slice_get grammar.nons nonterminal ≡ Some item → IsBest limit (GivesLeaves grammar.args pool (map (production_of number) item.rules)) (Some best) →
        (size : ℕ) × IsSize (syntax_from number grammar) pool nonterminal size × (min limit size ≡ best)
    sound nonterminal item best at found =
        let of = found.0.1 in
        (found.0.0, leaf_is (syntax_from number grammar) pool nonterminal of.rule of.production found.0.0 (rule_at-is number grammar nonterminal of.rule item at ∙ of.at) of.gives, found.0.2)

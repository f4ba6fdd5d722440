-- The part of a nonterminal's rule, by what was found of both.
use Rattle.std.proofs.Common.{◌≡◌, ◌≤◌, ℕ, length, map, Option, Some, None, slice_get, ap, ◌∙◌, arith}
use Rattle.std.specs.Option.{option_map}
use Rattle.std.proofs.lemmas.List.{length-map}
use Rattle.std.proofs.lemmas.Option.{slice_get_past, slice_get-map}
use Rattle.sy_terms.specs.Values.{Val}
use Rattle.sy_grammar_base.specs.Trees.{Nonterminal, rule_of, template, template_at}
use Rattle.sy_grammar_base.specs.Grown.{syntax_from, nonterminal_of, production_of}
use Rattle.sy_grammar_base.specs.declared.grammar.Grammar.{Grammar}
use Rattle.sy_grammar_base.specs.declared.grammar.Non.{Non}
use Rattle.sy_grammar_base.specs.declared.grammar.Rule.{Rule}

found_at : {T N : Type 0} (number : N → Val) (grammar : Grammar T N) (nonterminal rule : ℕ) (found : Non T N) → slice_get grammar.nons nonterminal ≡ Some found →
    template_at (syntax_from number grammar) nonterminal rule ≡ template (slice_get (map (production_of number) found.rules) rule)
found_at number grammar nonterminal rule found at =
    ap (λ (o : Option Nonterminal). template (rule_of o rule)) (slice_get-map (nonterminal_of number) grammar.nons nonterminal ∙ ap (option_map (nonterminal_of number)) at)

pub rule_read : {T N : Type 0} (number : N → Val) (grammar : Grammar T N) (nonterminal rule : ℕ) (found : Non T N) (read : Rule T N) → slice_get grammar.nons nonterminal ≡ Some found → slice_get found.rules rule ≡ Some read →
    template_at (syntax_from number grammar) nonterminal rule ≡ template (Some (production_of number read))
rule_read number grammar nonterminal rule found read at there =
    found_at number grammar nonterminal rule found at ∙ ap template (slice_get-map (production_of number) found.rules rule ∙ ap (option_map (production_of number)) there)

pub rule_past : {T N : Type 0} (number : N → Val) (grammar : Grammar T N) (nonterminal rule : ℕ) (found : Non T N) → slice_get grammar.nons nonterminal ≡ Some found → length found.rules ≤ rule →
    template_at (syntax_from number grammar) nonterminal rule ≡ None
rule_past number grammar nonterminal rule found at past =
    found_at number grammar nonterminal rule found at ∙ ap template (slice_get_past (map (production_of number) found.rules) rule (omega (arith, length-map found.rules (production_of number), past)))

pub nonterminal_past : {T N : Type 0} (number : N → Val) (grammar : Grammar T N) (nonterminal rule : ℕ) → length grammar.nons ≤ nonterminal →
    template_at (syntax_from number grammar) nonterminal rule ≡ None
nonterminal_past number grammar nonterminal rule past =
    ap (λ (o : Option Nonterminal). template (rule_of o rule)) (slice_get_past (map (nonterminal_of number) grammar.nons) nonterminal (omega (arith, length-map grammar.nons (nonterminal_of number), past)))

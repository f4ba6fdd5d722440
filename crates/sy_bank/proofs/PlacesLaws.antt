-- A nonterminal and its rules, as the code reads them.
use Rattle.std.proofs.Common.{◌≡◌, ℕ, zero, suc, ◌<◌, ◌^◌, List, [], ◌∷◌, length, refl, ap, sym, ◌∙◌, Some, slice_get, get_or, map, arith, subst}
use Rattle.std.proofs.lemmas.List.{length-map}
use Rattle.sy_terms.specs.Values.{Val}
use Rattle.sy_grammar_base.specs.Trees.{Syntax, IsNumbered, rule_at}
use Rattle.sy_grammar_base.specs.Grown.{nonterminal_of, production_of}
use Rattle.sy_grammar_base.specs.declared.grammar.Non.{Non}
use Rattle.sy_grammar_base.specs.declared.grammar.Rule.{Rule}
use Rattle.sy_bank_level.specs.Filling.{World}
use Rattle.sy_bank_level.proofs.TriedLemmas.{at-rule}

pub place : {X Y : Type 0} (f : X → Y) (xs : List X) (i : ℕ) (x : X) → i < length xs → slice_get (map f xs) i ≡ Some (f (get_or xs i x))
place f [] i x within = absurd (omega arith)
place f (y ∷ xs) zero x within = refl
place f (y ∷ xs) (suc i) x within = place f xs i x (omega (arith, within))

-- the rule of this number, where the nonterminal's rules were read
pub rule-place : {T N : Type 0} (number : N → Val) (w : World) (n i : ℕ) (non : Non T N) (read : List (Rule T N)) (rule : Rule T N) → slice_get w.syntax.nonterminals n ≡ Some (nonterminal_of number non) → read ≡ non.rules →
    i < length read → rule ≡ get_or read i rule → rule_at w.syntax n i ≡ Some (production_of number rule)
rule-place {T} {N} number w n i non read rule at same within is =
    let here : slice_get (map (production_of number) read) i ≡ Some (production_of number rule) = place (production_of number) read i rule within ∙ ap (λ (r : Rule T N). Some (production_of number r)) (sym is) in
    at-rule w n i (nonterminal_of number non) (production_of number rule) at (subst (λ (rules : List (Rule T N)). slice_get (map (production_of number) rules) i ≡ Some (production_of number rule)) same here)

-- there are few rules
pub few-rules : {T N : Type 0} (number : N → Val) (syntax : Syntax) (n : ℕ) (non : Non T N) (read : List (Rule T N)) → IsNumbered syntax → slice_get syntax.nonterminals n ≡ Some (nonterminal_of number non) → read ≡ non.rules → length read < 2 ^ 31
few-rules {T} {N} number syntax n non read numbered at same =
    let few = numbered.rules n (nonterminal_of number non) at in
    omega (arith, few, length-map non.rules (production_of number), ap length same)

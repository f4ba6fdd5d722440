-- Values of the theory of integers, and what truth values tell of an operator.
use Rattle.std.specs.Prelude.{◌≡◌, true, All, List, ◌++◌, ℤ, Option, Some, None}
use Rattle.std.specs.Option.{option_map}
use Rattle.std.proofs.Common.{refl, sym, ap, ◌∙◌}
use Rattle.std.proofs.lemmas.List.Elements.{All-map}
use Rattle.sy_terms.specs.Values.{Val, Whole}
use Rattle.sy_terms.specs.Theories.{valid}
use Rattle.sy_terms.specs.Denoted.{val_of, vals_of}
use Rattle.sy_terms.specs.declared.op.Op.{Op}
use Rattle.sy_terms.specs.declared.sort.Value.{Value}
use Rattle.sy_terms.specs.declared.sort.Value.TheVariants as values
use Rattle.sy_linear_known.specs.declared.sight.Sight.{Sight}
use Rattle.sy_linear_known.specs.declared.sight.Sight.TheVariants.{Open}
use Rattle.sy_linear_known.specs.declared.sight.Node.{Node}
use Rattle.sy_linear_known.specs.Sights.{truth_at, told, evaluated, by_truths_or}
use Rattle.sy_linear_known.specs.Seen.{or_open}

-- the values before, and those of the rest where all are known
abbrev pub prefixed : List (Value ℤ) → Option (List Val) → Option (List Val)
prefixed vs None = None
prefixed vs (Some ws) = Some (vals_of Whole vs ++ ws)

value_valid : (v : Value ℤ) → valid (val_of Whole v) ≡ true
value_valid (values.Truth b) = refl
value_valid (values.Num n) = refl

-- each value is one of its sort
pub all_valid : (vs : List (Value ℤ)) → All (λ v. valid v ≡ true) (vals_of Whole vs)
all_valid vs = All-map (λ v. valid v ≡ true) (val_of Whole) vs (λ k d within. value_valid _)

-- ---- operators
-- the operator's value at the values that were found
pub truths-told : (operator : Op) (known : Option (List Val)) (found : Option (List (Value ℤ))) (vs slice : List (Value ℤ)) (s : Sight) → found ≡ Some vs → option_map (vals_of Whole) found ≡ known → slice ≡ vs → s ≡ truth_at operator (vals_of Whole slice) → Some s ≡ option_map (truth_at operator) known
truths-told operator known found vs slice s is e same t =
    ap Some (t ∙ ap (λ ws. truth_at operator (vals_of Whole ws)) same)
    ∙ ap (option_map (truth_at operator)) (sym (ap (option_map (vals_of Whole)) is) ∙ e)

pub truths-none : (operator : Op) (known : Option (List Val)) (found : Option (List (Value ℤ))) → found ≡ None → option_map (vals_of Whole) found ≡ known → None ≡ option_map (truth_at operator) known
truths-none operator known found is e = ap (option_map (truth_at operator)) (sym (ap (option_map (vals_of Whole)) is) ∙ e)

-- where the operator's value is known, that is told
pub evaluated-told : (operator : Op) (known : Option (List Val)) (found : Option Sight) (s : Sight) → found ≡ Some s → found ≡ option_map (truth_at operator) known → told s ≡ evaluated operator known
evaluated-told operator (Some vs) found s is e = ap (λ o. told (or_open o)) (sym is ∙ e)
evaluated-told operator None found s is e = let never : ◌≡◌ {A = Option Sight} (Some s) None = sym is ∙ e in absurd cc

pub evaluated-none : (operator : Op) (known : Option (List Val)) (found : Option Sight) → found ≡ None → found ≡ option_map (truth_at operator) known → told Open ≡ evaluated operator known
evaluated-none operator None found is e = refl
evaluated-none operator (Some vs) found is e = let never : ◌≡◌ {A = Option Sight} None (Some (truth_at operator vs)) = sym is ∙ e in absurd cc

pub truths-before : (operator : Op) (known : Option (List Val)) (found : Option Sight) (s : Sight) (n : Node) → found ≡ Some s → found ≡ option_map (truth_at operator) known → told s ≡ by_truths_or operator known n
truths-before operator (Some vs) found s n is e = ap (λ o. told (or_open o)) (sym is ∙ e)
truths-before operator None found s n is e = let never : ◌≡◌ {A = Option Sight} (Some s) None = sym is ∙ e in absurd cc

-- and else the comparison
pub truths-else : (operator : Op) (known : Option (List Val)) (found : Option Sight) (n : Node) → found ≡ None → found ≡ option_map (truth_at operator) known → n ≡ by_truths_or operator known n
truths-else operator None found n is e = refl
truths-else operator (Some vs) found n is e = let never : ◌≡◌ {A = Option Sight} None (Some (truth_at operator vs)) = sym is ∙ e in absurd cc

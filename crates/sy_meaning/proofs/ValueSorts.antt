-- The sorts of values, one by one.
use Rattle.std.specs.Prelude.{ℕ, ◌+◌, ◌<◌, Bool, true, false, List, [], ◌∷◌, ◌++◌, ◌≡◌, refl, length, Option, Some, None, if◌then◌else◌}
use Rattle.std.proofs.Common.{arith, ap, sym, ◌∙◌, take, get_or}
use Rattle.std.proofs.lemmas.List.{take_more, length-map, get_or-map}
use Rattle.std.proofs.lemmas.List.Elements.{All-push}
use Rattle.sy_terms.specs.Values.{Val}
use Rattle.sy_terms.specs.Denoted.{val_of, vals_of, sorts_of, AreValid}
use Rattle.sy_terms.specs.Theories.{sort_of_value, valid}
use Rattle.sy_terms.specs.declared.sort.Sort.{Sort}
use Rattle.sy_terms.specs.declared.sort.Value.{Value}
use Rattle.sy_terms_operators.proofs.Equations.{if_Some}
use Rattle.sy_terms_operators.proofs.Steps.{map-both}

-- the sort of a value that is one of its sort
abbrev pub its_sort : Val → Option Sort
its_sort v = if valid v then Some (sort_of_value v) else None

pub valid-next : {N : Type 0} (number : N → Val) (values : List (Value N)) (i : ℕ) (v : Value N) (s : Sort) → i < length values → v ≡ get_or values i v → AreValid number (take i values) → its_sort (val_of number v) ≡ Some s → AreValid number (take (i + 1) values)
valid-next number values i v s within is each e =
    let ok = if_Some (valid (val_of number v)) (sort_of_value (val_of number v)) s e in
    rw (take_more values i v within, ← is, map-both number (take i values) (v ∷ [])) (All-push (λ w. valid w ≡ true) (vals_of number (take i values)) (val_of number v) each ok.0)

sorts-last : {N : Type 0} (number : N → Val) (values : List (Value N)) (v : Value N) → sorts_of number (values ++ v ∷ []) ≡ sorts_of number values ++ sort_of_value (val_of number v) ∷ []
sorts-last number [] v = refl
sorts-last number (w ∷ values) v = ap (λ (rest : List Sort). sort_of_value (val_of number w) ∷ rest) (sorts-last number values v)

pub sorts-next : {N : Type 0} (number : N → Val) (values : List (Value N)) (i : ℕ) (v : Value N) (s : Sort) (found : List Sort) → i < length values → v ≡ get_or values i v → found ≡ sorts_of number (take i values) → its_sort (val_of number v) ≡ Some s → found ++ s ∷ [] ≡ sorts_of number (take (i + 1) values)
sorts-next number values i v s found within is same e =
    let ok = if_Some (valid (val_of number v)) (sort_of_value (val_of number v)) s e in
    rw (take_more values i v within, ← is, sorts-last number (take i values) v, ok.1, same) refl

none_if : (b : Bool) (s : Sort) → None ≡ (if b then Some s else None) → b ≡ true → ⊥
none_if true s e h = cc
none_if false s e h = cc

pub not-valid : {N : Type 0} (number : N → Val) (values : List (Value N)) (i : ℕ) (v : Value N) → i < length values → v ≡ get_or values i v → None ≡ its_sort (val_of number v) → AreValid number values → ⊥
not-valid number values i v within is e each =
    let at = each i (val_of number v) (omega (arith, within, length-map values (val_of number))) in
    let is' = ap (val_of number) is ∙ sym (get_or-map (val_of number) values i v (val_of number v) within) in
    none_if (valid (val_of number v)) (sort_of_value (val_of number v)) e (ap valid is' ∙ at)

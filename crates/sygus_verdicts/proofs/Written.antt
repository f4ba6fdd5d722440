-- The texts of verdicts.
use Rattle.std.proofs.Common.{◌≡◌, ◌<◌, ◌++◌, ◌∙◌, sym, ap, subst, ◌+◌, ℕ, zero, suc, List, [], ◌∷◌, length, map, drop, get_or, append_assoc, arith, true, ◌≤◌, Some, Result, Ok, Err, OnOk}
use Rattle.std.specs.Prelude.{All, codes, slice_get}
use Rattle.std.proofs.lemmas.List.{drop_more}
use Rattle.std.proofs.lemmas.List.Elements.{All-head, All-tail}
use Rattle.sy_terms.specs.Values.{Val}
use Rattle.sy_terms.specs.Theories.{valid}
use Rattle.sy_terms.specs.Denoted.{val_of}
use Rattle.sy_terms.specs.declared.sort.Value.{Value}
use Rattle.std.proofs.lemmas.Option.{slice_get_past}
use Rattle.sy_text.specs.Spelling.{symbol_text}
use Rattle.sy_scope_causes.specs.declared.titles.Title.{Title}
use Rattle.sy_scope_causes.specs.declared.titles.Titles.{Titles}
use Rattle.sygus_verdicts.specs.Lines.{title_text, verdict_text}
use Rattle.sygus_verdicts.specs.Verdicts.{NotMember}

-- what is left of a list begins with its item at a place
pub left_at : {X : Type 0} (xs : List X) (k : ℕ) (x : X) → k < length xs → x ≡ get_or xs k x → drop k xs ≡ x ∷ drop (k + 1) xs
left_at xs k x lt at = drop_more xs k x lt ∙ ap (λ y. y ∷ drop (k + 1) xs) (sym at)

-- each value is one of its sort
pub valid_at : {N : Type 0} (number : N → Val) (values : List (Value N)) (k : ℕ) (value : Value N) → k < length values → value ≡ get_or values k value → All (λ v. valid v ≡ true) (map (val_of number) values) → valid (val_of number value) ≡ true
valid_at number [] k value lt at all = absurd (omega arith)
valid_at number (v ∷ vs) zero value lt at all =
    subst (λ x. valid (val_of number x) ≡ true) (sym at) (All-head (λ v. valid v ≡ true) (val_of number v) (map (val_of number) vs) all)
valid_at number (v ∷ vs) (suc k) value lt at all =
    valid_at number vs k value (omega arith) at (All-tail (λ v. valid v ≡ true) (val_of number v) (map (val_of number) vs) all)

-- one part after a space, of what is left
pub spaced_step : (out between new text rest total : List ℕ) → between ≡ out ++ codes " " → new ≡ between ++ text → out ++ (codes " " ++ (text ++ rest)) ≡ total → new ++ rest ≡ total
spaced_step out between new text rest total first second left =
    ap (λ bytes. bytes ++ rest) (second ∙ ap (λ zs. zs ++ text) first ∙ append_assoc out (codes " ") text) ∙ append_assoc out (codes " " ++ text) rest ∙ left

-- a tail call's answer
pub on_ok : {T E : Type 0} {P Q : Type 0} (r : Result T E) → OnOk r P → (P → Q) → OnOk r Q
on_ok (Ok x) h f = f h
on_ok (Err e) h f = tt

-- bytes appended in two steps
pub appended_twice : (old middle new xs ys : List ℕ) → middle ≡ old ++ xs → new ≡ middle ++ ys → new ≡ old ++ (xs ++ ys)
appended_twice old middle new xs ys first second = second ∙ ap (λ zs. zs ++ ys) first ∙ append_assoc old xs ys

-- the name of a function that is there, and of one that isn't
pub named : (titles : Titles) (function : ℕ) (title : Title) → slice_get titles.wanted function ≡ Some title → verdict_text titles (NotMember function) ≡ codes "not in grammar " ++ symbol_text title.name
unfolding verdict_text
named titles function title at = ap (λ found. codes "not in grammar " ++ title_text found) at

pub unnamed : (titles : Titles) (function : ℕ) → length titles.wanted ≤ function → verdict_text titles (NotMember function) ≡ codes "not in grammar "
unfolding verdict_text
unnamed titles function past = ap (λ found. codes "not in grammar " ++ title_text found) (slice_get_past titles.wanted function past)

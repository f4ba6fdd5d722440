-- Tuples of arguments, and values of sorts, one by one.
use Rattle.std.proofs.Common.{◌≡◌, ◌<◌, ◌+◌, ◌++◌, ◌∷◌, [], ◌∙◌, ℕ, List, ap, get_or, length, map, refl, subst, sym, take, true, All}
use Rattle.std.proofs.lemmas.List.{map-append, take_more}
use Rattle.std.proofs.lemmas.List.Elements.{All-push}
use Rattle.sy_terms.specs.Denoted.{AreValid, sorts_of, vals_of}
use Rattle.sy_terms.specs.Theories.{sort_of_value, valid}
use Rattle.sy_terms.specs.Values.{Val}
use Rattle.sy_terms.specs.declared.sort.Sort.{Sort}
use Rattle.sy_terms.specs.declared.sort.Value.{Value}
use Rattle.sy_grammar_base.specs.Solving.{AreValues}
use Rattle.sy_bank_level.proofs.Points.{points-more}
use Rattle.sy_bank_level.specs.Rows.{ArePointsOf}
use Rattle.sy_loop_truth.proofs.Items.{item_of}

-- a copy of the tuple that comes next is a point more
pub copied_point : {N : Type 0} (number : N → Val) (sorts found : List Sort) (points tuples : List (List (Value N))) (index : ℕ) (tuple copy : List (Value N)) → copy ≡ tuple → index < length tuples → tuple ≡ get_or tuples index tuple →
    AreValid number tuple → found ≡ sorts_of number tuple → found ≡ sorts → ArePointsOf sorts (map (vals_of number) points) → points ≡ take index tuples →
    ArePointsOf sorts (map (vals_of number) (points ++ copy ∷ [])) × (points ++ copy ∷ [] ≡ take (index + 1) tuples)
copied_point {N} number sorts found points tuples index tuple copy same within at valid is are fits all = (
  rw map-append
      (points-more sorts (map (vals_of number) points) (vals_of number copy) (subst (AreValid number) (sym same) valid)
      (subst (λ (vs : List (Value N)). map sort_of_value (vals_of number vs) ≡ sorts) (sym same) (sym is ∙ are)) fits),
  ap (λ (ps : List (List (Value N))). ps ++ copy ∷ []) all ∙ ap (λ (vs : List (Value N)). take index tuples ++ vs ∷ []) (same ∙ at) ∙ sym (take_more tuples index tuple within),
)

-- one value more, of the sort that comes next
pub one_more : (sorts : List Sort) (index : ℕ) (d : Sort) (values : List Val) (value : Val) → index < length sorts → AreValues (take index sorts) values → sort_of_value value ≡ get_or sorts index d → valid value ≡ true → AreValues (take (index + 1) sorts) (values ++ value ∷ [])
one_more sorts index d values value here are same holds = rw (take_more sorts index d here) (record {
  sorted = rw (map-append, are.sorted, same) refl;
  valid = All-push (λ (v : Val). valid v ≡ true) values value are.valid holds;
})

-- what all items have is so of the item that stands at a place
pub item_at : {A : Type 0} (P : A → Type 0) (xs : List A) (k : ℕ) (x : A) → x ≡ get_or xs k x → k < length xs → All P xs → P x
item_at P xs k x at within all = item_of P xs xs k x refl within at all

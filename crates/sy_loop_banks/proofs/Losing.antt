-- What a bank dropped.
use Rattle.std.proofs.Common.{◌≡◌, ◌<◌, ◌∙◌, refl, ap, sym, subst, ℕ, List, length, map, get_or, arith, slice_get, Some}
use Rattle.std.specs.Prelude.{IfSome}
use Rattle.std.proofs.lemmas.List.{length-map}
use Rattle.sy_terms.specs.Values.{Val}
use Rattle.sy_terms.specs.Denoted.{expr_of, vals_of}
use Rattle.sy_terms.specs.declared.sort.Value.{Value}
use Rattle.sy_terms.specs.declared.term.Term.{Term}
use Rattle.sy_bank_level.specs.Banks.{Lost}
use Rattle.sy_bank_level.specs.Stored.{lost_of}
use Rattle.sy_bank_level.specs.declared.kept.Dropped.{Dropped}
use Rattle.sy_bank.proofs.PlacesLaws.{place}
use Rattle.sy_bank_level.specs.Bank.{merged_of}
use Rattle.sy_bank_level.specs.declared.bank.Bank.{Bank}
use Rattle.sy_loop_spec.specs.declared.outcome.LoopRange.{LoopRange}
use Rattle.sy_loop_spec.specs.declared.outcome.LoopRange.TheVariants.{Member}
use Rattle.sy_loop_banks.specs.Dropping.{IsPlaced, IsDroppedBy}

pub dropped_by : {T N : Type 0} (number : N → Val) (function : ℕ) (bank : Bank T N) (points : List (List (Value N))) (dropped : Dropped T N) (tuple copy : List (Value N)) (term : Term T N) → map (vals_of number) points ≡ (merged_of number bank).points → Some (lost_of number dropped) ≡ (merged_of number bank).dropped →
    dropped.point < length points → tuple ≡ get_or points dropped.point tuple → copy ≡ tuple → expr_of number term ≡ expr_of number dropped.term → let left : LoopRange T N = Member function term copy in IsDroppedBy number function (merged_of number bank) left
dropped_by {T} {N} number function bank points dropped tuple copy term points_are is within at same copied =
    let there : slice_get (map (vals_of number) points) dropped.point ≡ Some (vals_of number tuple) = place (vals_of number) points dropped.point tuple within ∙ ap (λ (t : List (Value N)). Some (vals_of number t)) (sym at) in
    (lost_of number dropped, sym is, refl, copied, subst (λ ps. slice_get ps dropped.point ≡ Some (vals_of number copy)) points_are (there ∙ ap (λ t. Some (vals_of number t)) (sym same)))

pub placed_within : {T N : Type 0} (number : N → Val) (bank : Bank T N) (points : List (List (Value N))) (dropped : Dropped T N) → IsPlaced (merged_of number bank) → Some (lost_of number dropped) ≡ (merged_of number bank).dropped → map (vals_of number) points ≡ (merged_of number bank).points → dropped.point < length points
placed_within number bank points dropped is at points_are =
    let inside : dropped.point < length (merged_of number bank).points = subst (λ d. IfSome d (λ (lost : Lost). lost.point < length (merged_of number bank).points)) (sym at) is in
    omega (arith, inside, ap length points_are, length-map points (vals_of number))

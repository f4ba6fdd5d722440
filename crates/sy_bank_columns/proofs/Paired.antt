-- Two parts and their rows.
use Rattle.std.specs.Prelude.{ℕ, ◌≡◌, ◌<◌, ◌≤◌, List, [], ◌∷◌, length, map, refl, slice_index_or, min}
use Rattle.std.proofs.Common.{arith, sym, ap, ◌∙◌, take, drop, length-append}
use Rattle.std.proofs.lemmas.List.{length-map}
use denote.Ref.{Bor}
use Rattle.sy_terms.specs.Values.{Val}
use Rattle.sy_terms.specs.Expr.{Exprs, Apply}
use Rattle.sy_terms.specs.Denoted.{val_of, vals_of}
use Rattle.sy_terms.specs.Pairs.{ArePairsSorted, ArePairsApplied, IsFirstUnfit}
use Rattle.sy_terms.specs.Meaning.{Function}
use Rattle.sy_terms.specs.Fitting.{Scope}
use Rattle.sy_terms.specs.declared.op.Op.{Op}
use Rattle.sy_terms.specs.declared.sort.Value.{Value}
use Rattle.sy_grammar_base.specs.Patterns.{occurring, all_occurring, filled, all_filled}
use Rattle.sy_grammar_base.specs.Written.{pattern_of, patterns_of}
use Rattle.sy_grammar_base.specs.declared.part.Part.{Part}
use Rattle.sy_bank_level.specs.Rows.{IsLostAt}
use Rattle.sy_bank_level.specs.Covering.{terms}
use Rattle.sy_bank_level.specs.Columns.{FitsAt, HasRow, HaveRows}
use Rattle.sy_bank_level.specs.declared.kept.Kept.{Kept}
use Rattle.sy_bank_level.proofs.Fillings.{all_filled-none}
use Rattle.sy_bank_level.specs.Stored.{chosen_of}
use Rattle.sy_bank_columns.proofs.Forms.{apply-sorted, apply-row, apply-lost}
use Rattle.sy_bank_columns.proofs.Pieces.{rows-none, rows-next}

-- the two of a list of two
two-items : {X : Type 0} (xs : List X) (x y : X) → 2 ≤ length xs → length xs < 3 → x ≡ slice_index_or xs 0 x → y ≡ slice_index_or xs 1 y → xs ≡ x ∷ y ∷ []
two-items [] x y h k e f = absurd (omega arith)
two-items (a ∷ []) x y h k e f = absurd (omega arith)
two-items (a ∷ b ∷ []) x y h k e f = cc
two-items (a ∷ b ∷ c ∷ r) x y h k e f = absurd (omega arith)

pub pair-items : {X : Type 0} (all xs : List X) (x y : X) → xs ≡ all → 2 ≤ length xs → length xs < 3 → x ≡ slice_index_or xs 0 x → y ≡ slice_index_or xs 1 y → all ≡ x ∷ y ∷ []
pair-items all xs x y same h k e f = sym same ∙ two-items xs x y h k e f

-- the first takes as many chosen terms as it has places
pub pair-used : {T N : Type 0} (number : N → Val) (first second : Part T N) (used count : ℕ) → length (all_occurring (patterns_of number (first ∷ second ∷ []))) ≤ count → used ≡ min count (length (occurring (pattern_of number first))) →
    used ≡ length (all_occurring (patterns_of number (take 1 (first ∷ second ∷ []))))
pair-used number first second used count enough is =
    omega (arith, is, enough, length-append (occurring (pattern_of number first)) (all_occurring (patterns_of number (second ∷ []))), length-append (occurring (pattern_of number first)) [])

-- their rows, one after the other
pub pair-rows : {T N : Type 0} (number : N → Val) (scope : Scope) (defined : List Function) (points : List (List Val)) (first second : Part T N) (chosen rest : List (Bor (Kept T N))) (used : ℕ) (left right x y : List (Value N)) →
    used ≡ length (all_occurring (patterns_of number (take 1 (first ∷ second ∷ [])))) → rest ≡ drop used chosen → left ≡ x → right ≡ y →
    HasRow scope defined points (filled (pattern_of number first) (terms (chosen_of number chosen))) (vals_of number x) → HasRow scope defined points (filled (pattern_of number second) (terms (chosen_of number rest))) (vals_of number y) →
    HaveRows scope defined points (all_filled (patterns_of number (first ∷ second ∷ [])) (terms (chosen_of number chosen))) (vals_of number left ∷ vals_of number right ∷ [])
pair-rows {T} {N} number scope defined points first second chosen rest used left right x y at same left_is right_is has_first has_second =
    let parts = first ∷ second ∷ [] in
    let ts = terms (chosen_of number chosen) in
    let none : HaveRows scope defined points (all_filled (patterns_of number (take 0 parts)) ts) (map (λ (row : List Val). row) []) = rw (all_filled-none ts) (rows-none number scope defined points) in
    let one : HaveRows scope defined points (all_filled (patterns_of number (take 1 parts)) ts) (vals_of number x ∷ []) =
    rows-next number scope defined points parts 0 first chosen chosen 0 (λ (row : List Val). row) [] (vals_of number x) (omega arith) refl refl refl none has_first in
    rw (left_is, right_is) (rows-next number scope defined points parts 1 second chosen rest used (λ (row : List Val). row) (vals_of number x ∷ []) (vals_of number y) (omega arith) refl at same one has_second)

-- the operator at the two rows
pub pair-sorted : (scope : Scope) (defined : List Function) (points : List (List Val)) (operator : Op) (arguments : Exprs) (x y : List Val) →
    FitsAt scope points (Apply operator arguments) → HaveRows scope defined points arguments (x ∷ y ∷ []) → ArePairsSorted operator x y
pair-sorted scope defined points operator arguments x y fit have place within = apply-sorted scope defined points operator arguments (x ∷ y ∷ []) fit have place (omega (arith, within, have.sized 0 x refl))

pub pair-applied : (scope : Scope) (defined : List Function) (points : List (List Val)) (operator : Op) (arguments : Exprs) (x y found : List Val) →
    FitsAt scope points (Apply operator arguments) → HaveRows scope defined points arguments (x ∷ y ∷ []) → ArePairsApplied operator x y found → HasRow scope defined points (Apply operator arguments) found
pair-applied scope defined points operator arguments x y found fit have applied =
    apply-row scope defined points operator arguments (x ∷ y ∷ []) found fit have
    (record { sized = applied.sized ∙ have.sized 0 x refl; each = λ k within. applied.each k (omega (arith, within, have.sized 0 x refl)) })

pub pair-lost : (scope : Scope) (defined : List Function) (points : List (List Val)) (operator : Op) (arguments : Exprs) (x y : List Val) (k : ℕ) →
    HaveRows scope defined points arguments (x ∷ y ∷ []) → IsFirstUnfit operator x y k → IsLostAt defined points (Apply operator arguments) k
pair-lost scope defined points operator arguments x y k have lost =
    let within = lost.within in
    apply-lost scope defined points operator arguments (x ∷ y ∷ []) k have (omega (arith, within, have.sized 0 x refl), lost.unfit)

-- a row is as long as there are points
pub row-long : {N : Type 0} (number : N → Val) (count : ℕ) (slice row : List (Value N)) → slice ≡ row → length (vals_of number row) ≡ count → length slice ≡ count
row-long number count slice row same long = ap length same ∙ sym (length-map row (val_of number)) ∙ long

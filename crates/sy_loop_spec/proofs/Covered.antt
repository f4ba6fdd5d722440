-- Covering banks have kept terms that agree with any bodies up to their size.
use Rattle.std.specs.Prelude.{ℕ, zero, suc, true, ◌+◌, ◌-◌, ◌≤◌, ◌≡◌, List, [], ◌∷◌, length, slice_get, Some, Contains, refl}
use Rattle.std.proofs.Common.{arith, ap, sym, subst}
use Rattle.std.proofs.lemmas.List.Elements.{All-contains}
use Rattle.sy_terms.specs.Values.{Val}
use Rattle.sy_terms.specs.Expr.{Expr}
use Rattle.sy_terms.specs.Meaning.{Function, functions, meaning, computable}
use Rattle.sy_grammar_base.specs.Trees.{tree_size}
use Rattle.sy_grammar_base.specs.Questions.{Goal, Question}
use Rattle.sy_grammar_base.specs.Solving.{AreWithin}
use Rattle.sy_points.specs.Asked.{Asked, of_function}
use Rattle.sy_bank_level.specs.Rows.{IsRow}
use Rattle.sy_bank_level.specs.Banks.{Entry, Merged, IsKept, IsHonestBank}
use Rattle.sy_bank_level.specs.Covering.{Covers, sizes, terms}
use Rattle.sy_bank_level.proofs.Alike.{Alike, rows_alike}
use Rattle.sy_loop_spec.specs.Merging.{AreCovering, AreChosen, AreMerged}

-- the bank of the place is an honest one of the goal of that place, over its tuples, which covers up to n
record Serves (defined : List Function) (pool : List Val) (goals : List Goal) (tuples : ℕ → List (List Val)) (n place : ℕ) (bank : Merged) : Type 0 where
  pub goal : Goal
  pub at : slice_get goals place ≡ Some goal
  pub over : bank.points ≡ tuples place
  pub up : n ≤ bank.upto
  pub honest : IsHonestBank goal.grammar defined pool bank
  pub covers : Covers goal.grammar defined pool bank

-- both have the same value at the tuple, where both are computable
record Agreed (defined : List Function) (tuple : List Val) (one other : Expr) : Type 0 where
  pub means : meaning defined [] tuple one ≡ meaning defined [] tuple other
  pub one_computable : computable defined [] tuple one ≡ true
  pub other_computable : computable defined [] tuple other ≡ true

-- kept terms for the bodies, the two of each place agreed at its tuples
record Matched (defined : List Function) (tuples : ℕ → List (List Val)) (n : ℕ) (banks : List Merged) (bodies : List Expr) : Type 0 where
  pub chosen : List Entry
  pub kept : AreChosen banks chosen
  pub small : sizes chosen ≤ n
  pub many : length (terms chosen) ≡ length bodies
  pub each : (place : ℕ) (term body : Expr) (tuple : List Val) → slice_get (terms chosen) place ≡ Some term → slice_get bodies place ≡ Some body → Contains (tuples place) tuple → Agreed defined tuple term body

-- terms of one row agree at the points
agreed : (defined : List Function) (points : List (List Val)) (one other : Expr) (row : List Val) → IsRow defined points one row → IsRow defined points other row → (tuple : List Val) → Contains points tuple → Agreed defined tuple one other
agreed defined points one other row first second tuple of = record {
  means = (All-contains (λ point. Alike defined point one other) points tuple (rows_alike defined points one other row first second) of).means;
  one_computable = All-contains (λ point. computable defined [] point one ≡ true) points tuple first.computable of;
  other_computable = All-contains (λ point. computable defined [] point other ≡ true) points tuple second.computable of;
}

-- one body more
matched_more : (defined : List Function) (tuples : ℕ → List (List Val)) (n size : ℕ) (bank : Merged) (banks : List Merged) (body : Expr) (bodies : List Expr) (entry : Entry) → IsKept bank.levels 0 entry → entry.size ≤ size → size ≤ n →
    ((tuple : List Val) → Contains (tuples 0) tuple → Agreed defined tuple entry.term body) → Matched defined (λ k. tuples (suc k)) (n - size) banks bodies → Matched defined tuples n (bank ∷ banks) (body ∷ bodies)
matched_more defined tuples n size bank banks body bodies entry kept small within here rest = record {
  chosen = entry ∷ rest.chosen;
  kept = (kept, rest.kept);
  small = omega (arith, small, within, rest.small);
  many = ap suc rest.many;
  each = at;
}
  where
    at : (place : ℕ) (term other : Expr) (tuple : List Val) → slice_get (entry.term ∷ terms rest.chosen) place ≡ Some term → slice_get (body ∷ bodies) place ≡ Some other → Contains (tuples place) tuple → Agreed defined tuple term other
    at zero term other tuple first second of =
        let first' : entry.term ≡ term = cc in
        let second' : body ≡ other = cc in
        subst (λ t. Agreed defined tuple t other) first' (subst (Agreed defined tuple entry.term) second' (here tuple of))
    at (suc place) term other tuple first second of = rest.each place term other tuple first second of

-- the banks after the first
later : (defined : List Function) (pool : List Val) (n : ℕ) (goal : Goal) (goals : List Goal) (tuples : ℕ → List (List Val)) (bank : Merged) (banks : List Merged) →
    ((place : ℕ) (other : Merged) → slice_get (bank ∷ banks) place ≡ Some other → Serves defined pool (goal ∷ goals) tuples n place other) →
    (place : ℕ) (other : Merged) → slice_get banks place ≡ Some other → Serves defined pool goals (λ k. tuples (suc k)) n place other
later defined pool n goal goals tuples bank banks serve place other at =
    let it = serve (suc place) other at in
    record { goal = it.goal; at = it.at; over = it.over; up = it.up; honest = it.honest; covers = it.covers }

matched : (defined : List Function) (pool : List Val) (n m : ℕ) (goals : List Goal) (tuples : ℕ → List (List Val)) (banks : List Merged) (bodies : List Expr) →
    ((place : ℕ) (bank : Merged) → slice_get banks place ≡ Some bank → Serves defined pool goals tuples n place bank) → length banks ≡ length goals → m ≤ n → AreWithin pool m goals bodies → Matched defined tuples m banks bodies
matched defined pool n m [] tuples [] [] serve all small within = record { chosen = []; kept = tt; small = omega arith; many = refl; each = λ place term body tuple first second of. absurd (cc) }
matched defined pool n m [] tuples [] (body ∷ bodies) serve all small within = absurd within
matched defined pool n m [] tuples (bank ∷ banks) bodies serve all small within = absurd (omega (arith, all))
matched defined pool n m (goal ∷ goals) tuples [] bodies serve all small within = absurd (omega (arith, all))
matched defined pool n m (goal ∷ goals) tuples (bank ∷ banks) [] serve all small within = absurd within
matched defined pool n m (goal ∷ goals) tuples (bank ∷ banks) (body ∷ bodies) serve all small within =
    let it = serve 0 bank refl in
    let same : goal ≡ it.goal = cc in
    let honest = subst (λ (g : Goal). IsHonestBank g.grammar defined pool bank) (sym same) it.honest in
    let covers = subst (λ (g : Goal). Covers g.grammar defined pool bank) (sym same) it.covers in
    let size = tree_size goal.grammar pool 0 within.0 in
    let up = it.up in
    let less : size ≤ m = within.2 in
    let found = covers 0 within.0 body within.1 (omega (arith, less, small, up)) in
    let row = (honest.each 0 found.kept.size found.kept.place found.entry found.kept.at).1.row in
    matched_more defined tuples m size bank banks body bodies found.entry found.kept found.small less
    (λ tuple of. agreed defined bank.points found.entry.term body found.entry.row row found.row tuple (subst (λ points. Contains points tuple) (sym it.over) of))
    (matched defined pool n (m - size) goals (λ k. tuples (suc k)) banks bodies (later defined pool n goal goals tuples bank banks serve) (omega (arith, all)) (omega (arith, small)) within.3)

-- kept terms are members, whose sizes sum to theirs
kept_within : (defined : List Function) (pool : List Val) (n : ℕ) (goals : List Goal) (tuples : ℕ → List (List Val)) (banks : List Merged) (chosen : List Entry) →
    ((place : ℕ) (bank : Merged) → slice_get banks place ≡ Some bank → Serves defined pool goals tuples n place bank) → length banks ≡ length goals → AreChosen banks chosen → AreWithin pool (sizes chosen) goals (terms chosen)
kept_within defined pool n [] tuples [] [] serve all kept = tt
kept_within defined pool n [] tuples [] (entry ∷ chosen) serve all kept = absurd kept
kept_within defined pool n [] tuples (bank ∷ banks) chosen serve all kept = absurd (omega (arith, all))
kept_within defined pool n (goal ∷ goals) tuples [] chosen serve all kept = absurd (omega (arith, all))
kept_within defined pool n (goal ∷ goals) tuples (bank ∷ banks) [] serve all kept = absurd kept
kept_within defined pool n (goal ∷ goals) tuples (bank ∷ banks) (entry ∷ chosen) serve all kept =
    let it = serve 0 bank refl in
    let same : goal ≡ it.goal = cc in
    let honest = subst (λ (g : Goal). IsHonestBank g.grammar defined pool bank) (sym same) it.honest in
    let sound = (honest.each 0 kept.0.size kept.0.place entry kept.0.at).1 in
    let sized = sound.sized in
    let rest : sizes chosen ≡ (entry.size + sizes chosen) - tree_size goal.grammar pool 0 entry.tree = omega (arith, sized) in (
      entry.tree,
      sound.derives,
      omega (arith, sized),
      subst (λ k. AreWithin pool k goals (terms chosen)) rest
          (kept_within defined pool n goals (λ k. tuples (suc k)) banks chosen (later defined pool n goal goals tuples bank banks serve) (omega (arith, all)) kept.1),
    )

pub are_merged : (question : Question) (asked : Asked) (n : ℕ) (banks : List Merged) (bodies : List Expr) → AreCovering question asked n banks → AreWithin question.pool n question.goals bodies → AreMerged question asked n banks bodies
are_merged question asked n banks bodies covering within =
    let defined = functions question.definitions in
    let found = matched defined question.pool n n question.goals (of_function asked) banks bodies serve covering.all (omega arith) within in
    record {
      chosen = found.chosen;
      kept = found.kept;
      small = found.small;
      members = kept_within defined question.pool n question.goals (of_function asked) banks found.chosen serve covering.all found.kept;
      agree = record { many = found.many; each = λ function body other tuple first second of. (found.each function body other tuple first second of).means };
      kept_computable = λ function body tuple at of. let other = there (terms found.chosen) bodies function body found.many at in (found.each function body other.0 tuple at other.1 of).one_computable;
      computable = λ function body tuple at of. let other = there bodies (terms found.chosen) function body (sym found.many) at in (found.each function other.0 body tuple other.1 at of).other_computable;
    }
  where
    serve : (place : ℕ) (bank : Merged) → slice_get banks place ≡ Some bank → Serves (functions question.definitions) question.pool question.goals (of_function asked) n place bank
    serve place bank at = let it = covering.each place bank at in record { goal = it.goal; at = it.at; over = it.over; up = it.up; honest = it.honest; covers = it.covers }

    there : (ones others : List Expr) (place : ℕ) (one : Expr) → length ones ≡ length others → slice_get ones place ≡ Some one → (other : Expr) × (slice_get others place ≡ Some other)
    there [] others place one many at = absurd (cc)
    there (x ∷ ones) [] place one many at = absurd (omega (arith, many))
    there (x ∷ ones) (y ∷ others) zero one many at = (y, refl)
    there (x ∷ ones) (y ∷ others) (suc place) one many at = there ones others place one (omega (arith, many)) at

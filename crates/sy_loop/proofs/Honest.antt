-- Banks as they are built are honest.
use Rattle.std.proofs.Common.{◌≡◌, refl, subst, ℕ, zero, suc, Bool, List, [], ◌∷◌, map, slice_get, Some}
use Rattle.sy_terms.specs.Values.{Val}
use Rattle.sy_terms.specs.Definitions.{bodies, scope_of}
use Rattle.sy_terms.specs.Meaning.{functions}
use Rattle.sy_terms.specs.declared.op.Op.{Op}
use Rattle.sy_grammar_base.specs.Questions.{goal_of, question_of}
use Rattle.sy_grammar_base.specs.declared.problem.Problem.{Problem}
use Rattle.sy_query_limits.specs.declared.Limits.{Limits}
use Rattle.sy_points.specs.Asked.{Asked}
use Rattle.sy_bank_level.specs.Banks.{Entry, Merged, IsKept}
use Rattle.sy_bank_level.specs.Columns.{HasRow}
use Rattle.sy_bank_level.specs.Bank.{merged_of}
use Rattle.sy_bank_level.specs.declared.bank.Bank.{Bank}
use Rattle.sy_loop_banks.specs.Banks.{AreBanks, AreCarried}
use Rattle.sy_loop.specs.Levels.{AreHonest}

from_map : {A B : Type 0} (f : A → B) (xs : List A) (k : ℕ) (y : B) → slice_get (map f xs) k ≡ Some y → (x : A) × (slice_get xs k ≡ Some x) × (f x ≡ y)
from_map f [] k y at = absurd (cc)
from_map f (x ∷ xs) zero y at = (x, refl, cc)
from_map f (x ∷ xs) (suc k) y at = from_map f xs k y at

-- honest banks
pub honest_banks : {T N : Type 0} (owned : Op → Bool) (number : N → Val) (problem : Problem T N) (limits : Limits) (asked : Asked) (level : ℕ) (banks : List (Bank T N)) → AreBanks (question_of number problem) limits asked level (map (merged_of number) banks) → AreCarried owned number problem limits level banks →
    AreHonest (scope_of owned problem.defs) (question_of number problem) asked (map (merged_of number) banks)
honest_banks {T} {N} owned number problem limits asked level banks are carried = record {
  each = λ function bank at.
      let of = are.each function bank at in
      let found = from_map (merged_of number) banks function bank at in
      let wanted = from_map (goal_of number) problem.wanted function of.goal of.at in
      let built = (carried function wanted.0 found.0 wanted.1 found.1).built in
      record {
        goal = of.goal;
        at = of.at;
        over = of.is.over;
        honest = of.is.honest;
        rows = subst (λ (b : Merged). (entry : Entry) → IsKept b.levels 0 entry → HasRow (scope_of owned problem.defs) (functions (bodies number problem.defs)) b.points entry.term entry.row) found.2 (λ entry kept. built.ready.rows 0 entry kept);
      };
  all = are.all;
}

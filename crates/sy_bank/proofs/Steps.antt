-- A bank with the kept terms of one size more: what it keeps of the bank before, and what it promises.
use Rattle.std.proofs.Common.{◌≡◌, ℕ, ◌≤◌, List, [], ◌∷◌, length, refl, sym, None, arith, subst, length-append}
use Rattle.sy_terms.specs.Values.{Val}
use Rattle.sy_terms.specs.Meaning.{Function}
use Rattle.sy_terms.specs.Fitting.{Scope}
use Rattle.sy_grammar_base.specs.Trees.{Syntax}
use Rattle.sy_bank_level.specs.Banks.{Entry, Merged}
use Rattle.sy_bank_level.specs.Filling.{World, LevelState, IsSteady, IsBeyond}
use Rattle.sy_bank_level.specs.declared.place.Place.{Place}
use Rattle.sy_bank_level.specs.Indexed.{IsIndexed}
use Rattle.sy_bank_level.specs.Ready.{BankIsReady}
use Rattle.sy_bank_level.specs.Tried.{IsFilled}
use Rattle.sy_bank_level.proofs.LevelsLemmas.{stays-more}
use Rattle.sy_bank_level.proofs.Next.{world_at, extended, indexed-next, honest-next, ready-next, new-next}
use Rattle.sy_bank.specs.Promised.{BankIsFull, IsNextBank}

-- the kept terms of the bank's next size, once they are found, and the bank that has them
pub record IsStep (scope : Scope) (syntax : Syntax) (defined : List Function) (pool : List Val) (bank : Merged) (cap : ℕ) (w : World) (s : LevelState) (after : Merged) : Type 0 where
  pub below : length bank.levels ≤ bank.upto
  pub same : w ≡ world_at scope syntax defined pool bank cap
  pub is : after ≡ extended (world_at scope syntax defined pool bank cap) bank.upto s
  pub steady : IsSteady w s

steady-here : (scope : Scope) (syntax : Syntax) (defined : List Function) (pool : List Val) (bank : Merged) (cap : ℕ) (w : World) (s : LevelState) (after : Merged) → IsStep scope syntax defined pool bank cap w s after →
    IsSteady (world_at scope syntax defined pool bank cap) s
steady-here scope syntax defined pool bank cap w s after step = subst (λ (v : World). IsSteady v s) step.same step.steady

pub step-next : (scope : Scope) (syntax : Syntax) (defined : List Function) (pool : List Val) (bank : Merged) (cap : ℕ) (w : World) (s : LevelState) (after : Merged) → IsStep scope syntax defined pool bank cap w s after →
    IsNextBank syntax defined pool cap bank after
step-next scope syntax defined pool bank cap w s after step =
    let steady = steady-here scope syntax defined pool bank cap w s after step in
    subst (IsNextBank syntax defined pool cap bank) (sym step.is) (record {
      over = refl;
      up = refl;
      honest = honest-next (world_at scope syntax defined pool bank cap) s bank.upto steady step.below;
      sizes = length-append bank.levels (s.fresh ∷ []);
      within = let counted = steady.counted in let within = steady.within in omega (arith, counted, within);
      stays = λ n size place e at. stays-more bank.levels s.fresh n size place e at;
    })

pub step-indexed : (scope : Scope) (syntax : Syntax) (defined : List Function) (pool : List Val) (bank : Merged) (cap : ℕ) (w : World) (s : LevelState) (after : Merged) (table : ℕ → List Place) (number : ℕ) → IsStep scope syntax defined pool bank cap w s after →
    table ≡ s.table → number ≡ s.count → IsIndexed after.levels table number
step-indexed scope syntax defined pool bank cap w s after table number step one two =
    rw (step.is, one, two) (indexed-next (world_at scope syntax defined pool bank cap) s (steady-here scope syntax defined pool bank cap w s after step))

-- where a term was dropped or all of the size is found, the bank is ready for the next one
pub step-ready : (scope : Scope) (syntax : Syntax) (defined : List Function) (pool : List Val) (bank : Merged) (cap size : ℕ) (w : World) (s : LevelState) (after : Merged) → IsStep scope syntax defined pool bank cap w s after →
    BankIsReady scope syntax defined pool bank → bank.dropped ≡ None → size ≡ length bank.levels → (s.dropped ≡ None → IsFilled w s size) → BankIsReady scope syntax defined pool after
step-ready scope syntax defined pool bank cap size w s after step ready none_lost sized filled =
    subst (BankIsReady scope syntax defined pool) (sym step.is)
    (ready-next scope syntax defined pool bank cap s ready none_lost step.below (steady-here scope syntax defined pool bank cap w s after step)
    (λ still. subst (λ (v : World). IsFilled v s (length bank.levels)) step.same (subst (λ (k : ℕ). IsFilled w s k) sized (filled still))))

-- where one term more is new, the bank is full
pub step-full : (scope : Scope) (syntax : Syntax) (defined : List Function) (pool : List Val) (bank : Merged) (cap : ℕ) (w : World) (s : LevelState) (after : Merged) (n : ℕ) (entry : Entry) → IsStep scope syntax defined pool bank cap w s after →
    IsBeyond w s n entry → BankIsFull syntax defined pool cap after n entry
step-full scope syntax defined pool bank cap w s after n entry step beyond =
    let here = subst (λ (v : World). IsBeyond v s n entry) step.same beyond in
    let steady = steady-here scope syntax defined pool bank cap w s after step in
    subst (λ (a : Merged). BankIsFull syntax defined pool cap a n entry) (sym step.is) (record {
      full = let counted = steady.counted in let full = here.full in omega (arith, counted, full);
      none_lost = here.none_lost;
      new = new-next (world_at scope syntax defined pool bank cap) s bank.upto n entry step.below here;
    })

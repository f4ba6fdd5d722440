-- From a bank to the kept terms of its next size, and back.
use Rattle.std.proofs.Common.{◌≡◌, ℕ, zero, suc, ◌+◌, ◌<◌, ◌≤◌, List, [], ◌∷◌, ◌++◌, length, refl, ap, sym, ◌∙◌, Some, None, Option, slice_get, arith, subst, replicate, length-append, ◌⊎◌, inl, inr}
use Rattle.std.specs.Prelude.{IfSome}
use Rattle.std.proofs.lemmas.List.{length-replicate}
use Rattle.sy_terms.specs.Values.{Val}
use Rattle.sy_terms.specs.Expr.{Expr}
use Rattle.sy_terms.specs.Meaning.{Function}
use Rattle.sy_terms.specs.Fitting.{Scope}
use Rattle.sy_grammar_base.specs.Trees.{Syntax, rule_at}
use Rattle.sy_bank_level.specs.Banks.{Entry, Lost, Merged, kept_at, IsHonestBank, IsDropped, IsNewEntry}
use Rattle.sy_bank_level.specs.Covering.{IsCovered, Covers, Offers}
use Rattle.sy_bank_level.specs.Filling.{World, LevelState, all_levels, IsSteady, IsBeyond}
use Rattle.sy_bank_level.specs.declared.place.Place.{Place}
use Rattle.sy_bank_level.proofs.Beginnings.{kept_at-idle, count-idle}
use Rattle.sy_bank_level.proofs.KeptLaws.{size-within}
use Rattle.sy_bank_level.proofs.Coverage.{saturated_covers}
use Rattle.sy_bank_level.specs.Indexed.{IsIndexed}
use Rattle.sy_bank_level.specs.Ready.{IsSaturatedBelow, BankIsReady}
use Rattle.sy_bank_level.specs.Tried.{IsFilled}
use Rattle.sy_bank_level.proofs.LevelsLemmas.{kept-more}
use Rattle.sy_bank_level.proofs.TriedLemmas.{lower-offers}

-- what stays the same while the kept terms of the bank's next size are found
abbrev pub world_at : Scope → Syntax → List Function → List Val → Merged → ℕ → World
world_at scope syntax defined pool bank cap = record { scope = scope; syntax = syntax; defined = defined; pool = pool; points = bank.points; levels = bank.levels; cap = cap }

-- what there is to begin with
abbrev pub begun : Syntax → Merged → (ℕ → List Place) → ℕ → LevelState
begun syntax bank table count = record { fresh = replicate (length syntax.nonterminals) []; table = table; count = count; dropped = bank.dropped }

-- the bank with the kept terms of one size more
abbrev pub extended : World → ℕ → LevelState → Merged
extended w upto s = record { points = w.points; upto = upto; levels = all_levels w s; dropped = s.dropped }

pub steady-begun : (scope : Scope) (syntax : Syntax) (defined : List Function) (pool : List Val) (bank : Merged) (cap : ℕ) (table : ℕ → List Place) (number : ℕ) →
    BankIsReady scope syntax defined pool bank → IsIndexed bank.levels table number → number ≤ cap → bank.dropped ≡ None →
    IsSteady (world_at scope syntax defined pool bank cap) (begun syntax bank table number)
steady-begun scope syntax defined pool bank cap table number ready indexed room none_lost =
    let idle : (n size : ℕ) → kept_at (bank.levels ++ replicate (length syntax.nonterminals) [] ∷ []) n size ≡ kept_at bank.levels n size =
    λ n size. kept_at-idle bank.levels (length syntax.nonterminals) n size in
    let there : (n size place : ℕ) (e : Entry) → slice_get (kept_at (bank.levels ++ replicate (length syntax.nonterminals) [] ∷ []) n size) place ≡ Some e → slice_get (kept_at bank.levels n size) place ≡ Some e =
    λ n size place e at. ap (λ (list : List Entry). slice_get list place) (sym (idle n size)) ∙ at in
    record {
      wide = length-replicate (length syntax.nonterminals) [];
      each = λ n size place e at.
          let here = there n size place e at in
          let is = ready.honest.each n size place e here in
          record { sized = is.0; sound = is.1; row = ready.rows n e (record { size = size; place = place; at = here }) };
      distinct = λ n k l i j first second one two same. ready.honest.distinct n k l i j first second (there n k i first one) (there n l j second two) same;
      placed = λ n size place e at. indexed.placed n size place e (there n size place e at);
      counted = count-idle bank.levels (length syntax.nonterminals) ∙ indexed.counted;
      within = room;
      lost = subst (λ (d : Option Lost). IfSome d (IsDropped syntax defined pool bank.points (length bank.levels))) (sym none_lost) tt;
    }

pub indexed-next : (w : World) (s : LevelState) → IsSteady w s → IsIndexed (all_levels w s) s.table s.count
indexed-next w s steady = record { counted = steady.counted; placed = steady.placed }

-- a dropped term of a lesser size is one up to a greater size
lost-upto : (syntax : Syntax) (defined : List Function) (pool : List Val) (points : List (List Val)) (size upto : ℕ) (dropped : Option Lost) → size ≤ upto →
    IfSome dropped (IsDropped syntax defined pool points size) → IfSome dropped (IsDropped syntax defined pool points upto)
lost-upto syntax defined pool points size upto None within lost = tt
lost-upto syntax defined pool points size upto (Some l) within lost =
    record { nonterminal = lost.nonterminal; tree = lost.tree; derives = lost.derives; small = let small = lost.small in omega (arith, within, small); is = lost.is }

pub honest-next : (w : World) (s : LevelState) (upto : ℕ) → IsSteady w s → length w.levels ≤ upto → IsHonestBank w.syntax w.defined w.pool (extended w upto s)
honest-next w s upto steady below = record {
  within = omega (arith, below, length-append w.levels (s.fresh ∷ []));
  each = λ n size place e at. let right = steady.each n size place e at in (right.sized, right.sound);
  distinct = steady.distinct;
}

covered-more : (defined : List Function) (points : List (List Val)) (levels : List (List (List Entry))) (lists : List (List Entry)) (n size : ℕ) (term : Expr) →
    IsCovered defined points levels n size term → IsCovered defined points (levels ++ lists ∷ []) n size term
covered-more defined points levels lists n size term covered = record { entry = covered.entry; kept = kept-more levels lists n covered.entry covered.kept; small = covered.small; row = covered.row }

less-or-last : (size bound : ℕ) → size < bound + 1 → (size < bound) ⊎ (size ≡ bound)
less-or-last size zero below = inr (omega (arith, below))
less-or-last zero (suc bound) below = inl (omega arith)
less-or-last (suc size) (suc bound) below = elim (less-or-last size bound (omega (arith, below))) [
  | inl h ↦ inl (omega (arith, h))
  | inr h ↦ inr (omega (arith, h))
]

saturated-next : (w : World) (s : LevelState) (upto : ℕ) (bank : Merged) → bank.levels ≡ w.levels → bank.points ≡ w.points → IsSteady w s → s.dropped ≡ None →
    IsSaturatedBelow w.syntax w.defined w.pool bank (length bank.levels) → IsFilled w s (length w.levels) →
    IsSaturatedBelow w.syntax w.defined w.pool (extended w upto s) (length (all_levels w s))
saturated-next w s upto bank same points steady none_lost saturated filled n r size term below offers =
    elim (less-or-last size (length w.levels) (omega (arith, below, length-append w.levels (s.fresh ∷ [])))) [
      | inl less ↦
          let here = lower-offers w s (rule_at w.syntax n r) size term steady less offers in
          let covered = saturated n r size term (omega (arith, less, ap length same)) (subst (λ (l : List (List (List Entry))). Offers w.syntax w.pool l (rule_at w.syntax n r) size term) (sym same) here) in
          covered-more w.defined w.points w.levels s.fresh n size term
          (subst (λ (l : List (List (List Entry))). IsCovered w.defined w.points l n size term) same (subst (λ (p : List (List Val)). IsCovered w.defined p bank.levels n size term) points covered))
      | inr last ↦
          subst (λ (k : ℕ). IsCovered w.defined w.points (all_levels w s) n k term) (sym last)
          (filled n r term (subst (λ (k : ℕ). Offers w.syntax w.pool (all_levels w s) (rule_at w.syntax n r) k term) last offers) none_lost)
    ]

-- the bank with one size more is ready, where a term was dropped or the size is filled
pub ready-next : (scope : Scope) (syntax : Syntax) (defined : List Function) (pool : List Val) (bank : Merged) (cap : ℕ) (s : LevelState) →
    BankIsReady scope syntax defined pool bank → bank.dropped ≡ None → length bank.levels ≤ bank.upto → IsSteady (world_at scope syntax defined pool bank cap) s →
    (s.dropped ≡ None → IsFilled (world_at scope syntax defined pool bank cap) s (length bank.levels)) →
    BankIsReady scope syntax defined pool (extended (world_at scope syntax defined pool bank cap) bank.upto s)
ready-next scope syntax defined pool bank cap s ready none_lost below steady filled =
    let w = world_at scope syntax defined pool bank cap in
    record {
      honest = honest-next w s bank.upto steady below;
      rows = λ n e kept. (steady.each n kept.size kept.place e kept.at).row;
      lost = lost-upto syntax defined pool bank.points (length bank.levels) bank.upto s.dropped below steady.lost;
      saturated = λ still. saturated-next w s bank.upto bank refl refl steady still (ready.saturated none_lost) (filled still);
    }

-- what goes beyond the cap is new to the bank
pub new-next : (w : World) (s : LevelState) (upto n : ℕ) (entry : Entry) → length w.levels ≤ upto → IsBeyond w s n entry → IsNewEntry w.syntax w.defined w.pool (extended w upto s) n entry
new-next w s upto n entry below beyond = record {
  sound = beyond.right.sound;
  small = let sized = beyond.right.sized in omega (arith, below, sized);
  differs = beyond.differs;
}

-- a bank without terms
pub ready-empty : (scope : Scope) (syntax : Syntax) (defined : List Function) (pool : List Val) (points : List (List Val)) (upto : ℕ) →
    BankIsReady scope syntax defined pool (record { points = points; upto = upto; levels = []; dropped = None })
ready-empty scope syntax defined pool points upto = record {
  honest = record {
    within = omega arith;
    each = λ n size place e at. absurd (let below = size-within {X = Entry} [] n size place e at in omega (arith, below));
    distinct = λ n k l i j first second one two same. absurd (let below = size-within {X = Entry} [] n k i first one in omega (arith, below));
  };
  rows = λ n e kept. absurd (let below = size-within {X = Entry} [] n kept.size kept.place e kept.at in omega (arith, below));
  lost = tt;
  saturated = λ still n r size term below offers. absurd (omega (arith, below));
}

-- a bank that is ready, for a greater size
pub ready-larger : (scope : Scope) (syntax : Syntax) (defined : List Function) (pool : List Val) (bank : Merged) (upto : ℕ) → bank.upto ≤ upto → BankIsReady scope syntax defined pool bank →
    BankIsReady scope syntax defined pool (record bank { upto = upto })
ready-larger scope syntax defined pool bank upto larger ready = record {
  honest = record { within = let within = ready.honest.within in omega (arith, larger, within); each = ready.honest.each; distinct = ready.honest.distinct };
  rows = ready.rows;
  lost = lost-upto syntax defined pool bank.points bank.upto upto bank.dropped larger ready.lost;
  saturated = ready.saturated;
}

-- a bank that is ready and has each size covers
pub whole-covers : (scope : Scope) (syntax : Syntax) (defined : List Function) (pool : List Val) (bank : Merged) → BankIsReady scope syntax defined pool bank → bank.dropped ≡ None → bank.upto < length bank.levels →
    Covers syntax defined pool bank
whole-covers scope syntax defined pool bank ready none_lost all_sizes =
    saturated_covers syntax defined pool bank ready.honest (λ n r size term offers small. ready.saturated none_lost n r size term (omega (arith, small, all_sizes)) offers)

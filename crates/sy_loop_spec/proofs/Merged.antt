-- Conditional trees over parts are merged with trees over kept parts.
use Rattle.std.specs.Prelude.{ℕ, ◌+◌, ◌≤◌, ◌≡◌, Bool, true, false, List, [], slice_get, Some, All, Contains, refl, if◌then◌else◌}
use Rattle.std.proofs.Common.{ap, sym, ◌∙◌}
use Rattle.std.proofs.lemmas.Bool.{true≢false}
use Rattle.std.proofs.lemmas.Option.{slice_get-get_or}
use Rattle.sy_terms.specs.Values.{Val, truth}
use Rattle.sy_terms.specs.Expr.{Expr}
use Rattle.sy_terms.specs.Meaning.{Function, functions, meaning}
use Rattle.sy_grammar_base.specs.Trees.{Syntax}
use Rattle.sy_grammar_base.specs.Questions.{Question}
use Rattle.sy_grammar_base.specs.Solving.{AreValues}
use Rattle.sy_bank_level.specs.Banks.{Entry, Merged, IsHonestBank}
use Rattle.sy_bank_level.specs.Covering.{Covers}
use Rattle.sy_loop_spec.specs.Pointwise.{IsPointwise}
use Rattle.sy_loop_spec.specs.Resting.{IsGoodAt}
use Rattle.sy_loop_spec.specs.Conditional.{Conditional, Leaf, Test, leaf_reached, ArePartsWithin}
use Rattle.sy_loop_spec.proofs.Goodness.{good_alike}
use Rattle.sy_loop_spec.specs.Trees.{IsKeptPart, IsMergedTree}
use Rattle.sy_loop_spec.proofs.Kept.{IsTwin, twin, twin_means}

-- a point and its number
pub numbered : {X : Type 0} (xs : List X) (x : X) → Contains xs x → (k : ℕ) × (slice_get xs k ≡ Some x)
numbered xs x of = (of.0, slice_get-get_or xs of.0 x of.1 ∙ ap Some of.2)

-- the kept part that stands for a part
kept_part : (defined : List Function) (points : List (List Val)) (levels : List (List (List Entry))) (nonterminal n : ℕ) (term : Expr) → (is : IsTwin defined points levels nonterminal n term) →
    IsKeptPart levels nonterminal n is.entry.tree is.entry.term
kept_part defined points levels nonterminal n term is = record { entry = is.entry; kept = is.kept; small = is.small; tree_is = refl; term_is = refl }

-- both sides of two conditions that are true together
same_side : (defined : List Function) (point : List Val) (one other : Bool) (there here there' here' : Expr) → one ≡ other → meaning defined [] point there ≡ meaning defined [] point there' →
    meaning defined [] point here ≡ meaning defined [] point here' → meaning defined [] point (if one then there else here) ≡ meaning defined [] point (if other then there' else here')
same_side defined point true true there here there' here' same on_true on_false = on_true
same_side defined point false false there here there' here' same on_true on_false = on_false
same_side defined point true false there here there' here' same on_true on_false = absurd (true≢false same)
same_side defined point false true there here there' here' same on_true on_false = absurd (true≢false (sym same))

pub trees_are_merged : (syntax : Syntax) (defined : List Function) (pool : List Val) (bank : Merged) (condition n : ℕ) → n ≤ bank.upto → IsHonestBank syntax defined pool bank → Covers syntax defined pool bank →
    (parts : Conditional) → ArePartsWithin syntax pool condition n parts → IsMergedTree defined bank.points bank.levels condition n parts
trees_are_merged syntax defined pool bank condition n up honest covers (Leaf tree term) within =
    let is = twin syntax defined pool bank n up honest covers 0 tree term within in
    record {
      kept = Leaf is.entry.tree is.entry.term;
      are = kept_part defined bank.points bank.levels 0 n term is;
      many = refl;
      means = λ point of. let at = numbered bank.points point of in twin_means defined bank.points bank.levels 0 n term is at.0 point at.1;
    }
trees_are_merged syntax defined pool bank condition n up honest covers (Test tree term there here) within =
    let is = twin syntax defined pool bank n up honest covers condition tree term within.0 in
    let on_true = trees_are_merged syntax defined pool bank condition n up honest covers there within.1 in
    let on_false = trees_are_merged syntax defined pool bank condition n up honest covers here within.2 in
    record {
      kept = Test is.entry.tree is.entry.term on_true.kept on_false.kept;
      are = (kept_part defined bank.points bank.levels condition n term is, on_true.are, on_false.are);
      many = λ i. on_true.many i + on_false.many i;
      means = λ point of.
          let at = numbered bank.points point of in
          same_side defined point (truth (meaning defined [] point is.entry.term)) (truth (meaning defined [] point term))
          (leaf_reached defined point on_true.kept) (leaf_reached defined point on_false.kept) (leaf_reached defined point there) (leaf_reached defined point here)
          (ap truth (twin_means defined bank.points bank.levels condition n term is at.0 point at.1)) (on_true.means point of) (on_false.means point of);
    }

-- where the one reaches good leaves alone, so does the other
pub merged_is_good : (question : Question) (assignments : List (List Val)) (bank : Merged) (condition n : ℕ) (parts : Conditional) → IsPointwise question → All (AreValues question.variables) assignments →
    (merged : IsMergedTree (functions question.definitions) bank.points bank.levels condition n parts) →
    ((point : List Val) → Contains bank.points point → IsGoodAt question assignments point (leaf_reached (functions question.definitions) point parts)) →
    (point : List Val) → Contains bank.points point → IsGoodAt question assignments point (leaf_reached (functions question.definitions) point merged.kept)
merged_is_good question assignments bank condition n parts pointwise are merged good point of =
    good_alike question assignments pointwise are point (leaf_reached (functions question.definitions) point parts) (leaf_reached (functions question.definitions) point merged.kept)
    (sym (merged.means point of)) (good point of)

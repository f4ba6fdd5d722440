-- What holds of leaves: of the tree and the term of one, and of all that a rule gives.
use Rattle.std.proofs.Common.{◌≡◌, ◌≢◌, ℕ, zero, suc, ◌+◌, ◌<◌, ◌≤◌, List, [], ◌∷◌, length, refl, ap, sym, ◌∙◌, Option, Some, None, slice_get, arith, subst, Bool, true, false, map, pos, inl, inr}
use Rattle.std.specs.Prelude.{ℤ, neg_ℤ, ◌&&◌, ◌==◌, MatchBool, if◌then◌else◌}
use Rattle.std.proofs.lemmas.Option.{none-some, same_Some, slice_get_within}
use Rattle.sy_terms.specs.Values.{Val, Truth}
use Rattle.sy_terms.specs.Denoted.{val_of, vals_of}
use Rattle.sy_terms.specs.Expr as expr
use Rattle.sy_terms.specs.Expr.{Expr}
use Rattle.sy_terms.specs.Theories.{sort_of_value, value_at, whole_number}
use Rattle.sy_terms.specs.Sorts.{same_sort}
use Rattle.sy_terms.specs.declared.sort.Sort.{Sort}
use Rattle.sy_terms.specs.declared.sort.Value.{Value}
use Rattle.sy_terms_operators.proofs.Equations.{if_Some}
use Rattle.sy_grammar_base.specs.Formed.{is_known}
use Rattle.sy_grammar_base.proofs.Members.{formed_fits}
use Rattle.sy_bank_level.specs.Tasks.{IsSet}
use Rattle.sy_grammar_base.specs.Trees.{Nonterminal, rule_of, value_magnitude, Tree, Derives, tree_size, ConstantLeaf, VariableLeaf, EachConstant, EachVariable, yield_from, constant_yield, variable_yield, constant_size, is_sort, is_written, literal}
use Rattle.sy_bank_level.specs.Banks.{Entry, IsKept}
use Rattle.sy_bank_level.specs.Columns.{HasRow}
use Rattle.sy_bank_level.specs.Filling.{World, LevelState, all_levels, EntryIsRight, IsSteady, LevelGrows, TermIsDone}
use Rattle.sy_bank_level.proofs.KeptLaws.{below-or-last}
use Rattle.sy_bank_level.proofs.Keeping.{done-on}
use Rattle.sy_bank_level.proofs.Given.{has-row, found-done}
use Rattle.sy_bank.specs.Leaves.{IsLeafRule, GivesDone, IsGivenConstant, IsDoneFor, IsDoneAt}
use Rattle.sy_bank.proofs.ConstantSizes.{IsOne, truth, naught, unit, pooled, ones, at-sign}

-- a term with its derivation of the next size, and its row
pub leaf-right : (w : World) (n : ℕ) (tree : Tree) (term : Expr) (row : List Val) → Derives w.syntax n tree term → tree_size w.syntax w.pool n tree ≡ length w.levels →
    HasRow w.scope w.defined w.points term row → EntryIsRight w n (length w.levels) (record { term = term; tree = tree; size = length w.levels; row = row })
leaf-right w n tree term row derives sized has = record { sized = refl; sound = record { derives = derives; sized = sized; row = has-row w term row has }; row = has }

-- the leaf of a constant
pub constant-derives : (w : World) (n rule : ℕ) (sort : Sort) (value : Val) → IsLeafRule w.syntax n rule (EachConstant sort) → IsGivenConstant sort value → Derives w.syntax n (ConstantLeaf rule value) (literal value)
unfolding yield_from
constant-derives w n rule sort value is given = ap (λ found. constant_yield found value) is.at ∙ given

pub constant-sized : (w : World) (n rule : ℕ) (value : Val) → tree_size w.syntax w.pool n (ConstantLeaf rule value) ≡ constant_size w.pool value
unfolding tree_size
constant-sized w n rule value = refl

-- the leaf of an argument
pub argument-derives : (w : World) (n rule position : ℕ) (sort found : Sort) → IsLeafRule w.syntax n rule (EachVariable sort) → slice_get w.syntax.arguments position ≡ Some found → same_sort sort found ≡ true →
    Derives w.syntax n (VariableLeaf rule position) (expr.Variable position)
unfolding yield_from
argument-derives w n rule position sort found is at same =
    ap (λ production. variable_yield production w.syntax.arguments position) is.at ∙ ap (λ b. if b then Some (expr.Variable position) else None) (ap (is_sort sort) at ∙ same)

pub argument-sized : (w : World) (n rule position : ℕ) → tree_size w.syntax w.pool n (VariableLeaf rule position) ≡ 1
unfolding tree_size
argument-sized w n rule position = refl

-- what is done stays done, value by value
pub done-for : (w : World) (s t : LevelState) (n : ℕ) (sort : Sort) (size : ℕ) (value : Val) → LevelGrows w s t → IsDoneFor w s n sort size value → IsDoneFor w t n sort size value
done-for w s t n sort size value grows done given sized = done-on w s t n size (literal value) grows (done given sized)

pub done-at : (w : World) (s t : LevelState) (n : ℕ) (sort : Sort) (size : ℕ) (number : ℤ) → LevelGrows w s t → IsDoneAt w s n sort size number → IsDoneAt w t n sort size number
done-at w s t n sort size number grows done value at = done-for w s t n sort size value grows (done value at)

-- all values are all that the rule gives
pub gives : (w : World) (s : LevelState) (n : ℕ) (sort : Sort) (size : ℕ) → ((value : Val) → IsDoneFor w s n sort size value) → GivesDone w s n (EachConstant sort) size
gives w s n sort size done term offers =
    let found = if_Some (same_sort sort (sort_of_value offers.0) && is_written offers.0) (literal offers.0) term offers.1 in
    subst (TermIsDone w s n size) found.1 (done offers.0 (ap (λ b. if b then Some (literal offers.0) else None) found.0) offers.2)

-- the values that the first numbers of a pool are
abbrev pub ArePooled : {N : Type 0} → (N → Val) → World → LevelState → ℕ → Sort → ℕ → List (Value N) → ℕ → Type 0
ArePooled {N} number w s n sort size pool count = (i : ℕ) (item : Value N) → i < count → slice_get pool i ≡ Some item → IsDoneAt w s n sort size (whole_number (val_of number item))

pub pooled-next : {N : Type 0} (number : N → Val) (w : World) (s t : LevelState) (n : ℕ) (sort : Sort) (size : ℕ) (pool : List (Value N)) (count : ℕ) (last : Value N) → LevelGrows w s t →
    ArePooled number w s n sort size pool count → slice_get pool count ≡ Some last → IsDoneAt w t n sort size (whole_number (val_of number last)) → ArePooled number w t n sort size pool (count + 1)
pooled-next number w s t n sort size pool count last grows before at done i item below here = elim (below-or-last i count below) [
  | inl less ↦ done-at w s t n sort size (whole_number (val_of number item)) grows (before i item less here)
  | inr same ↦
      let equal : last ≡ item = same_Some last item (sym at ∙ ap (slice_get pool) (sym same) ∙ here) in
      subst (λ x. IsDoneAt w t n sort size (whole_number (val_of number x))) equal done
]

from-map : {X Y : Type 0} (f : X → Y) (xs : List X) (i : ℕ) (y : Y) → slice_get (map f xs) i ≡ Some y → (x : X) × (slice_get xs i ≡ Some x) × (f x ≡ y)
from-map f [] i y at = absurd (none-some y at)
from-map f (x ∷ xs) zero y at = (x, refl, cc)
from-map f (x ∷ xs) (suc i) y at = from-map f xs i y at

-- truth values, 0, 1 and the pool are all that counts 1
pub ones-done : {N : Type 0} (number : N → Val) (w : World) (s : LevelState) (n : ℕ) (sort : Sort) (size : ℕ) (pool : List (Value N)) (count : ℕ) → size ≡ 1 → w.pool ≡ vals_of number pool → length pool ≤ count →
    ((b : Bool) → IsDoneFor w s n sort size (Truth b)) → IsDoneAt w s n sort size (pos 0) → IsDoneAt w s n sort size (pos 1) → ArePooled number w s n sort size pool count →
    (value : Val) → IsDoneFor w s n sort size value
ones-done number w s n sort size pool count one same whole truths first second members value given sized = each (ones w.pool sort value given (sized ∙ one))
  where
    each : IsOne w.pool sort value → TermIsDone w s n size (literal value)
    each (truth b e) = subst (IsDoneFor w s n sort size) (sym e) (truths b) given sized
    each (naught at) = first value at given sized
    each (unit at) = second value at given sized
    each (pooled i item at is) =
        let found = from-map (val_of number) pool i item (ap (λ list. slice_get list i) (sym same) ∙ at) in
        members i found.0 (let below = slice_get_within pool i found.0 found.1 in omega (arith, below, whole)) found.1 value (ap (λ v. value_at sort (whole_number v)) found.2 ∙ is) given sized

-- the arguments of the sort below a position
abbrev pub AreArgued : World → LevelState → ℕ → Sort → ℕ → ℕ → Type 0
AreArgued w s n sort size count = (position : ℕ) (found : Sort) → position < count → slice_get w.syntax.arguments position ≡ Some found → same_sort sort found ≡ true → TermIsDone w s n size (expr.Variable position)

pub argued-next : (w : World) (s t : LevelState) (n : ℕ) (sort : Sort) (size count : ℕ) (last : Sort) → LevelGrows w s t → AreArgued w s n sort size count → slice_get w.syntax.arguments count ≡ Some last →
    (same_sort sort last ≡ true → TermIsDone w t n size (expr.Variable count)) → AreArgued w t n sort size (count + 1)
argued-next w s t n sort size count last grows before at done position found below here is = elim (below-or-last position count below) [
  | inl less ↦ done-on w s t n size (expr.Variable position) grows (before position found less here is)
  | inr same ↦
      let equal : found ≡ last = same_Some found last (sym here ∙ ap (slice_get w.syntax.arguments) same ∙ at) in
      subst (λ p. TermIsDone w t n size (expr.Variable p)) (sym same) (done (ap (same_sort sort) (sym equal) ∙ is))
]

-- all arguments are all that the rule gives
pub argued-all : (w : World) (s : LevelState) (n : ℕ) (sort : Sort) (size count : ℕ) → length w.syntax.arguments ≤ count → AreArgued w s n sort size count → GivesDone w s n (EachVariable sort) size
argued-all w s n sort size count whole done term offers =
    let found = if_Some (is_sort sort (slice_get w.syntax.arguments offers.0)) (expr.Variable offers.0) term offers.1 in
    subst (TermIsDone w s n size) found.1 (each (slice_get w.syntax.arguments offers.0) refl found.0)
  where
    each : (o : Option Sort) → slice_get w.syntax.arguments offers.0 ≡ o → is_sort sort (slice_get w.syntax.arguments offers.0) ≡ true → TermIsDone w s n size (expr.Variable offers.0)
    each None at is = absurd (let no = ap (is_sort sort) (sym at) ∙ is in cc)
    each (Some last) at is = done offers.0 last (let below = slice_get_within w.syntax.arguments offers.0 last at in omega (arith, below, whole)) at (ap (is_sort sort) (sym at) ∙ is)

-- arguments count 1
pub argued-never : (w : World) (s : LevelState) (n : ℕ) (sort : Sort) (size : ℕ) → size ≢ 1 → GivesDone w s n (EachVariable sort) size
argued-never w s n sort size more term offers = absurd (more offers.2)

-- without points each kept term covers all
pub settled : (w : World) (s : LevelState) (n : ℕ) (term : Expr) → IsSteady w s → w.points ≡ [] → ((entry : Entry) × IsKept (all_levels w s) n entry × (entry.row ≡ [])) → TermIsDone w s n (length w.levels) term
settled w s n term steady none found = found-done w s n term [] steady
    (record { sized = ap length (sym none); each = λ k point at. absurd (none-some point (ap (λ points. slice_get points k) (sym none) ∙ at)) }) found

-- the sort of a rule for all constants is known
pub known-sort : (numeric : Sort → Bool) (w : World) (n rule : ℕ) (sort : Sort) → IsSet numeric w → IsLeafRule w.syntax n rule (EachConstant sort) → is_known numeric sort ≡ true
known-sort numeric w n rule sort set is = each (slice_get w.syntax.nonterminals n) refl is.at
  where
    each : (o : Option Nonterminal) → slice_get w.syntax.nonterminals n ≡ o → rule_of o rule ≡ Some (EachConstant sort) → is_known numeric sort ≡ true
    each None at found = absurd cc
    each (Some nonterminal) at found =
        let fits = formed_fits numeric w.scope w.syntax set.formed n nonterminal at in
        let same : sort ≡ nonterminal.sort = same_Some sort nonterminal.sort (fits.rules rule (EachConstant sort) found) in
        ap (is_known numeric) same ∙ fits.known

-- both truth values
pub both-truths : (w : World) (s t : LevelState) (n : ℕ) (sort : Sort) (size : ℕ) → LevelGrows w s t → IsDoneFor w s n sort size (Truth false) → IsDoneFor w t n sort size (Truth true) → (b : Bool) → IsDoneFor w t n sort size (Truth b)
both-truths w s t n sort size grows first second true = second
both-truths w s t n sort size grows first second false = done-for w s t n sort size (Truth false) grows first

-- a positive magnitude, with either sign
pub both-signs : (w : World) (s t : LevelState) (n : ℕ) (sort : Sort) (size m : ℕ) (value : Val) → LevelGrows w s t → 0 < m → IsDoneAt w s n sort size (pos m) → IsDoneAt w t n sort size (neg_ℤ (pos m)) → value_magnitude value ≡ m → IsDoneFor w t n sort size value
both-signs w s t n sort size m value grows above first second is given sized = elim (at-sign sort value m given is above) [
  | inl plain ↦ done-at w s t n sort size (pos m) grows first value plain given sized
  | inr negative ↦ second value negative given sized
]

-- what isn't of the size is done
pub done-otherwise : (w : World) (s : LevelState) (n : ℕ) (sort : Sort) (size : ℕ) (value : Val) → constant_size w.pool value ≢ size → IsDoneFor w s n sort size value
done-otherwise w s n sort size value differs given sized = absurd (differs sized)

pub settled-or : (w : World) (s : LevelState) (n : ℕ) (found : Bool) (Q : Type 0) → IsSteady w s → w.points ≡ [] → MatchBool found ((entry : Entry) × IsKept (all_levels w s) n entry × (entry.row ≡ [])) Q →
    MatchBool found ((term : Expr) → TermIsDone w s n (length w.levels) term) (Unit {0})
settled-or w s n true Q steady none found = λ term. settled w s n term steady none found
settled-or w s n false Q steady none found = tt

pub no-points : {X Y : Type 0} (f : X → Y) (xs : List X) → (length xs == 0) ≡ true → map f xs ≡ []
no-points f [] e = refl
no-points f (x ∷ xs) e = absurd (let some : (suc (length xs) == 0) ≡ false = grind arith in let both = sym e ∙ some in cc)

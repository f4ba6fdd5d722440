-- What holds of a term that a rule gives of kept terms of lesser sizes.
use Rattle.std.proofs.Common.{◌≡◌, ℕ, zero, suc, ◌+◌, ◌≤◌, List, [], ◌∷◌, length, refl, ap, sym, ◌∙◌, Some, slice_get, map, arith, subst, Bool, true, length-append}
use Rattle.std.specs.Prelude.{slice_index_or}
use Rattle.std.proofs.lemmas.Option.{none-some, slice_get-get_or}
use Rattle.sy_terms.specs.Values.{Val}
use Rattle.sy_terms.specs.Expr.{Expr}
use Rattle.sy_terms.specs.Meaning.{meaning, value_at_position}
use Rattle.sy_terms.specs.declared.op.Op.TheVariants as ops
use Rattle.sy_terms.specs.declared.sort.Sort.{Sort}
use Rattle.sy_terms.specs.declared.sort.Sort.TheVariants as sorts
use Rattle.sy_grammar_base.specs.Patterns.{Pattern, occurring, filled, own_size}
use Rattle.sy_grammar_base.specs.Trees.{Node}
use Rattle.sy_bank_level.specs.Banks.{Entry, IsKept, IsDropped}
use Rattle.sy_bank_level.specs.Rows.{IsRow, IsLostAt}
use Rattle.sy_bank_level.specs.Covering.{AreKept, sizes, terms}
use Rattle.sy_bank_level.specs.Columns.{FitsAt, HasRow}
use Rattle.sy_bank_level.specs.Chosen.{AreRows, children}
use Rattle.sy_bank_level.specs.Hashing.{hash_from}
use Rattle.sy_bank_level.specs.Filling.{World, LevelState, all_levels, EntryIsRight, IsSteady, IsNewRow, TermIsDone, AreOther}
use Rattle.sy_bank_level.proofs.KeptLaws.{kept_at-before, size-within}
use Rattle.sy_bank_level.specs.Tasks.{IsSet, IsRule}
use Rattle.sy_bank_level.proofs.Nodes.{AreSound, node-derives, node-sized, as-many, derived-fits}

-- a kept term of a lesser size is right
pub right-below : (w : World) (s : LevelState) (n : ℕ) (entry : Entry) → IsSteady w s → (kept : IsKept w.levels n entry) → EntryIsRight w n kept.size entry
right-below w s n entry steady kept =
    let within = size-within w.levels n kept.size kept.place entry kept.at in
    let same = kept_at-before w.levels s.fresh n kept.size within in
    steady.each n kept.size kept.place entry (ap (λ (list : List Entry). slice_get list kept.place) same ∙ kept.at)

pub sound-below : (w : World) (s : LevelState) (ns : List ℕ) (entries : List Entry) → IsSteady w s → AreKept w.levels ns entries → AreSound w.syntax w.defined w.pool w.points ns entries
sound-below w s [] [] steady kept = tt
sound-below w s [] (entry ∷ entries) steady kept = absurd kept
sound-below w s (n ∷ ns) [] steady kept = absurd kept
sound-below w s (n ∷ ns) (entry ∷ entries) steady kept = ((right-below w s n entry steady kept.0).sound, sound-below w s ns entries steady kept.1)

pub rows-below : (w : World) (s : LevelState) (ns : List ℕ) (entries : List Entry) → IsSteady w s → AreKept w.levels ns entries → AreRows w.scope w.defined w.points entries
rows-below w s [] [] steady kept i entry at = absurd (none-some entry at)
rows-below w s [] (first ∷ entries) steady kept i entry at = absurd kept
rows-below w s (n ∷ ns) [] steady kept i entry at = absurd kept
rows-below w s (n ∷ ns) (first ∷ entries) steady kept zero entry at =
    let same : first ≡ entry = cc in
    subst (λ (e : Entry). HasRow w.scope w.defined w.points e.term e.row) same (right-below w s n first steady kept.0).row
rows-below w s (n ∷ ns) (first ∷ entries) steady kept (suc i) entry at = rows-below w s ns entries steady kept.1 i entry at

-- the rule of a nonterminal that gives the pattern, and the terms chosen for it
pub record IsGiven (numeric : Sort → Bool) (w : World) (n rule : ℕ) (pattern : Pattern) (entries : List Entry) : Type 0 where
  pub negation : numeric sorts.Int ≡ true → w.scope.owned ops.Neg ≡ true
  pub set : IsSet numeric w
  pub rule_is : IsRule w.syntax n rule pattern
  pub kept : AreKept w.levels (occurring pattern) entries
  pub sized : own_size pattern + sizes entries ≡ length w.levels

pub given-fits : (numeric : Sort → Bool) (w : World) (s : LevelState) (n rule : ℕ) (pattern : Pattern) (entries : List Entry) → IsSteady w s → IsGiven numeric w n rule pattern entries → FitsAt w.scope w.points (filled pattern (terms entries))
given-fits numeric w s n rule pattern entries steady given =
    derived-fits numeric w.scope w.syntax w.points n (Node rule (children entries)) (filled pattern (terms entries)) given.negation given.set.formed given.set.points given.rule_is.known
    (node-derives w.syntax w.defined w.pool w.points n rule pattern entries given.rule_is.at (sound-below w s (occurring pattern) entries steady given.kept))

pub given-enough : (numeric : Sort → Bool) (w : World) (s : LevelState) (n rule : ℕ) (pattern : Pattern) (entries : List Entry) → IsSteady w s → IsGiven numeric w n rule pattern entries → length (occurring pattern) ≤ length entries
given-enough numeric w s n rule pattern entries steady given = omega (arith, as-many w.syntax w.defined w.pool w.points (occurring pattern) entries (sound-below w s (occurring pattern) entries steady given.kept))

row-is : (f : List Val → Val) (points : List (List Val)) (row : List Val) → length row ≡ length points → ((k : ℕ) (point : List Val) → slice_get points k ≡ Some point → value_at_position row k ≡ f point) → row ≡ map f points
row-is f [] [] sized each = refl
row-is f [] (value ∷ row) sized each = absurd (omega (arith, sized))
row-is f (point ∷ points) [] sized each = absurd (omega (arith, sized))
row-is f (point ∷ points) (value ∷ row) sized each =
    let first : value ≡ f point = each 0 point refl in
    let rest = row-is f points row (omega (arith, sized)) (λ k p at. each (suc k) p at) in
    ap (λ (v : Val). v ∷ row) first ∙ ap (λ (vs : List Val). f point ∷ vs) rest

-- values of its sort are a term's row
pub has-row : (w : World) (term : Expr) (row : List Val) → HasRow w.scope w.defined w.points term row → IsRow w.defined w.points term row
has-row w term row has = record {
  computable = λ k d within. (has.each k (slice_index_or w.points k d) (slice_get-get_or w.points k d within)).computable;
  is = row-is (λ point. meaning w.defined [] point term) w.points row has.sized (λ k point at. (has.each k point at).meaning);
}

pub given-right : (numeric : Sort → Bool) (w : World) (s : LevelState) (n rule : ℕ) (pattern : Pattern) (entries : List Entry) (row : List Val) → IsSteady w s → IsGiven numeric w n rule pattern entries →
    HasRow w.scope w.defined w.points (filled pattern (terms entries)) row →
    EntryIsRight w n (length w.levels) (record { term = filled pattern (terms entries); tree = Node rule (children entries); size = length w.levels; row = row })
given-right numeric w s n rule pattern entries row steady given has =
    let sound = sound-below w s (occurring pattern) entries steady given.kept in
    record {
      sized = refl;
      sound = record {
        derives = node-derives w.syntax w.defined w.pool w.points n rule pattern entries given.rule_is.at sound;
        sized = node-sized w.syntax w.defined w.pool w.points n rule pattern entries given.rule_is.at sound ∙ given.sized;
        row = has-row w (filled pattern (terms entries)) row has;
      };
      row = has;
    }

pub given-dropped : (numeric : Sort → Bool) (w : World) (s : LevelState) (n rule : ℕ) (pattern : Pattern) (entries : List Entry) (point : ℕ) → IsSteady w s → IsGiven numeric w n rule pattern entries →
    IsLostAt w.defined w.points (filled pattern (terms entries)) point →
    IsDropped w.syntax w.defined w.pool w.points (length w.levels) (record { term = filled pattern (terms entries); point = point })
given-dropped numeric w s n rule pattern entries point steady given lost =
    let sound = sound-below w s (occurring pattern) entries steady given.kept in
    record {
      nonterminal = n;
      tree = Node rule (children entries);
      derives = node-derives w.syntax w.defined w.pool w.points n rule pattern entries given.rule_is.at sound;
      small = omega (arith, node-sized w.syntax w.defined w.pool w.points n rule pattern entries given.rule_is.at sound, given.sized);
      is = lost;
    }

-- where none of the row's places has a term with it, none is kept
pub new-row : (w : World) (s : LevelState) (n hash : ℕ) (row : List Val) → IsSteady w s → hash ≡ hash_from n row → AreOther (all_levels w s) n (s.table hash) row → IsNewRow w s n row
new-row w s n hash row steady is others other kept same =
    let placed = steady.placed n kept.size kept.place other kept.at in
    let here : hash_from n other.row ≡ hash = ap (hash_from n) same ∙ sym is in
    others placed.0 (record { nonterminal = n; size = kept.size; index = kept.place }) other (ap (λ (h : ℕ). slice_get (s.table h) placed.0) (sym here) ∙ placed.1) refl kept.at same

-- where one is kept with it, the term is covered
pub found-done : (w : World) (s : LevelState) (n : ℕ) (term : Expr) (row : List Val) → IsSteady w s → HasRow w.scope w.defined w.points term row →
    ((entry : Entry) × IsKept (all_levels w s) n entry × (entry.row ≡ row)) → TermIsDone w s n (length w.levels) term
found-done w s n term row steady has found none_lost =
    let right = steady.each n found.1.size found.1.place found.0 found.1.at in
    record {
      entry = found.0;
      kept = found.1;
      small =
          let within = size-within (all_levels w s) n found.1.size found.1.place found.0 found.1.at in
          omega (arith, within, length-append w.levels (s.fresh ∷ []), right.sized);
      row = subst (IsRow w.defined w.points term) (sym found.2) (has-row w term row has);
    }

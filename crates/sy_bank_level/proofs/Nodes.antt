-- Nodes over kept terms: what they derive, their sizes, and that what they derive fits at each point.
use Rattle.std.proofs.Common.{◌≡◌, ℕ, zero, suc, ◌+◌, ◌<◌, List, [], ◌∷◌, length, refl, ap, Some, slice_get, arith, Bool, true}
use Rattle.std.specs.Option.{option_map}
use Rattle.sy_terms.specs.Values.{Val}
use Rattle.sy_terms.specs.Expr.{Expr}
use Rattle.sy_terms.specs.Meaning.{Function}
use Rattle.sy_terms.specs.Fitting.{Scope}
use Rattle.sy_terms.specs.declared.op.Op.TheVariants as ops
use Rattle.sy_terms.specs.declared.sort.Sort.{Sort}
use Rattle.sy_terms.specs.declared.sort.Sort.TheVariants as sorts
use Rattle.sy_grammar_base.specs.Patterns.{Pattern, occurring, filled, own_size}
use Rattle.sy_grammar_base.specs.Trees.{Syntax, Nonterminal, Template, Tree, Node, Derives, rule_at, yield_from, yields_from, tree_size, tree_sizes}
use Rattle.sy_grammar_base.specs.Formed.{is_formed}
use Rattle.sy_grammar_base.proofs.Members.{derived_fits}
use Rattle.sy_grammar_base.proofs.Filling.{sort_at}
use Rattle.sy_bank_level.specs.Banks.{Entry, EntryIsSound}
use Rattle.sy_bank_level.specs.Covering.{sizes, terms}
use Rattle.sy_bank_level.specs.Columns.{FitsAt}
use Rattle.sy_bank_level.specs.Chosen.{children}
use Rattle.sy_bank_level.specs.Rows.{ArePointsOf}

-- each is sound for its nonterminal
abbrev pub AreSound : Syntax → List Function → List Val → List (List Val) → List ℕ → List Entry → Type 0
AreSound syntax defined pool points [] [] = Unit {0}
AreSound syntax defined pool points [] (entry ∷ entries) = ⊥
AreSound syntax defined pool points (n ∷ ns) [] = ⊥
AreSound syntax defined pool points (n ∷ ns) (entry ∷ entries) = EntryIsSound syntax defined pool points n entry × AreSound syntax defined pool points ns entries

yields-chosen : (syntax : Syntax) (defined : List Function) (pool : List Val) (points : List (List Val)) (ns : List ℕ) (entries : List Entry) → AreSound syntax defined pool points ns entries →
    yields_from syntax ns (children entries) ≡ Some (terms entries)
unfolding yields_from
yields-chosen syntax defined pool points [] [] sound = refl
yields-chosen syntax defined pool points [] (entry ∷ entries) sound = absurd sound
yields-chosen syntax defined pool points (n ∷ ns) [] sound = absurd sound
yields-chosen syntax defined pool points (n ∷ ns) (entry ∷ entries) sound = rw (sound.0.derives, yields-chosen syntax defined pool points ns entries sound.1) refl

sizes-chosen : (syntax : Syntax) (defined : List Function) (pool : List Val) (points : List (List Val)) (ns : List ℕ) (entries : List Entry) → AreSound syntax defined pool points ns entries →
    tree_sizes syntax pool ns (children entries) ≡ sizes entries
unfolding tree_sizes
sizes-chosen syntax defined pool points [] [] sound = refl
sizes-chosen syntax defined pool points [] (entry ∷ entries) sound = absurd sound
sizes-chosen syntax defined pool points (n ∷ ns) [] sound = absurd sound
sizes-chosen syntax defined pool points (n ∷ ns) (entry ∷ entries) sound = rw (sound.0.sized, sizes-chosen syntax defined pool points ns entries sound.1) refl

-- a node over kept terms derives the filled pattern
pub node-derives : (syntax : Syntax) (defined : List Function) (pool : List Val) (points : List (List Val)) (n rule : ℕ) (pattern : Pattern) (entries : List Entry) → rule_at syntax n rule ≡ Some (Template pattern) →
    AreSound syntax defined pool points (occurring pattern) entries → Derives syntax n (Node rule (children entries)) (filled pattern (terms entries))
unfolding yield_from
node-derives syntax defined pool points n rule pattern entries at sound = rw (at, yields-chosen syntax defined pool points (occurring pattern) entries sound) refl

pub node-sized : (syntax : Syntax) (defined : List Function) (pool : List Val) (points : List (List Val)) (n rule : ℕ) (pattern : Pattern) (entries : List Entry) → rule_at syntax n rule ≡ Some (Template pattern) →
    AreSound syntax defined pool points (occurring pattern) entries → tree_size syntax pool n (Node rule (children entries)) ≡ own_size pattern + sizes entries
unfolding tree_size
node-sized syntax defined pool points n rule pattern entries at sound = rw (at, sizes-chosen syntax defined pool points (occurring pattern) entries sound) refl

-- as many terms as places
pub as-many : (syntax : Syntax) (defined : List Function) (pool : List Val) (points : List (List Val)) (ns : List ℕ) (entries : List Entry) → AreSound syntax defined pool points ns entries → length ns ≡ length entries
as-many syntax defined pool points [] [] sound = refl
as-many syntax defined pool points [] (entry ∷ entries) sound = absurd sound
as-many syntax defined pool points (n ∷ ns) [] sound = absurd sound
as-many syntax defined pool points (n ∷ ns) (entry ∷ entries) sound = ap suc (as-many syntax defined pool points ns entries sound.1)

nonterminal-at : (nonterminals : List Nonterminal) (n : ℕ) → n < length nonterminals → (nonterminal : Nonterminal) × (slice_get nonterminals n ≡ Some nonterminal)
nonterminal-at [] n within = absurd (omega arith)
nonterminal-at (first ∷ rest) zero within = (first, refl)
nonterminal-at (first ∷ rest) (suc n) within = nonterminal-at rest n (omega arith)

-- what is derived fits at each point
pub derived-fits : (numeric : Sort → Bool) (scope : Scope) (syntax : Syntax) (points : List (List Val)) (n : ℕ) (tree : Tree) (term : Expr) → (numeric sorts.Int ≡ true → scope.owned ops.Neg ≡ true) → is_formed numeric scope syntax ≡ true →
    ArePointsOf syntax.arguments points → n < length syntax.nonterminals → Derives syntax n tree term → FitsAt scope points term
derived-fits numeric scope syntax points n tree term negation formed sorted within derives k point at =
    let found = nonterminal-at syntax.nonterminals n within in
    let sort : sort_at syntax n ≡ Some found.0.sort = ap (option_map (λ (x : Nonterminal). x.sort)) found.1 in
    let fits = derived_fits numeric scope syntax negation formed n found.0.sort tree term sort derives in
    record { sort = found.0.sort; is = rw ((sorted k point at).1) fits }

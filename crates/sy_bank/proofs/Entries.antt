-- Kept terms of the size along chain rules, while nothing new is kept.
use Rattle.std.proofs.Common.{◌≡◌, ℕ, ◌+◌, ◌<◌, ◌≤◌, List, [], ◌∷◌, length, refl, ap, sym, ◌∙◌, Option, Some, None, slice_get, arith, subst, Bool, map, inl, inr}
use Rattle.std.specs.Prelude.{◌^◌, slice_index_or}
use Rattle.std.specs.Option.{option_map}
use Rattle.std.proofs.lemmas.Option.{same_Some, slice_get_within, slice_get-map}
use Rattle.sy_terms.specs.declared.sort.Sort.{Sort}
use Rattle.sy_terms.specs.Expr.{Expr}
use Rattle.sy_terms.specs.Values.{Val}
use Rattle.sy_grammar_base.specs.Patterns.{Occurrence, filled, first_of}
use Rattle.sy_grammar_base.specs.Formed.{pattern_sort}
use Rattle.sy_grammar_base.specs.Trees.{Nonterminal, Production, Template, rule_at, rule_of}
use Rattle.sy_grammar_base.specs.Grown.{nonterminal_of, production_of}
use Rattle.sy_grammar_base.specs.declared.grammar.Non.{Non}
use Rattle.sy_grammar_base.proofs.Members.{formed_fits}
use Rattle.sy_grammar_base.proofs.Numbering.{numbered}
use Rattle.std.proofs.lemmas.List.{length-map}
use Rattle.sy_bank_level.specs.Banks.{Entry, kept_at, IsKept}
use Rattle.sy_bank_level.specs.Covering.{terms}
use Rattle.sy_bank_level.specs.Filling.{World, LevelState, all_levels, EntryIsRight, IsSteady, LevelGrows, TermIsDone}
use Rattle.sy_bank_level.proofs.KeptLaws.{below-or-last, kept_at-last}
use Rattle.sy_bank_level.proofs.Keeping.{done-on}
use Rattle.sy_bank_level.specs.Tasks.{IsSet}
use Rattle.sy_bank_level.proofs.Given.{found-done}
use Rattle.sy_bank_level.proofs.Nodes.{node-derives, node-sized}
use Rattle.sy_bank.specs.Passing.{IsChainRule, chained, IsPassed, ArePassed}

-- a chain rule names a nonterminal that there is
pub chain-within : (numeric : Sort → Bool) (w : World) (n rule to : ℕ) → IsSet numeric w → IsChainRule w.syntax n rule to → to < length w.syntax.nonterminals
unfolding pattern_sort
chain-within numeric w n rule to set is = each (slice_get w.syntax.nonterminals n) refl is.at
  where
    named : (o : Option Nonterminal) (sort : Sort) → slice_get w.syntax.nonterminals to ≡ o → option_map (λ (x : Nonterminal). x.sort) o ≡ Some sort → to < length w.syntax.nonterminals
    named None sort at found = absurd cc
    named (Some nonterminal) sort at found = slice_get_within w.syntax.nonterminals to nonterminal at

    each : (o : Option Nonterminal) → slice_get w.syntax.nonterminals n ≡ o → rule_of o rule ≡ Some (Template (Occurrence to)) → to < length w.syntax.nonterminals
    each None at found = absurd cc
    each (Some nonterminal) at found =
        let fits = formed_fits numeric w.scope w.syntax set.formed n nonterminal at in
        named (slice_get w.syntax.nonterminals to) nonterminal.sort refl (fits.rules rule (Template (Occurrence to)) found)

-- each nonterminal has fewer than 2 ^ 31 rules
pub few-rules : {T N : Type 0} (number : N → Val) (numeric : Sort → Bool) (w : World) (nons : List (Non T N)) (place : ℕ) (item : Non T N) → IsSet numeric w →
    w.syntax.nonterminals ≡ map (nonterminal_of number) nons → slice_get nons place ≡ Some item → length item.rules < 2 ^ 31
few-rules number numeric w nons place item set same at =
    let there = ap (λ (all : List Nonterminal). slice_get all place) same ∙ (slice_get-map (nonterminal_of number) nons place ∙ ap (option_map (nonterminal_of number)) at) in
    let few = (numbered numeric w.scope w.syntax set.formed).rules place (nonterminal_of number item) there in
    omega (arith, few, length-map item.rules (production_of number))

-- the kept terms of the size
pub fresh-right : (w : World) (s : LevelState) (to i : ℕ) (entry : Entry) → IsSteady w s → slice_get (slice_index_or s.fresh to []) i ≡ Some entry → EntryIsRight w to (length w.levels) entry
fresh-right w s to i entry steady at = steady.each to (length w.levels) i entry (ap (λ (list : List Entry). slice_get list i) (kept_at-last w.levels s.fresh to) ∙ at)

filled-occurrence : (to : ℕ) (all : List Expr) → filled (Occurrence to) all ≡ first_of all
unfolding filled
filled-occurrence to all = refl

-- a kept term is right also along a chain rule
pub chained-right : (w : World) (n rule to size : ℕ) (entry : Entry) → IsChainRule w.syntax n rule to → EntryIsRight w to size entry → EntryIsRight w n size (chained rule entry)
chained-right w n rule to size entry is right = record {
  sized = right.sized;
  sound = record {
    derives = node-derives w.syntax w.defined w.pool w.points n rule (Occurrence to) (entry ∷ []) is.at (right.sound, tt) ∙ ap Some (filled-occurrence to (terms (entry ∷ [])));
    sized = node-sized w.syntax w.defined w.pool w.points n rule (Occurrence to) (entry ∷ []) is.at (right.sound, tt) ∙ (let same : 0 + (entry.size + 0) ≡ entry.size = omega arith in same);
    row = right.sound.row;
  };
  row = right.row;
}

-- the kept term at a place of the size
pub passed-right : (w : World) (s : LevelState) (n rule to place size : ℕ) (entry : Entry) → IsSteady w s → size ≡ length w.levels → IsChainRule w.syntax n rule to → Some entry ≡ slice_get (slice_index_or s.fresh to []) place →
    EntryIsRight w n size (chained rule entry)
passed-right w s n rule to place size entry steady is chain at =
    chained-right w n rule to size entry chain (subst (λ k. EntryIsRight w to k entry) (sym is) (fresh-right w s to place entry steady (sym at)))

-- where a kept term has its row
pub passed-found : (w : World) (s : LevelState) (n to place size : ℕ) (here : Entry) → IsSteady w s → size ≡ length w.levels → Some here ≡ slice_get (slice_index_or s.fresh to []) place →
    ((other : Entry) × IsKept (all_levels w s) n other × (other.row ≡ here.row)) → (entry : Entry) → slice_get (slice_index_or s.fresh to []) place ≡ Some entry → TermIsDone w s n size entry.term
passed-found w s n to place size here steady is at found entry same =
    let right = fresh-right w s to place here steady (sym at) in
    let done = found-done w s n here.term here.row steady right.row found in
    let equal : here ≡ entry = same_Some here entry (at ∙ same) in
    subst (λ (e : Entry). TermIsDone w s n size e.term) equal (subst (λ k. TermIsDone w s n k here.term) (sym is) done)

-- the first ones of these kept terms are done
abbrev pub AreDoneBelow : World → List Entry → LevelState → ℕ → ℕ → ℕ → Type 0
AreDoneBelow w entries s n size count = (i : ℕ) (entry : Entry) → i < count → slice_get entries i ≡ Some entry → TermIsDone w s n size entry.term

-- where nothing new is kept in two steps, none is in the first and the second
pub unchanged : (w : World) (r s t : LevelState) → LevelGrows w r s → LevelGrows w s t → r.count ≡ t.count → (r.count ≡ s.count) × (s.count ≡ t.count)
unchanged w r s t one two same = (omega (arith, one.counted, two.counted, same), omega (arith, one.counted, two.counted, same))

-- one kept term more
pub below-next : (w : World) (r s t : LevelState) (n to size count : ℕ) → LevelGrows w r s → LevelGrows w s t → (r.count ≡ s.count → AreDoneBelow w (slice_index_or r.fresh to []) s n size count) →
    ((entry : Entry) → slice_get (slice_index_or s.fresh to []) count ≡ Some entry → TermIsDone w t n size entry.term) →
    r.count ≡ t.count → AreDoneBelow w (slice_index_or r.fresh to []) t n size (count + 1)
below-next w r s t n to size count one two before done same i entry below at =
    let still = unchanged w r s t one two same in
    elim (below-or-last i count below) [
      | inl less ↦ done-on w s t n size entry.term two (before still.0 i entry less at)
      | inr last ↦ done entry (ap (λ (fresh : List (List Entry)). slice_get (slice_index_or fresh to []) count) (sym (one.same still.0)) ∙ ap (slice_get (slice_index_or r.fresh to [])) (sym last) ∙ at)
    ]

-- all kept terms of the size
pub below-all : (w : World) (r t : LevelState) (n to size count : ℕ) → IsSteady w t → LevelGrows w r t → size ≡ length w.levels → length (slice_index_or r.fresh to []) ≤ count →
    (r.count ≡ t.count → AreDoneBelow w (slice_index_or r.fresh to []) t n size count) → r.count ≡ t.count → IsPassed w t n to size
below-all w r t n to size count steady grows is whole done same entry kept sized =
    let right = steady.each to kept.size kept.place entry kept.at in
    let level : kept.size ≡ length w.levels = sym right.sized ∙ sized ∙ is in
    let fresh : slice_get (slice_index_or t.fresh to []) kept.place ≡ Some entry =
    sym (ap (λ (list : List Entry). slice_get list kept.place) (kept_at-last w.levels t.fresh to)) ∙ sym (ap (λ (k : ℕ). slice_get (kept_at (all_levels w t) to k) kept.place) level) ∙ kept.at in
    let at : slice_get (slice_index_or r.fresh to []) kept.place ≡ Some entry =
    ap (λ (lists : List (List Entry)). slice_get (slice_index_or lists to []) kept.place) (grows.same same) ∙ fresh in
    let below = slice_get_within (slice_index_or r.fresh to []) kept.place entry at in
    done same kept.place entry (omega (arith, below, whole)) at

-- what is passed stays so where nothing new is kept
pub passed-on : (w : World) (s t : LevelState) (n to size : ℕ) → LevelGrows w s t → s.count ≡ t.count → IsPassed w s n to size → IsPassed w t n to size
passed-on w s t n to size grows same passed entry kept sized =
    let fresh = grows.same same in
    let at = ap (λ (lists : List (List Entry)). slice_get (kept_at (all_levels w (record s { fresh = lists })) to kept.size) kept.place) fresh ∙ kept.at in
    done-on w s t n size entry.term grows (passed entry (record { size = kept.size; place = kept.place; at = at }) sized)

-- along the first rules of a nonterminal
abbrev pub ArePassedBelow : World → LevelState → ℕ → ℕ → ℕ → Type 0
ArePassedBelow w s n size count = (rule to : ℕ) → rule < count → rule_at w.syntax n rule ≡ Some (Template (Occurrence to)) → IsPassed w s n to size

pub rules-next : (w : World) (r s t : LevelState) (n size count : ℕ) → LevelGrows w r s → LevelGrows w s t → (r.count ≡ s.count → ArePassedBelow w s n size count) →
    (s.count ≡ t.count → (to : ℕ) → rule_at w.syntax n count ≡ Some (Template (Occurrence to)) → IsPassed w t n to size) →
    r.count ≡ t.count → ArePassedBelow w t n size (count + 1)
rules-next w r s t n size count one two before done same rule to below at =
    let still = unchanged w r s t one two same in
    elim (below-or-last rule count below) [
      | inl less ↦ passed-on w s t n to size two still.1 (before still.0 rule to less at)
      | inr last ↦ done still.1 to (ap (rule_at w.syntax n) (sym last) ∙ at)
    ]

-- along all rules of a nonterminal
pub rules-all : (w : World) (t : LevelState) (n size count : ℕ) (productions : List Production) → ((rule : ℕ) → rule_at w.syntax n rule ≡ slice_get productions rule) → length productions ≤ count → ArePassedBelow w t n size count →
    (rule to : ℕ) → rule_at w.syntax n rule ≡ Some (Template (Occurrence to)) → IsPassed w t n to size
rules-all w t n size count productions same whole done rule to at =
    let below = slice_get_within productions rule (Template (Occurrence to)) (sym (same rule) ∙ at) in
    done rule to (omega (arith, below, whole)) at

-- a chain rule names one nonterminal
pub one-named : (first second : ℕ) (production : Production) → production ≡ Template (Occurrence first) → Some production ≡ Some (Template (Occurrence second)) → first ≡ second
one-named first second production is at = let same = sym (ap Some is) ∙ at in cc

-- along the rules of the first nonterminals
abbrev pub AllPassedBelow : World → LevelState → ℕ → ℕ → Type 0
AllPassedBelow w s size count = (n rule to : ℕ) → n < count → rule_at w.syntax n rule ≡ Some (Template (Occurrence to)) → IsPassed w s n to size

pub nonterminals-next : (w : World) (r s t : LevelState) (size count : ℕ) → LevelGrows w r s → LevelGrows w s t → (r.count ≡ s.count → AllPassedBelow w s size count) →
    (s.count ≡ t.count → (rule to : ℕ) → rule_at w.syntax count rule ≡ Some (Template (Occurrence to)) → IsPassed w t count to size) →
    r.count ≡ t.count → AllPassedBelow w t size (count + 1)
nonterminals-next w r s t size count one two before done same n rule to below at =
    let still = unchanged w r s t one two same in
    elim (below-or-last n count below) [
      | inl less ↦ passed-on w s t n to size two still.1 (before still.0 n rule to less at)
      | inr last ↦ subst (λ k. IsPassed w t k to size) (sym last) (done still.1 rule to (ap (λ k. rule_at w.syntax k rule) (sym last) ∙ at))
    ]

-- along all rules
pub nonterminals-all : (w : World) (t : LevelState) (size count : ℕ) → length w.syntax.nonterminals ≤ count → AllPassedBelow w t size count → ArePassed w t size
nonterminals-all w t size count whole done n rule to at = done n rule to (each (slice_get w.syntax.nonterminals n) refl at) at
  where
    each : (o : Option Nonterminal) → slice_get w.syntax.nonterminals n ≡ o → rule_of o rule ≡ Some (Template (Occurrence to)) → n < count
    each None here found = absurd cc
    each (Some nonterminal) here found = let below = slice_get_within w.syntax.nonterminals n nonterminal here in omega (arith, below, whole)

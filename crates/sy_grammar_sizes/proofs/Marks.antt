-- Marks that are set one after the other.
use Rattle.std.proofs.Common.{◌≡◌, ℕ, zero, suc, ◌+◌, ◌<◌, ◌≤◌, List, [], ◌∷◌, ◌++◌, length, length-append, refl, ap, sym, ◌∙◌, arith, Bool, true, false, Some, slice_get, set, subst, ◌⊎◌, inl, inr}
use Rattle.std.proofs.lemmas.Option.{slice_get_within, slice_get_past}
use Rattle.std.proofs.lemmas.List.{length-set}
use Rattle.sy_grammar_base.specs.Patterns.{Occurrence}
use Rattle.sy_grammar_base.specs.Trees.{Syntax, Production, Template, rule_of}
use Rattle.sy_grammar_sizes.specs.Chains.{IsChain, IsChainBy, Reaches, IsAscending, IsListed, IsClosure}
use Rattle.sy_grammar_sizes.specs.Marking.{AreMarks, IsNextMark, AreFull, IsMarking, unset}
use Rattle.sy_grammar_sizes.proofs.Lists.{get-last, get-before, get-end, get-set, get-set_here, get-set_kept}

way_more : (syntax : Syntax) (from : ℕ) (steps : List ℕ) (mid to : ℕ) → IsChainBy syntax from steps mid → IsChain syntax mid to → IsChainBy syntax from (steps ++ to ∷ []) to
way_more syntax from [] mid to way chain = (subst (λ n. IsChain syntax n to) (sym way) chain, refl)
way_more syntax from (next ∷ steps) mid to way chain = (way.0, way_more syntax next steps mid to way.1 chain)

reaches_more : (syntax : Syntax) (from mid to : ℕ) → Reaches syntax from mid → IsChain syntax mid to → Reaches syntax from to
reaches_more syntax from mid to reaches chain = (reaches.0 ++ to ∷ [], way_more syntax from reaches.0 mid to reaches.1 chain)

pub marking_first : (syntax : Syntax) (from : ℕ) (marks : List Bool) → length marks ≡ length syntax.nonterminals → from < length marks → ((i : ℕ) → slice_get marks i ≡ Some true → ⊥) → IsMarking syntax from (set marks from true)
marking_first syntax from marks sized within none = record {
  sized = length-set marks from true ∙ sized;
  sound = λ to e. elim (get-set marks from to true true e) [
    | inl new ↦ ([], sym new.0)
    | inr old ↦ absurd (none to old)
  ];
  first = get-set_here marks from true within;
}

pub marking_more : (syntax : Syntax) (from : ℕ) (marks : List Bool) (to : ℕ) → IsMarking syntax from marks → IsNextMark syntax marks to → IsMarking syntax from (set marks to true)
marking_more syntax from marks to marking next = record {
  sized = length-set marks to true ∙ marking.sized;
  sound = λ n e. elim (get-set marks to n true true e) [
    | inl new ↦ subst (Reaches syntax from) (sym new.0) (reaches_more syntax from next.from to (marking.sound next.from next.marked) next.chain)
    | inr old ↦ marking.sound n old
  ];
  first = elim (get-set_kept marks to from true true marking.first) [ inl new ↦ new.1 | inr old ↦ old ];
}

pub unset_less : (marks : List Bool) (i : ℕ) → slice_get marks i ≡ Some false → unset (set marks i true) < unset marks
unset_less [] i at = absurd cc
unset_less (false ∷ marks) zero at = omega arith
unset_less (true ∷ marks) zero at = absurd cc
unset_less (false ∷ marks) (suc i) at = let h = unset_less marks i at in omega arith
unset_less (true ∷ marks) (suc i) at = unset_less marks i at

-- no chain rule stands where there is no nonterminal
no_chain : (syntax : Syntax) (from to : ℕ) → length syntax.nonterminals ≤ from → IsChain syntax from to → ⊥
no_chain syntax from to past chain =
    let none = ap (λ found. rule_of found chain.0) (slice_get_past syntax.nonterminals from past) in
    let is = chain.1 in
    cc

way_past : (syntax : Syntax) (from : ℕ) (steps : List ℕ) (to : ℕ) → length syntax.nonterminals ≤ from → IsChainBy syntax from steps to → from ≡ to
way_past syntax from [] to past way = way
way_past syntax from (next ∷ steps) to past way = absurd (no_chain syntax from next past way.0)

mark_cases : (marks : List Bool) (i : ℕ) → ((slice_get marks i ≡ Some true) ⊎ (slice_get marks i ≡ Some false)) ⊎ (length marks ≤ i)
mark_cases [] i = inr (omega arith)
mark_cases (true ∷ marks) zero = inl (inl refl)
mark_cases (false ∷ marks) zero = inl (inr refl)
mark_cases (mark ∷ marks) (suc i) = elim (mark_cases marks i) [ inl h ↦ inl h | inr h ↦ inr (omega (arith, h)) ]

way_marked : (syntax : Syntax) (marks : List Bool) → length marks ≡ length syntax.nonterminals → AreFull syntax marks → (from : ℕ) (steps : List ℕ) (to : ℕ) →
    slice_get marks from ≡ Some true → IsChainBy syntax from steps to → to < length syntax.nonterminals → slice_get marks to ≡ Some true
way_marked syntax marks sized full from [] to at way within = ap (slice_get marks) (sym way) ∙ at
way_marked syntax marks sized full from (next ∷ steps) to at way within = elim (mark_cases marks next) [
  | inl (inl marked) ↦ way_marked syntax marks sized full next steps to marked way.1 within
  | inl (inr not) ↦ absurd (full from next at way.0 not)
  | inr past ↦ absurd (let same = way_past syntax next steps to (omega (arith, past, sized)) way.1 in omega (arith, same, past, sized, within))
]

pub marks_done : (syntax : Syntax) (from : ℕ) (marks : List Bool) → IsMarking syntax from marks → AreFull syntax marks → AreMarks syntax from marks
marks_done syntax from marks marking full = record {
  sized = marking.sized;
  sound = marking.sound;
  whole = λ to within reaches. way_marked syntax marks marking.sized full from reaches.0 to marking.first reaches.1 within;
}

pub closure_of : (syntax : Syntax) (from : ℕ) (marks : List Bool) (list : List ℕ) → AreMarks syntax from marks → IsAscending list →
    ((i : ℕ) → (IsListed i list → slice_get marks i ≡ Some true) × (slice_get marks i ≡ Some true → IsListed i list)) → IsClosure syntax from list
closure_of syntax from marks list are ascending whole = record {
  ascending = ascending;
  whole = λ to. (
    λ listed. let at = (whole to).0 listed in (let within = slice_get_within marks to true at in omega (arith, within, are.sized), are.sound to at),
    λ reached. (whole to).1 (are.whole to reached.0 reached.1),
  );
}

-- the closures of the nonterminals before this one
pub record AreFirst (syntax : Syntax) (count : ℕ) (lists : List (List ℕ)) : Type 0 where
  pub sized : length lists ≡ count
  pub each : (from : ℕ) (reached : List ℕ) → slice_get lists from ≡ Some reached → IsClosure syntax from reached

pub first_none : (syntax : Syntax) (lists : List (List ℕ)) → lists ≡ [] → AreFirst syntax 0 lists
first_none syntax lists is = subst (AreFirst syntax 0) (sym is) (record { sized = refl; each = λ from reached at. absurd cc })

pub first_more : (syntax : Syntax) (count : ℕ) (lists : List (List ℕ)) (list : List ℕ) → AreFirst syntax count lists → IsClosure syntax count list → AreFirst syntax (count + 1) (lists ++ list ∷ [])
first_more syntax count lists list first closure = record {
  sized = let one = length-append lists (list ∷ []) in omega (arith, one, first.sized);
  each = λ from reached at. elim (get-last lists list from reached at) [
    | inl old ↦ first.each from reached old
    | inr new ↦ subst (λ l. IsClosure syntax from l) (sym new.1) (subst (λ n. IsClosure syntax n list) (sym (new.0 ∙ first.sized)) closure)
  ];
}

-- the marked numbers before this one, ascending
pub record IsList (marks : List Bool) (before : ℕ) (list : List ℕ) : Type 0 where
  pub ascending : IsAscending list
  pub sound : (n : ℕ) → IsListed n list → (n < before) × (slice_get marks n ≡ Some true)
  pub whole : (n : ℕ) → n < before → slice_get marks n ≡ Some true → IsListed n list

pub list_none : (marks : List Bool) (list : List ℕ) → list ≡ [] → IsList marks 0 list
list_none marks list is = subst (IsList marks 0) (sym is) (record {
  ascending = λ i j m n less e f. absurd cc;
  sound = λ n listed. let at = listed.1 in absurd cc;
  whole = λ n less at. absurd (omega arith);
})

least : (a b : ℕ) → a < b + 1 → (a < b) ⊎ (a ≡ b)
least a b h = grind arith

pub list_skip : (marks : List Bool) (before : ℕ) (list : List ℕ) → IsList marks before list → slice_get marks before ≡ Some false → IsList marks (before + 1) list
list_skip marks before list is at = record {
  ascending = is.ascending;
  sound = λ n listed. let h = is.sound n listed in (omega (arith, h.0), h.1);
  whole = λ n less found. elim (least n before less) [
    | inl lt ↦ is.whole n lt found
    | inr same ↦ let here = ap (slice_get marks) same in absurd cc
  ];
}

pub list_more : (marks : List Bool) (before : ℕ) (list : List ℕ) → IsList marks before list → slice_get marks before ≡ Some true → IsList marks (before + 1) (list ++ before ∷ [])
list_more marks before list is at = record {
  ascending = λ i j m n less e f. elim (get-last list before j n f) [
    | inl old ↦ elim (get-last list before i m e) [
      | inl first ↦ is.ascending i j m n less first old
      | inr last ↦ let within = slice_get_within list j n old in absurd (omega (arith, within, last.0, less))
    ]
    | inr new ↦ elim (get-last list before i m e) [
      | inl first ↦ let below = is.sound m (i, first) in omega (arith, below.0, new.1)
      | inr last ↦ absurd (omega (arith, last.0, new.0, less))
    ]
  ];
  sound = λ n listed. elim (get-last list before listed.0 n listed.1) [
    | inl old ↦ let h = is.sound n (listed.0, old) in (omega (arith, h.0), h.1)
    | inr new ↦ (omega (arith, new.1), ap (slice_get marks) new.1 ∙ at)
  ];
  whole = λ n less found. elim (least n before less) [
    | inl lt ↦ let h = is.whole n lt found in (h.0, get-before list before h.0 n h.1)
    | inr same ↦ (length list, get-end list before ∙ ap Some (sym same))
  ];
}

pub list_done : (marks : List Bool) (before : ℕ) (list : List ℕ) → IsList marks before list → length marks ≤ before →
    (n : ℕ) → (IsListed n list → slice_get marks n ≡ Some true) × (slice_get marks n ≡ Some true → IsListed n list)
list_done marks before list is all n = (
  λ listed. (is.sound n listed).1,
  λ at. let within = slice_get_within marks n true at in is.whole n (omega (arith, within, all)) at,
)

-- one rule more names nothing without a mark
pub named_more : (productions : List Production) (marks : List Bool) (place : ℕ) (production : Production) →
    ((rule to : ℕ) → rule < place → slice_get productions rule ≡ Some (Template (Occurrence to)) → slice_get marks to ≡ Some false → ⊥) →
    slice_get productions place ≡ Some production → ((to : ℕ) → production ≡ Template (Occurrence to) → slice_get marks to ≡ Some false → ⊥) →
    (rule to : ℕ) → rule < place + 1 → slice_get productions rule ≡ Some (Template (Occurrence to)) → slice_get marks to ≡ Some false → ⊥
named_more productions marks place production before at none rule to less found not = elim (least rule place less) [
  | inl lt ↦ before rule to lt found not
  | inr same ↦ none to (let here = sym at ∙ ap (slice_get productions) (sym same) ∙ found in cc) not
]

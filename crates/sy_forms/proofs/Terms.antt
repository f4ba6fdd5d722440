-- Terms that are read fit.
use Rattle.std.specs.Prelude.{ℕ, ◌^◌, nat_lt, pos, Bool, true, false, ◌++◌, List, [], ◌∷◌, length, Option, Some, None, Ok, ⊤, ◌≡◌, refl, bytes_eq, codes, if◌then◌else◌, IfOk}
use Rattle.std.proofs.Common.{ap, sym, subst, ◌∙◌}
use Rattle.sy_text_items.specs.Items as items
use Rattle.sy_text_items.specs.Items.{Item, leaf, group, Items}
use Rattle.sy_text_items.specs.declared.atom.Atom.{Atom}
use Rattle.sy_text_items.specs.declared.atom.Atom.TheVariants as atoms
use Rattle.sy_text_items.specs.declared.atom.Place.{Place}
use Rattle.sy_scope_causes.specs.declared.cause.Cause.TheVariants as cause
use Rattle.sy_terms.specs.Values.{Val, Truth, Whole, Bits}
use Rattle.sy_terms.specs.Theories.{valid, value_at, sort_of_value}
use Rattle.sy_terms.specs.Sorts.{sort_of, same_sort}
use Rattle.sy_terms.specs.Fitting.{same_sorts, signature_of}
use Rattle.sy_terms.specs.declared.op.Op.{Op}
use Rattle.sy_terms.specs.declared.sort.Logic.{Logic}
use Rattle.sy_terms.specs.declared.sort.Logic.TheVariants.{Lia, Bv}
use Rattle.sy_terms.specs.declared.sort.Sort.{Sort}
use Rattle.sy_terms.specs.declared.sort.Sort.TheVariants as sorts
use Rattle.sy_terms.specs.declared.sorts.Sorted.{Sorted}
use Rattle.sy_terms.specs.declared.sorts.Sorted.TheVariants.{Is, Mismatch, BadWidth}
use Rattle.sy_terms.specs.declared.term.Fun.{Fun}
use Rattle.sy_terms_operators.proofs.Equations.{with_sort_Some, same_sort_is, both_true}
use Rattle.sy_grammar_base.specs.Formed.{is_plain}
use Rattle.sy_terms.specs.Logics.{operators_of}
use Rattle.sy_forms_items.specs.declared.names.Named.{Named}
use Rattle.sy_forms_items.specs.declared.parts.Indices.{Indices}
use Rattle.sy_forms_items.specs.declared.parts.Indices.TheVariants.{One, Two, More}
use Rattle.sy_forms_items.specs.Environments as env
use Rattle.sy_forms_items.specs.Environments.{Environment, Sense, sense_of}
use Rattle.sy_forms_items.specs.Operators.{operator_named, indexed_operator, are_small, at_count}
use Rattle.sy_forms_items.specs.Measures.{Measures, is_within_limits}
use Rattle.sy_forms_items.specs.Parts.{place_of, symbol_in, is_symbol, has_no_items, indexed_name}
use Rattle.sy_forms_items.specs.Phrases as phrase
use Rattle.sy_forms_items.specs.Phrases.{Phrase, Phrases, Typed, Several, no_terms, behind, append_phrases}
use Rattle.sy_forms_items.specs.Readings.{Reading}
use Rattle.sy_forms_items.specs.Sorts.{is_width}
use Rattle.sy_forms.specs.Terms.{literal_as, number_as, numeral_term, vector_term, bv_number, bv_literal, indexed_term, undeclared_term, alone, name_term, atom_term, Head, Operator, Function, operator_head, name_head, small_head, indexed_head, list_head, atom_head, read_head, operation_by, head_applied, Bounds, Bound, unbound, bound_behind, let_term, new_binding_name, let_may_stand, read_term, read_list, read_terms, read_let, read_let_in, read_binding_list, read_bindings, read_binding, read_pair, read_bound, read_whole}
use Rattle.sy_forms_linear.specs.Linear.{is_linear_product, divides_by_constants, is_linear}
use Rattle.sy_forms.specs.Fitting.{Setting, phrase_sort, phrase_sorts}
use Rattle.sy_forms.specs.Right.{SenseIsThere, EnvironmentIsRight}
use Rattle.sy_forms.proofs.Readings.{chained, either, unless_refused, where_not_refused, any_read}
use Rattle.sy_forms.proofs.Exprs.{where_allowed, after_as}
use Rattle.sy_forms.proofs.NamesLaws.{sorts_of, there}
use Rattle.sy_forms.proofs.Operators.{named_owned, indexed_owned, counted_owned}

abbrev pub TypedFits : Setting → List Sort → Typed → Type 0
TypedFits setting locals x = phrase_sort setting locals x.phrase ≡ Some x.sort

abbrev pub SeveralFit : Setting → List Sort → Several → Type 0
SeveralFit setting locals x = phrase_sorts setting locals x.phrases ≡ Some x.sorts

abbrev BoundFits : Setting → List Sort → Bound → Type 0
BoundFits setting locals b = phrase_sort setting locals b.phrase ≡ Some b.named.sort

abbrev BoundsFit : Setting → List Sort → Bounds → Type 0
BoundsFit setting locals bs = phrase_sorts setting locals bs.terms ≡ Some (sorts_of bs.names)

-- Literals

literal_fits : (setting : Setting) (locals : List Sort) (value : Val) (b : Bool) → is_plain value ≡ b → b ≡ true → phrase_sort setting locals (phrase.Literal value) ≡ Some (sort_of_value value)
unfolding phrase_sort
literal_fits setting locals value b plain e = rw (plain, e) refl

vector_by : (setting : Setting) (locals : List Sort) (place : Place) (w n : ℕ) (b : Bool) → valid (Bits w n) ≡ b → IfOk (literal_as place (sorts.Bits w) (if b then Some (Bits w n) else None)) (TypedFits setting locals)
vector_by setting locals place w n true e = literal_fits setting locals (Bits w n) true (rw e refl) refl
vector_by setting locals place w n false e = tt

valued_fits : (setting : Setting) (locals : List Sort) (place : Place) (sort : Sort) (n : ℕ) → IfOk (literal_as place sort (value_at sort (pos n))) (TypedFits setting locals)
valued_fits setting locals place sorts.Bool n = tt
valued_fits setting locals place sorts.Int n = literal_fits setting locals (Whole (pos n)) true refl refl
valued_fits setting locals place (sorts.Bits w) n = vector_by setting locals place w n _ refl

number_fits : (setting : Setting) (locals : List Sort) (place : Place) (sort : Sort) (n : ℕ) → IfOk (number_as place sort n) (TypedFits setting locals)
number_fits setting locals place sort n =
    unless_refused (TypedFits setting locals) (nat_lt n (2 ^ 127)) place cause.LiteralRange (literal_as place sort (value_at sort (pos n))) (λ e. valued_fits setting locals place sort n)

bv_literal_fits : (setting : Setting) (locals : List Sort) (place : Place) (number : Option ℕ) (indices : Indices) → IfOk (bv_literal place number indices) (TypedFits setting locals)
bv_literal_fits setting locals place None indices = tt
bv_literal_fits setting locals place (Some n) (One w) = unless_refused (TypedFits setting locals) (is_width w) place cause.Width (number_as place (sorts.Bits w) n) (λ e. number_fits setting locals place (sorts.Bits w) n)
bv_literal_fits setting locals place (Some n) (Two i j) = tt
bv_literal_fits setting locals place (Some n) More = tt

indexed_fits : (setting : Setting) (locals : List Sort) (logic : Logic) (place : Place) (found : Option (List ℕ × Indices)) → IfOk (indexed_term logic place found) (TypedFits setting locals)
indexed_fits setting locals logic place None = tt
indexed_fits setting locals Lia place (Some x) = tt
indexed_fits setting locals Bv place (Some x) = bv_literal_fits setting locals place (bv_number x.0) x.1

-- Names

truth_fits : (setting : Setting) (locals : List Sort) (truth : Bool) → phrase_sort setting locals (phrase.Literal (Truth truth)) ≡ Some sorts.Bool
truth_fits setting locals truth = literal_fits setting locals (Truth truth) true refl refl

undeclared_fits : (setting : Setting) (locals : List Sort) (logic : Logic) (place : Place) (name : List ℕ) → IfOk (undeclared_term logic place name) (TypedFits setting locals)
undeclared_fits setting locals logic place name =
    either (TypedFits setting locals) (bytes_eq name (codes "true")) _ _ (λ e. truth_fits setting locals true) (λ e.
    either (TypedFits setting locals) (bytes_eq name (codes "false")) _ _ (λ e. truth_fits setting locals false) (λ e. tt))

alone_fits : (setting : Setting) (locals : List Sort) (place : Place) (function : Fun) (takes : List Sort) (gives : Sort) → signature_of setting.scope function ≡ Some (record { takes = takes; gives = gives }) → IfOk (alone place function takes gives) (TypedFits setting locals)
unfolding phrase_sort phrase_sorts
alone_fits setting locals place function [] gives there = rw there refl
alone_fits setting locals place function (s ∷ takes) gives there = tt

name_fits : (setting : Setting) (locals : List Sort) (logic : Logic) (place : Place) (name : List ℕ) (found : Option Sense) → ((sense : Sense) → found ≡ Some sense → SenseIsThere setting locals sense) → IfOk (name_term logic place name found) (TypedFits setting locals)
unfolding phrase_sort
name_fits setting locals logic place name None there = undeclared_fits setting locals logic place name
name_fits setting locals logic place name (Some (env.Local level sort)) there = there (env.Local level sort) refl
name_fits setting locals logic place name (Some (env.Nonterminal number sort)) there = there (env.Nonterminal number sort) refl
name_fits setting locals logic place name (Some (env.Argument position sort)) there = there (env.Argument position sort) refl
name_fits setting locals logic place name (Some (env.Variable position sort)) there = there (env.Variable position sort) refl
name_fits setting locals logic place name (Some (env.Function function takes gives)) there = alone_fits setting locals place function takes gives (there (env.Function function takes gives) refl)
name_fits setting locals logic place name (Some env.Withheld) there = tt

numeral_fits : (setting : Setting) (locals : List Sort) (logic : Logic) (place : Place) (n : ℕ) → IfOk (numeral_term logic place n) (TypedFits setting locals)
numeral_fits setting locals Lia place n = number_fits setting locals place sorts.Int n
numeral_fits setting locals Bv place n = tt

vector_fits : (setting : Setting) (locals : List Sort) (logic : Logic) (place : Place) (width n : ℕ) → IfOk (vector_term logic place width n) (TypedFits setting locals)
vector_fits setting locals Lia place width n = tt
vector_fits setting locals Bv place width n = number_fits setting locals place (sorts.Bits width) n

atom_fits : (numeric : Sort → Bool) (setting : Setting) (read : Environment) (locals : List Named) → EnvironmentIsRight numeric setting read → (place : Place) (atom : Atom) → IfOk (atom_term read locals place atom) (TypedFits setting (sorts_of locals))
unfolding atom_term
atom_fits numeric setting read locals right place (atoms.Symbol name) = name_fits setting (sorts_of locals) read.logic place name (sense_of read locals name) (λ sense e. there setting read locals name sense right.names e)
atom_fits numeric setting read locals right place (atoms.Numeral n) = numeral_fits setting (sorts_of locals) read.logic place n
atom_fits numeric setting read locals right place (atoms.Bits width n) = vector_fits setting (sorts_of locals) read.logic place width n
atom_fits numeric setting read locals right place (atoms.Keyword name) = tt
atom_fits numeric setting read locals right place (atoms.Decimal name) = tt
atom_fits numeric setting read locals right place (atoms.Text name) = tt

-- Heads

-- an operator of the logic, or a function that is there
abbrev HeadFits : Logic → Setting → Head → Type 0
HeadFits logic setting (Operator operator) = operators_of logic operator ≡ true
HeadFits logic setting (Function function takes gives) = signature_of setting.scope function ≡ Some (record { takes = takes; gives = gives })

operator_head_fits : (logic : Logic) (setting : Setting) (place : Place) (found : Option Op) → ((op : Op) → found ≡ Some op → operators_of logic op ≡ true) → IfOk (operator_head place found) (HeadFits logic setting)
operator_head_fits logic setting place None owned = tt
operator_head_fits logic setting place (Some op) owned = owned op refl

name_head_fits : (logic : Logic) (setting : Setting) (locals : List Sort) (place : Place) (name : List ℕ) (found : Option Sense) → ((sense : Sense) → found ≡ Some sense → SenseIsThere setting locals sense) → IfOk (name_head logic place name found) (HeadFits logic setting)
name_head_fits logic setting locals place name None there = operator_head_fits logic setting place (operator_named logic name) (named_owned logic name)
name_head_fits logic setting locals place name (Some (env.Local level sort)) there = tt
name_head_fits logic setting locals place name (Some (env.Nonterminal number sort)) there = tt
name_head_fits logic setting locals place name (Some (env.Argument position sort)) there = tt
name_head_fits logic setting locals place name (Some (env.Variable position sort)) there = tt
name_head_fits logic setting locals place name (Some (env.Function function takes gives)) there = there (env.Function function takes gives) refl
name_head_fits logic setting locals place name (Some env.Withheld) there = tt

small_head_fits : (setting : Setting) (place : Place) (indices : Indices) (found : Option Op) → ((op : Op) → found ≡ Some op → operators_of Bv op ≡ true) → IfOk (small_head place indices found) (HeadFits Bv setting)
small_head_fits setting place indices None owned = tt
small_head_fits setting place indices (Some op) owned = unless_refused (HeadFits Bv setting) (are_small indices) place cause.Width (Ok (Operator op)) (λ e. owned op refl)

indexed_head_fits : (logic : Logic) (setting : Setting) (place : Place) (found : Option (List ℕ × Indices)) → IfOk (indexed_head logic place found) (HeadFits logic setting)
indexed_head_fits logic setting place None = tt
indexed_head_fits Lia setting place (Some x) = tt
indexed_head_fits Bv setting place (Some x) = small_head_fits setting place x.1 (indexed_operator x.0 x.1) (indexed_owned x.0 x.1)

list_head_fits : (logic : Logic) (setting : Setting) (place : Place) (parts : Items) → IfOk (list_head logic place parts) (HeadFits logic setting)
list_head_fits logic setting place items.none = tt
list_head_fits logic setting place (items.more first rest) =
    unless_refused (HeadFits logic setting) (is_symbol (codes "_") first) place cause.Shape (indexed_head logic place (indexed_name rest)) (λ e. indexed_head_fits logic setting place (indexed_name rest))

atom_head_fits : (numeric : Sort → Bool) (setting : Setting) (read : Environment) (locals : List Named) → EnvironmentIsRight numeric setting read → (place : Place) (name : Option (List ℕ)) → IfOk (atom_head read locals place name) (HeadFits read.logic setting)
atom_head_fits numeric setting read locals right place None = tt
atom_head_fits numeric setting read locals right place (Some name) =
    name_head_fits read.logic setting (sorts_of locals) place name (sense_of read locals name) (λ sense e. there setting read locals name sense right.names e)

head_fits : (numeric : Sort → Bool) (setting : Setting) (read : Environment) (locals : List Named) → EnvironmentIsRight numeric setting read → (head : Item) → IfOk (read_head read locals head) (HeadFits read.logic setting)
unfolding read_head
head_fits numeric setting read locals right (leaf atom place) = atom_head_fits numeric setting read locals right place (symbol_in atom)
head_fits numeric setting read locals right (group parts place) = list_head_fits read.logic setting place parts

-- Applications

operation_sort : (setting : Setting) (locals : List Sort) (op : Op) (arguments : Several) (sort : Sort) → setting.scope.owned op ≡ true → SeveralFit setting locals arguments → sort_of op arguments.sorts ≡ Is sort → is_linear_product setting.constants op arguments.phrases ≡ true
    → phrase_sort setting locals (phrase.Operation op arguments.phrases) ≡ Some sort
unfolding phrase_sort
operation_sort setting locals op arguments sort owned fit e linear = rw (linear, fit, owned, e) refl

operation_fits : (setting : Setting) (locals : List Sort) (divisors : List Bool) (place : Place) (op : Op) (arguments : Several) (found : Sorted) → setting.scope.owned op ≡ true → SeveralFit setting locals arguments → sort_of op arguments.sorts ≡ found
    → IfOk (operation_by setting.constants divisors place op arguments.phrases found) (TypedFits setting locals)
operation_fits setting locals divisors place op arguments Mismatch owned fit e = tt
operation_fits setting locals divisors place op arguments BadWidth owned fit e = tt
operation_fits setting locals divisors place op arguments (Is sort) owned fit e =
    unless_refused (TypedFits setting locals) (is_linear setting.constants divisors op arguments.phrases) place cause.Nonlinear _ (λ linear.
    operation_sort setting locals op arguments sort owned fit e (both_true (is_linear_product setting.constants op arguments.phrases) (divides_by_constants divisors op arguments.phrases) linear).0)

invocation_fits : (setting : Setting) (locals : List Sort) (function : Fun) (takes : List Sort) (gives : Sort) (arguments : Several) → signature_of setting.scope function ≡ Some (record { takes = takes; gives = gives }) → SeveralFit setting locals arguments → same_sorts arguments.sorts takes ≡ true
    → phrase_sort setting locals (phrase.Invocation function arguments.phrases) ≡ Some gives
unfolding phrase_sort
invocation_fits setting locals function takes gives arguments there fit same = rw (there, fit, same) refl

applied_fits : (numeric : Sort → Bool) (setting : Setting) (read : Environment) (locals : List Sort) → EnvironmentIsRight numeric setting read → (place : Place) (head : Head) (arguments : Several) → HeadFits read.logic setting head → SeveralFit setting locals arguments
    → IfOk (head_applied setting.constants read.divisors place head arguments) (TypedFits setting locals)
unfolding head_applied
applied_fits numeric setting read locals right place (Operator op) arguments there fit =
    let counted = at_count (length arguments.sorts) op in
    operation_fits setting locals read.divisors place counted arguments (sort_of counted arguments.sorts) (right.theory.operators counted ∙ counted_owned read.logic (length arguments.sorts) op there) fit refl
applied_fits numeric setting read locals right place (Function function takes gives) arguments there fit =
    unless_refused (TypedFits setting locals) (same_sorts arguments.sorts takes) place cause.SortMismatch _ (λ same. invocation_fits setting locals function takes gives arguments there fit same)

-- one phrase more
sorts-last : (setting : Setting) (locals : List Sort) (done : Phrases) (last : Phrase) (found : List Sort) (sort : Sort) → phrase_sorts setting locals done ≡ Some found → phrase_sort setting locals last ≡ Some sort
    → phrase_sorts setting locals (append_phrases done (phrase.more last phrase.none)) ≡ Some (found ++ sort ∷ [])
unfolding phrase_sorts
sorts-last setting locals phrase.none last found sort e h =
    let same : [] ≡ found = cc in
    rw (h, ← same) refl
sorts-last setting locals (phrase.more first rest) last found sort e h =
    let parts = with_sort_Some (phrase_sort setting locals first) (phrase_sorts setting locals rest) found e in
    rw (parts.first_is, sorts-last setting locals rest last parts.sorts sort parts.rest_is h) (ap (λ (all : List Sort). Some (all ++ sort ∷ [])) parts.whole_is)

sorts_of-append : (first second : List Named) → sorts_of (first ++ second) ≡ sorts_of first ++ sorts_of second
sorts_of-append [] second = refl
sorts_of-append (x ∷ first) second = ap (λ (all : List Sort). x.sort ∷ all) (sorts_of-append first second)

let_fits : (setting : Setting) (locals : List Named) (bs : Bounds) (x : Typed) → setting.lets ≡ true → BoundsFit setting (sorts_of locals) bs → TypedFits setting (sorts_of (locals ++ bs.names)) x → IfOk (let_term bs x) (TypedFits setting (sorts_of locals))
unfolding phrase_sort
let_fits setting locals bs x lets fit inner =
    where_allowed setting.lets _ x.sort lets (after_as (phrase_sorts setting (sorts_of locals) bs.terms) (sorts_of bs.names) (λ all. phrase_sort setting (sorts_of locals ++ all) x.phrase) x.sort fit
    (ap (λ ls. phrase_sort setting ls x.phrase) (sym (sorts_of-append locals bs.names)) ∙ inner))

-- Terms

nothing_fits : (setting : Setting) (locals : List Sort) → SeveralFit setting locals no_terms
unfolding phrase_sorts
nothing_fits setting locals = refl

unbound_fits : (setting : Setting) (locals : List Sort) → BoundsFit setting locals unbound
unfolding phrase_sorts
unbound_fits setting locals = refl

mutual
  unfolding read_term read_list read_terms read_let read_let_in read_binding_list read_bindings read_binding read_pair read_bound

  pub term_fits : (numeric : Sort → Bool) (setting : Setting) (read : Environment) → EnvironmentIsRight numeric setting read → (locals : List Named) (item : Item) → IfOk (read_term read locals item) (TypedFits setting (sorts_of locals))
  term_fits numeric setting read right locals (leaf atom place) = atom_fits numeric setting read locals right place atom
  term_fits numeric setting read right locals (group parts place) = list_fits numeric setting read right locals place parts

  list_fits : (numeric : Sort → Bool) (setting : Setting) (read : Environment) → EnvironmentIsRight numeric setting read → (locals : List Named) (place : Place) (parts : Items) → IfOk (read_list read locals place parts) (TypedFits setting (sorts_of locals))
  list_fits numeric setting read right locals place items.none = tt
  list_fits numeric setting read right locals place (items.more head rest) =
      either (TypedFits setting (sorts_of locals)) (is_symbol (codes "let") head) _ _
      (λ e. unless_refused (TypedFits setting (sorts_of locals)) (let_may_stand read.role) place cause.Shape (read_let read locals place rest)
      (λ may. let_list_fits numeric setting read right (sym right.lets ∙ may) locals place rest))
      (λ e. either (TypedFits setting (sorts_of locals)) (is_symbol (codes "_") head) _ _
      (λ f. indexed_fits setting (sorts_of locals) read.logic place (indexed_name rest))
      (λ f. chained (HeadFits read.logic setting) (TypedFits setting (sorts_of locals)) (read_head read locals head) _ (head_fits numeric setting read locals right head) (λ found is there.
      chained (SeveralFit setting (sorts_of locals)) (TypedFits setting (sorts_of locals)) (read_terms read locals no_terms rest) _ (terms_fit numeric setting read right locals no_terms (nothing_fits setting (sorts_of locals)) rest) (λ arguments is fit.
      subst (λ constants. IfOk (head_applied constants read.divisors place found arguments) (TypedFits setting (sorts_of locals))) (sym right.constants) (applied_fits numeric setting read (sorts_of locals) right place found arguments there fit)))))

  terms_fit : (numeric : Sort → Bool) (setting : Setting) (read : Environment) → EnvironmentIsRight numeric setting read → (locals : List Named) (done : Several) → SeveralFit setting (sorts_of locals) done → (parts : Items) → IfOk (read_terms read locals done parts) (SeveralFit setting (sorts_of locals))
  terms_fit numeric setting read right locals done fit items.none = fit
  terms_fit numeric setting read right locals done fit (items.more first rest) =
      chained (TypedFits setting (sorts_of locals)) (SeveralFit setting (sorts_of locals)) (read_term read locals first) _ (term_fits numeric setting read right locals first) (λ x is last.
      terms_fit numeric setting read right locals (behind done x) (sorts-last setting (sorts_of locals) done.phrases x.phrase done.sorts x.sort fit last) rest)

  let_list_fits : (numeric : Sort → Bool) (setting : Setting) (read : Environment) → EnvironmentIsRight numeric setting read → setting.lets ≡ true → (locals : List Named) (place : Place) (parts : Items) → IfOk (read_let read locals place parts) (TypedFits setting (sorts_of locals))
  let_list_fits numeric setting read right lets locals place items.none = tt
  let_list_fits numeric setting read right lets locals place (items.more bindings rest) =
      let_in_fits numeric setting read right lets locals place (read_binding_list read locals place bindings) (binding_list_fits numeric setting read right locals place bindings) rest

  let_in_fits : (numeric : Sort → Bool) (setting : Setting) (read : Environment) → EnvironmentIsRight numeric setting read → setting.lets ≡ true → (locals : List Named) (place : Place) (bound : Reading Bounds) → IfOk bound (BoundsFit setting (sorts_of locals)) → (parts : Items) → IfOk (read_let_in read locals place bound parts) (TypedFits setting (sorts_of locals))
  let_in_fits numeric setting read right lets locals place bound fit items.none = tt
  let_in_fits numeric setting read right lets locals place bound fit (items.more inner items.none) =
      chained (BoundsFit setting (sorts_of locals)) (TypedFits setting (sorts_of locals)) bound _ fit (λ bs is bs_fit.
      chained (TypedFits setting (sorts_of (locals ++ bs.names))) (TypedFits setting (sorts_of locals)) (read_term read (locals ++ bs.names) inner) _ (term_fits numeric setting read right (locals ++ bs.names) inner) (λ x x_is x_fits.
      let_fits setting locals bs x lets bs_fit x_fits))
  let_in_fits numeric setting read right lets locals place bound fit (items.more inner (items.more next rest)) = tt

  binding_list_fits : (numeric : Sort → Bool) (setting : Setting) (read : Environment) → EnvironmentIsRight numeric setting read → (locals : List Named) (place : Place) (item : Item) → IfOk (read_binding_list read locals place item) (BoundsFit setting (sorts_of locals))
  binding_list_fits numeric setting read right locals place (leaf atom at) = tt
  binding_list_fits numeric setting read right locals place (group bindings at) =
      where_not_refused (BoundsFit setting (sorts_of locals)) (has_no_items bindings) place cause.Shape (read_bindings read locals unbound bindings) (λ e. bindings_fit numeric setting read right locals unbound (unbound_fits setting (sorts_of locals)) bindings)

  bindings_fit : (numeric : Sort → Bool) (setting : Setting) (read : Environment) → EnvironmentIsRight numeric setting read → (locals : List Named) (bound : Bounds) → BoundsFit setting (sorts_of locals) bound → (parts : Items) → IfOk (read_bindings read locals bound parts) (BoundsFit setting (sorts_of locals))
  bindings_fit numeric setting read right locals bound fit items.none = fit
  bindings_fit numeric setting read right locals bound fit (items.more first rest) =
      chained (BoundFits setting (sorts_of locals)) (BoundsFit setting (sorts_of locals)) (read_binding read locals bound.names first) _ (binding_fits numeric setting read right locals bound.names first) (λ b is last.
      bindings_fit numeric setting read right locals (bound_behind bound b)
      (sorts-last setting (sorts_of locals) bound.terms b.phrase (sorts_of bound.names) b.named.sort fit last ∙ ap Some (sym (sorts_of-append bound.names (b.named ∷ [])))) rest)

  binding_fits : (numeric : Sort → Bool) (setting : Setting) (read : Environment) → EnvironmentIsRight numeric setting read → (locals taken : List Named) (item : Item) → IfOk (read_binding read locals taken item) (BoundFits setting (sorts_of locals))
  binding_fits numeric setting read right locals taken (leaf atom place) = tt
  binding_fits numeric setting read right locals taken (group parts place) = pair_fits numeric setting read right locals taken place parts

  pair_fits : (numeric : Sort → Bool) (setting : Setting) (read : Environment) → EnvironmentIsRight numeric setting read → (locals taken : List Named) (place : Place) (parts : Items) → IfOk (read_pair read locals taken place parts) (BoundFits setting (sorts_of locals))
  pair_fits numeric setting read right locals taken place items.none = tt
  pair_fits numeric setting read right locals taken place (items.more name rest) = bound_fits numeric setting read right locals place (new_binding_name read.logic taken place name) rest

  bound_fits : (numeric : Sort → Bool) (setting : Setting) (read : Environment) → EnvironmentIsRight numeric setting read → (locals : List Named) (place : Place) (name : Reading (List ℕ)) (parts : Items) → IfOk (read_bound read locals place name parts) (BoundFits setting (sorts_of locals))
  bound_fits numeric setting read right locals place name items.none = tt
  bound_fits numeric setting read right locals place name (items.more term items.none) =
      chained (λ x. ⊤) (BoundFits setting (sorts_of locals)) name _ (any_read name) (λ x is any.
      chained (TypedFits setting (sorts_of locals)) (BoundFits setting (sorts_of locals)) (read_term read locals term) _ (term_fits numeric setting read right locals term) (λ t t_is t_fits. t_fits))
  bound_fits numeric setting read right locals place name (items.more term (items.more next rest)) = tt

-- a whole term has the sort that is asked for
pub whole_fits : (numeric : Sort → Bool) (setting : Setting) (read : Environment) → EnvironmentIsRight numeric setting read → (measures : Measures) (sort : Sort) (item : Item) → IfOk (read_whole read measures sort item) (λ it. phrase_sort setting [] it ≡ Some sort)
whole_fits numeric setting read right measures sort item =
    chained (TypedFits setting []) (λ it. phrase_sort setting [] it ≡ Some sort) (read_term read [] item) _ (term_fits numeric setting read right [] item) (λ x is fit.
    unless_refused (λ it. phrase_sort setting [] it ≡ Some sort) (same_sort x.sort sort) (place_of item) cause.SortMismatch _ (λ e.
    unless_refused (λ it. phrase_sort setting [] it ≡ Some sort) (is_within_limits measures x.phrase) (place_of item) cause.TooMany (Ok x.phrase) (λ f. fit ∙ ap Some (same_sort_is x.sort sort e))))

-- Rules that are read fit, and those that are written as constants give constants alone.
use Rattle.std.specs.Prelude.{ℕ, ◌^◌, nat_lt, pos, Bool, true, false, List, [], ◌∷◌, Option, Some, None, Ok, ⊤, ◌≡◌, refl, codes, is_some, if◌then◌else◌, IfOk}
use Rattle.std.proofs.Common.{ap, sym, subst, ◌∙◌}
use Rattle.std.proofs.lemmas.Slice.Eq.{bytes_eq-Decides}
use Rattle.sy_text_items.specs.Items as items
use Rattle.sy_text_items.specs.Items.{Item, leaf, group, Items}
use Rattle.sy_text_items.specs.declared.atom.Atom.{Atom}
use Rattle.sy_text_items.specs.declared.atom.Atom.TheVariants as atoms
use Rattle.sy_text_items.specs.declared.atom.Place.{Place}
use Rattle.sy_scope_causes.specs.declared.cause.Cause.TheVariants as cause
use Rattle.sy_terms.specs.Spelling.{spelling}
use Rattle.sy_terms.specs.Values.{Val, Whole}
use Rattle.sy_terms.specs.Sorts.{sort_of, same_sort}
use Rattle.sy_terms.specs.declared.op.Op.TheVariants as ops
use Rattle.sy_terms.specs.declared.sort.Logic.{Logic}
use Rattle.sy_terms.specs.declared.sort.Logic.TheVariants.{Lia, Bv}
use Rattle.sy_terms.specs.declared.sort.Sort.{Sort}
use Rattle.sy_terms.specs.declared.sort.Sort.TheVariants as sorts
use Rattle.sy_terms_operators.proofs.Equations.{both_true, same_sort_is}
use Rattle.sy_grammar_base.specs.Formed.{rule_sort, gives_constants, is_signed}
use Rattle.sy_grammar_base.specs.Trees.{Syntax}
use Rattle.sy_forms_items.specs.Environments.{Environment, Sense, sense_of}
use Rattle.sy_forms_items.specs.Parts.{place_of, numeral, numeral_in, is_symbol}
use Rattle.sy_forms_items.specs.Phrases as phrase
use Rattle.sy_forms_items.specs.Phrases.{Typed, Several, no_terms, behind, pattern_at, patterns_at}
use Rattle.sy_forms_items.specs.Productions.{Ruling, Template, EachConstant, EachVariable, production_at}
use Rattle.sy_forms_linear.specs.Flags.{item_behind, is_negated_numeral, is_int_rule, is_constant_rule}
use Rattle.sy_forms.specs.Rules.{sort_for_all, rule_for_all, rule_term, rule_list, read_rule}
use Rattle.sy_forms_items.specs.Sorts.{read_sort}
use Rattle.sy_forms.specs.Terms.{Head, Operator, read_term, read_list, read_terms, read_head, atom_term, numeral_term, name_head, head_applied}
use Rattle.sy_forms.specs.Fitting.{Setting}
use Rattle.sy_forms.specs.Right.{EnvironmentIsRight, IsOfGrammar}
use Rattle.sy_forms.proofs.Readings.{chained, unless_refused, weaker, any_read}
use Rattle.sy_forms.proofs.Terms.{TypedFits, term_fits}
use Rattle.sy_forms.proofs.Patterns.{pattern_fits}

-- the rule's terms have the sort
abbrev pub RuleFits : Setting → Syntax → Sort → Ruling → Type 0
RuleFits setting syntax sort rule = rule_sort setting.scope syntax (production_at rule) ≡ Some sort

for_all_fits : (P : Ruling → Type 0) (read : Environment) (sort : Sort) (place : Place) (ruling : Sort → Ruling) (item : Item) → P (ruling sort) → IfOk (rule_for_all read sort place ruling item) P
for_all_fits P read sort place ruling item holds =
    chained (λ found. found ≡ sort) P (sort_for_all read sort place item) _
    (chained (λ found. ⊤) (λ found. found ≡ sort) (read_sort read.logic read.sorts item) _ (any_read (read_sort read.logic read.sorts item)) (λ found is any.
    unless_refused (λ found. found ≡ sort) (same_sort found sort) place cause.SortMismatch (Ok found) (λ e. same_sort_is found sort e)))
    (λ found is same. subst (λ s. P (ruling s)) (sym same) holds)

term_rule_fits : (numeric : Sort → Bool) (setting : Setting) (read : Environment) (syntax : Syntax) → EnvironmentIsRight numeric setting read → IsOfGrammar setting syntax → (sort : Sort) (item : Item) → IfOk (rule_term read sort item) (RuleFits setting syntax sort)
term_rule_fits numeric setting read syntax right of sort item =
    chained (TypedFits setting []) (RuleFits setting syntax sort) (read_term read [] item) _ (term_fits numeric setting read right [] item) (λ x is fit.
    unless_refused (RuleFits setting syntax sort) (same_sort x.sort sort) (place_of item) cause.SortMismatch (Ok (Template x.phrase)) (λ e.
    pattern_fits setting syntax of x.phrase sort (fit ∙ ap Some (same_sort_is x.sort sort e))))

list_rule_fits : (numeric : Sort → Bool) (setting : Setting) (read : Environment) (syntax : Syntax) → EnvironmentIsRight numeric setting read → IsOfGrammar setting syntax → (sort : Sort) (item : Item) (place : Place) (constant variable : Option Item)
    → IfOk (rule_list read sort item place constant variable) (RuleFits setting syntax sort)
list_rule_fits numeric setting read syntax right of sort item place (Some s) variable = for_all_fits (RuleFits setting syntax sort) read sort place EachConstant s refl
list_rule_fits numeric setting read syntax right of sort item place None (Some s) = for_all_fits (RuleFits setting syntax sort) read sort place EachVariable s refl
list_rule_fits numeric setting read syntax right of sort item place None None = term_rule_fits numeric setting read syntax right of sort item

-- a rule that is read has its nonterminal's sort
pub rule_fits : (numeric : Sort → Bool) (setting : Setting) (read : Environment) (syntax : Syntax) → EnvironmentIsRight numeric setting read → IsOfGrammar setting syntax → (sort : Sort) (item : Item) → IfOk (read_rule read sort item) (RuleFits setting syntax sort)
unfolding read_rule
rule_fits numeric setting read syntax right of sort (leaf atom place) = term_rule_fits numeric setting read syntax right of sort (leaf atom place)
rule_fits numeric setting read syntax right of sort (group parts place) =
    list_rule_fits numeric setting read syntax right of sort (group parts place) place (item_behind (codes "Constant") parts) (item_behind (codes "Variable") parts)

-- Constants

abbrev GivesConstants : Ruling → Type 0
GivesConstants rule = gives_constants (production_at rule) ≡ true

-- a numeral, or minus one
abbrev IsSigned : Typed → Type 0
IsSigned x = is_signed (pattern_at x.phrase) ≡ true

-- in the logic of integers, a literal of the sort Int
abbrev IsNumeral : Logic → Typed → Type 0
IsNumeral logic x = (logic ≡ Lia) × (value : Val) × (x ≡ record { phrase = phrase.Literal value; sort = sorts.Int })

numeral_read : (logic : Logic) (place : Place) (n : ℕ) → IfOk (numeral_term logic place n) (IsNumeral logic)
numeral_read Bv place n = tt
numeral_read Lia place n = unless_refused (IsNumeral Lia) (nat_lt n (2 ^ 127)) place cause.LiteralRange (Ok (record { phrase = phrase.Literal (Whole (pos n)); sort = sorts.Int })) (λ e. (refl, Whole (pos n), refl))

numeral_item : (read : Environment) (atom : Atom) (place : Place) → is_some (numeral_in atom) ≡ true → IfOk (read_term read [] (leaf atom place)) (IsNumeral read.logic)
unfolding read_term atom_term
numeral_item read (atoms.Numeral n) place e = numeral_read read.logic place n
numeral_item read (atoms.Symbol name) place e = absurd cc
numeral_item read (atoms.Bits width n) place e = absurd cc
numeral_item read (atoms.Keyword name) place e = absurd cc
numeral_item read (atoms.Decimal name) place e = absurd cc
numeral_item read (atoms.Text name) place e = absurd cc

numeral_signed : (logic : Logic) (x : Typed) → IsNumeral logic x → IsSigned x
unfolding pattern_at
numeral_signed logic x is = rw is.2 refl

signed_rule : (read : Environment) (sort : Sort) (item : Item) → IfOk (read_term read [] item) IsSigned → IfOk (rule_term read sort item) GivesConstants
signed_rule read sort item signed =
    chained IsSigned GivesConstants (read_term read [] item) _ signed (λ x is holds.
    unless_refused GivesConstants (same_sort x.sort sort) (place_of item) cause.SortMismatch (Ok (Template x.phrase)) (λ e. holds))

-- the head `-` is the operator in the logic of integers
abbrev IsMinus : Logic → Head → Type 0
IsMinus logic head = logic ≡ Lia → head ≡ Operator ops.Sub

minus_named : (logic : Logic) (place : Place) (found : Option Sense) → (logic ≡ Lia → found ≡ None) → IfOk (name_head logic place (codes "-") found) (IsMinus logic)
unfolding spelling
minus_named Lia place found free = rw (free refl) (λ e. refl)
minus_named Bv place found free = weaker (λ head. ⊤) (IsMinus Bv) (name_head Bv place (codes "-") found) (any_read (name_head Bv place (codes "-") found)) (λ head any e. absurd cc)

-- one numeral
abbrev IsOneNumeral : Logic → Several → Type 0
IsOneNumeral logic x = (logic ≡ Lia) × (value : Val) × (x ≡ record { phrases = phrase.more (phrase.Literal value) phrase.none; sorts = sorts.Int ∷ [] })

one_numeral : (read : Environment) (atom : Atom) (place : Place) → is_some (numeral_in atom) ≡ true → IfOk (read_terms read [] no_terms (items.more (leaf atom place) items.none)) (IsOneNumeral read.logic)
unfolding read_terms
one_numeral read atom place e =
    chained (IsNumeral read.logic) (IsOneNumeral read.logic) (read_term read [] (leaf atom place)) _ (numeral_item read atom place e) (λ x is numeral.
    (numeral.0, numeral.1, ap (λ t. behind no_terms t) numeral.2))

negated : (constants divisors : List Bool) (place : Place) (value : Val) → IfOk (head_applied constants divisors place (Operator ops.Sub) (record { phrases = phrase.more (phrase.Literal value) phrase.none; sorts = sorts.Int ∷ [] })) IsSigned
unfolding head_applied sort_of pattern_at patterns_at
negated constants divisors place value = refl

minus_applied : (logic : Logic) (constants divisors : List Bool) (place : Place) (head : Head) (arguments : Several) → IsMinus logic head → IsOneNumeral logic arguments → IfOk (head_applied constants divisors place head arguments) IsSigned
minus_applied logic constants divisors place head arguments minus one = rw (minus one.0, one.2) (negated constants divisors place one.1)

-- `(- n)` with a numeral n
negation_read : (read : Environment) → (read.logic ≡ Lia → sense_of read [] (codes "-") ≡ None) → (place at p : Place) (atom : Atom) → is_some (numeral_in atom) ≡ true
    → IfOk (read_term read [] (group (items.more (leaf (atoms.Symbol (codes "-")) at) (items.more (leaf atom p) items.none)) place)) IsSigned
unfolding read_term read_list read_head
negation_read read free place at p atom e =
    chained (IsMinus read.logic) IsSigned (read_head read [] (leaf (atoms.Symbol (codes "-")) at)) _ (minus_named read.logic at (sense_of read [] (codes "-")) free) (λ head is minus.
    chained (IsOneNumeral read.logic) IsSigned (read_terms read [] no_terms (items.more (leaf atom p) items.none)) _ (one_numeral read atom p e) (λ arguments args_is one.
    minus_applied read.logic read.constants read.divisors place head arguments minus one))

-- an item that is this symbol
record IsSymbolItem (name : List ℕ) (item : Item) : Type 0 where
  at : Place
  is : item ≡ leaf (atoms.Symbol name) at

symbol_item : (name : List ℕ) (item : Item) → is_symbol name item ≡ true → IsSymbolItem name item
symbol_item name (leaf (atoms.Symbol bytes) at) e = record { at = at; is = ap (λ b. leaf (atoms.Symbol b) at) ((bytes_eq-Decides bytes name).0 e) }
symbol_item name (leaf (atoms.Numeral n) at) e = absurd cc
symbol_item name (leaf (atoms.Bits width n) at) e = absurd cc
symbol_item name (leaf (atoms.Keyword bytes) at) e = absurd cc
symbol_item name (leaf (atoms.Decimal bytes) at) e = absurd cc
symbol_item name (leaf (atoms.Text bytes) at) e = absurd cc
symbol_item name (group parts at) e = absurd cc

numeral_rule : (read : Environment) → (read.logic ≡ Lia → sense_of read [] (codes "-") ≡ None) → (place at : Place) (n : Item) → is_some (numeral n) ≡ true
    → IfOk (read_term read [] (group (items.more (leaf (atoms.Symbol (codes "-")) at) (items.more n items.none)) place)) IsSigned
numeral_rule read free place at (leaf atom p) e = negation_read read free place at p atom e
numeral_rule read free place at (group parts p) e = absurd cc

-- what is known of `(- n)`: it isn't a rule for all variables, and it is a constant
record IsNegation (read : Environment) (parts : Items) (place : Place) : Type 0 where
  no_variable : item_behind (codes "Variable") parts ≡ None
  signed : IfOk (read_term read [] (group parts place)) IsSigned

negation : (read : Environment) → (read.logic ≡ Lia → sense_of read [] (codes "-") ≡ None) → (place : Place) (parts : Items) → is_negated_numeral parts ≡ true → IsNegation read parts place
negation read free place items.none e = absurd cc
negation read free place (items.more head items.none) e = absurd cc
negation read free place (items.more head (items.more n (items.more next rest))) e = absurd cc
negation read free place (items.more head (items.more n items.none)) e =
    let both = both_true (is_symbol (codes "-") head) (is_some (numeral n)) e in
    let minus = symbol_item (codes "-") head both.0 in
    record {
      no_variable = ap (λ h. item_behind (codes "Variable") (items.more h (items.more n items.none))) minus.is;
      signed = subst (λ h. IfOk (read_term read [] (group (items.more h (items.more n items.none)) place)) IsSigned) (sym minus.is) (numeral_rule read free place minus.at n both.1);
    }

constant_by : (read : Environment) (sort : Sort) (parts : Items) (place : Place) (constant : Option Item) (b : Bool) → (b ≡ true → IsNegation read parts place) → (if b then true else is_int_rule read constant) ≡ true
    → IfOk (rule_list read sort (group parts place) place constant (item_behind (codes "Variable") parts)) GivesConstants
constant_by read sort parts place (Some s) b negation e = for_all_fits GivesConstants read sort place EachConstant s refl
constant_by read sort parts place None false negation e = absurd cc
constant_by read sort parts place None true negation e = rw (negation refl).no_variable (signed_rule read sort (group parts place) (negation refl).signed)

-- a rule that is written as a constant gives constants alone
pub constant_rule : (read : Environment) → (read.logic ≡ Lia → sense_of read [] (codes "-") ≡ None) → (sort : Sort) (item : Item) → is_constant_rule read item ≡ true → IfOk (read_rule read sort item) (λ rule. gives_constants (production_at rule) ≡ true)
unfolding read_rule
constant_rule read free sort (leaf atom place) e = signed_rule read sort (leaf atom place) (weaker (IsNumeral read.logic) IsSigned (read_term read [] (leaf atom place)) (numeral_item read atom place e) (numeral_signed read.logic))
constant_rule read free sort (group parts place) e = constant_by read sort parts place (item_behind (codes "Constant") parts) (is_negated_numeral parts) (negation read free place parts) e

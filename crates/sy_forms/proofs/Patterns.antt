-- A grammar term that fits is a pattern that fits.
use Rattle.std.specs.Prelude.{ℕ, ◌+◌, ◌≤◌, Bool, true, false, nat_le, List, [], slice_get, Some, ◌≡◌, refl, if◌then◌else◌}
use Rattle.std.proofs.Common.{ap, sym, ◌∙◌, arith}
use Rattle.std.proofs.lemmas.Option.{slice_get-map}
use Rattle.std.proofs.lemmas.Bool.{le-leb, leb-true}
use Rattle.sy_terms.specs.Fitting.{Signature, called_sort}
use Rattle.sy_terms.specs.declared.op.Op.{Op}
use Rattle.sy_terms.specs.declared.op.Op.TheVariants as ops
use Rattle.sy_terms.specs.declared.sort.Sort.{Sort}
use Rattle.sy_terms.specs.declared.term.Fun.TheVariants.{Defined, Wanted}
use Rattle.sy_terms_operators.proofs.Equations.{both_true, with_sort_Some}
use Rattle.sy_grammar_base.specs.Formed as formed
use Rattle.sy_grammar_base.specs.Formed.{is_fixed, is_signed, is_one_constant, all_give_constants, pattern_sort, pattern_sorts}
use Rattle.sy_grammar_base.specs.Patterns as pattern
use Rattle.sy_grammar_base.specs.Trees.{Nonterminal, Syntax}
use Rattle.sy_forms_items.specs.Measures.{is_neg}
use Rattle.sy_forms_items.specs.Phrases as phrase
use Rattle.sy_forms_items.specs.Phrases.{Phrase, Phrases, pattern_at, patterns_at}
use Rattle.sy_forms_linear.specs.Linear.{is_constant_phrase, is_one_literal, is_written_phrase, flag_at, varying_factors, is_linear_product}
use Rattle.sy_forms.specs.Fitting.{Setting, phrase_sort, phrase_sorts}
use Rattle.sy_forms.specs.Right.{IsOfGrammar}
use Rattle.sy_forms.proofs.Exprs.{where_true, applied_as, called_as}

-- a factor that is constant as it is read doesn't vary in the grammar
abbrev Constants : List Bool → List Nonterminal → Type 0
Constants constants nonterminals = (number : ℕ) → flag_at constants number ≡ true → all_give_constants (slice_get nonterminals number) ≡ true

written_constant : (it : Phrase) → is_written_phrase it ≡ true → formed.is_constant (pattern_at it) ≡ true
unfolding pattern_at
written_constant (phrase.Literal value) e = refl
written_constant (phrase.Position position) e = absurd cc
written_constant (phrase.Local level) e = absurd cc
written_constant (phrase.Nonterminal number) e = absurd cc
written_constant (phrase.Operation operator arguments) e = absurd cc
written_constant (phrase.Invocation function arguments) e = absurd cc
written_constant (phrase.Let bound inner) e = absurd cc

one_constant : (all : Phrases) → is_one_literal all ≡ true → is_one_constant (patterns_at all) ≡ true
unfolding patterns_at
one_constant phrase.none e = absurd cc
one_constant (phrase.more first phrase.none) e = written_constant first e
one_constant (phrase.more first (phrase.more next rest)) e = absurd cc

signed : (operator : Op) (arguments : Phrases) → is_neg operator ≡ true → is_one_literal arguments ≡ true → is_signed (pattern.Apply operator (patterns_at arguments)) ≡ true
signed ops.Neg arguments neg literal = one_constant arguments literal
signed _ arguments neg literal = absurd cc

fixed : (constants : List Bool) (nonterminals : List Nonterminal) → Constants constants nonterminals → (it : Phrase) → is_constant_phrase constants it ≡ true → is_fixed nonterminals (pattern_at it) ≡ true
unfolding pattern_at
fixed constants nonterminals flags (phrase.Literal value) e = refl
fixed constants nonterminals flags (phrase.Position position) e = absurd cc
fixed constants nonterminals flags (phrase.Local level) e = absurd cc
fixed constants nonterminals flags (phrase.Nonterminal number) e = flags number e
fixed constants nonterminals flags (phrase.Operation operator arguments) e =
    let both = both_true (is_neg operator) (is_one_literal arguments) e in
    signed operator arguments both.0 both.1
fixed constants nonterminals flags (phrase.Invocation function arguments) e = absurd cc
fixed constants nonterminals flags (phrase.Let bound inner) e = absurd cc

lighter : (b c : Bool) (m n : ℕ) → (b ≡ true → c ≡ true) → m ≤ n → m + (if c then 0 else 1) ≤ (if b then 0 else 1) + n
lighter b true m n implied few = omega (arith, few)
lighter false false m n implied few = omega (arith, few)
lighter true false m n implied few = absurd (let e = implied refl in cc)

varies_less : (constants : List Bool) (nonterminals : List Nonterminal) → Constants constants nonterminals → (all : Phrases) → formed.varying nonterminals (patterns_at all) ≤ varying_factors constants all
unfolding patterns_at
varies_less constants nonterminals flags phrase.none = omega arith
varies_less constants nonterminals flags (phrase.more first rest) =
    lighter (is_constant_phrase constants first) (is_fixed nonterminals (pattern_at first)) _ _ (fixed constants nonterminals flags first) (varies_less constants nonterminals flags rest)

product_linear : (m n : ℕ) → m ≤ n → nat_le n 1 ≡ true → nat_le m 1 ≡ true
product_linear m n less e = le-leb m 1 (omega (arith, less, leb-true n 1 e))

linear : (constants : List Bool) (nonterminals : List Nonterminal) → Constants constants nonterminals → (operator : Op) (arguments : Phrases) → is_linear_product constants operator arguments ≡ true → formed.is_linear nonterminals operator (patterns_at arguments) ≡ true
linear constants nonterminals flags ops.Mul arguments e = product_linear _ (varying_factors constants arguments) (varies_less constants nonterminals flags arguments) e
linear constants nonterminals flags _ arguments e = refl

mutual
  unfolding phrase_sort phrase_sorts pattern_at patterns_at pattern_sort pattern_sorts

  pub pattern_fits : (setting : Setting) (syntax : Syntax) → IsOfGrammar setting syntax → (it : Phrase) (sort : Sort) → phrase_sort setting [] it ≡ Some sort → pattern_sort setting.scope syntax (pattern_at it) ≡ Some sort
  pattern_fits setting syntax of (phrase.Literal value) sort e = e
  pattern_fits setting syntax of (phrase.Position position) sort e = sym (ap (λ (all : List Sort). slice_get all position) of.values) ∙ e
  pattern_fits setting syntax of (phrase.Local level) sort e = absurd cc
  pattern_fits setting syntax of (phrase.Nonterminal number) sort e =
      sym (slice_get-map (λ (n : Nonterminal). n.sort) syntax.nonterminals number) ∙ sym (ap (λ (all : List Sort). slice_get all number) of.nonterminals) ∙ e
  pattern_fits setting syntax of (phrase.Operation operator arguments) sort e =
      let found = where_true (is_linear_product setting.constants operator arguments) _ sort e in
      rw (linear setting.constants syntax.nonterminals of.constants operator arguments found.0)
      (applied_as setting.scope operator (phrase_sorts setting [] arguments) _ sort (λ sorts is. patterns_fit setting syntax of arguments sorts is) found.1)
  pattern_fits setting syntax of (phrase.Invocation (Defined f) arguments) sort e =
      called_as (slice_get setting.scope.defined f) (phrase_sorts setting [] arguments) _ sort (λ sorts is. patterns_fit setting syntax of arguments sorts is) e
  pattern_fits setting syntax of (phrase.Invocation (Wanted f) arguments) sort e =
      let none : called_sort (slice_get [] f) (phrase_sorts setting [] arguments) ≡ Some sort = ap (λ (all : List Signature). called_sort (slice_get all f) (phrase_sorts setting [] arguments)) (sym of.wanted) ∙ e in
      absurd cc
  pattern_fits setting syntax of (phrase.Let bound inner) sort e =
      let may = (where_true setting.lets _ sort e).0 in
      let not_there = of.lets in
      absurd cc

  pub patterns_fit : (setting : Setting) (syntax : Syntax) → IsOfGrammar setting syntax → (all : Phrases) (sorts : List Sort) → phrase_sorts setting [] all ≡ Some sorts → pattern_sorts setting.scope syntax (patterns_at all) ≡ Some sorts
  patterns_fit setting syntax of phrase.none sorts e = e
  patterns_fit setting syntax of (phrase.more first rest) sorts e =
      let found = with_sort_Some (phrase_sort setting [] first) (phrase_sorts setting [] rest) sorts e in
      rw (pattern_fits setting syntax of first found.sort found.first_is, patterns_fit setting syntax of rest found.sorts found.rest_is) (ap Some found.whole_is)

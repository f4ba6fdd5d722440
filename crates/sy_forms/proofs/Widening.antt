-- What fits goes on to fit where more is declared.
use Rattle.std.specs.Prelude.{◌++◌, List, Option, Some, ◌≡◌, refl}
use Rattle.std.proofs.Common.{ap, sym, ◌∙◌}
use Rattle.sy_terms.specs.Fitting.{Signature, applied_sort, signature_of}
use Rattle.sy_terms.specs.declared.op.Op.{Op}
use Rattle.sy_terms.specs.declared.sort.Sort.{Sort}
use Rattle.sy_terms.specs.declared.term.Fun.{Fun}
use Rattle.sy_terms.specs.declared.term.Fun.TheVariants.{Defined, Wanted}
use Rattle.sy_terms_operators.proofs.Equations.{with_sort_Some, after_Some, applied_sort_Some}
use Rattle.sy_grammar_base.proofs.Widening.{called_wider}
use Rattle.sy_forms_items.specs.Phrases as phrase
use Rattle.sy_forms_items.specs.Phrases.{Phrase, Phrases}
use Rattle.sy_forms_linear.specs.Linear.{is_linear_product}
use Rattle.sy_forms.specs.Fitting.{Setting, phrase_sort, phrase_sorts}
use Rattle.sy_forms.specs.Right.{SettingWidens}
use Rattle.sy_forms.proofs.Exprs.{where_true, where_allowed, after_as, with_as}

wider_signature : (earlier later : Setting) → SettingWidens earlier later → (function : Fun) (found : Signature) → signature_of earlier.scope function ≡ Some found → signature_of later.scope function ≡ Some found
wider_signature earlier later wider (Defined f) found e = wider.defined f found e
wider_signature earlier later wider (Wanted f) found e = wider.wanted f found e

applied_wider : (earlier later : Setting) → SettingWidens earlier later → (operator : Op) (one other : Option (List Sort)) (sort : Sort) → ((sorts : List Sort) → one ≡ Some sorts → other ≡ Some sorts) → applied_sort earlier.scope operator one ≡ Some sort → applied_sort later.scope operator other ≡ Some sort
applied_wider earlier later wider operator one other sort same e =
    let found = applied_sort_Some earlier.scope operator one sort e in
    rw (same found.sorts found.is, wider.operators operator found.owned, found.fits) refl

mutual
  unfolding phrase_sort phrase_sorts

  pub fits_wider : (earlier later : Setting) → SettingWidens earlier later → (locals : List Sort) (it : Phrase) (sort : Sort) → phrase_sort earlier locals it ≡ Some sort → phrase_sort later locals it ≡ Some sort
  fits_wider earlier later wider locals (phrase.Literal value) sort e = e
  fits_wider earlier later wider locals (phrase.Position position) sort e = wider.values position sort e
  fits_wider earlier later wider locals (phrase.Local level) sort e = e
  fits_wider earlier later wider locals (phrase.Nonterminal number) sort e = wider.nonterminals number sort e
  fits_wider earlier later wider locals (phrase.Operation operator arguments) sort e =
      let found = where_true (is_linear_product earlier.constants operator arguments) _ sort e in
      where_allowed _ _ sort (sym (ap (λ constants. is_linear_product constants operator arguments) wider.constants) ∙ found.0)
      (applied_wider earlier later wider operator (phrase_sorts earlier locals arguments) _ sort (λ sorts is. fit_wider earlier later wider locals arguments sorts is) found.1)
  fits_wider earlier later wider locals (phrase.Invocation function arguments) sort e =
      called_wider (signature_of earlier.scope function) _ (phrase_sorts earlier locals arguments) _ sort (wider_signature earlier later wider function) (λ sorts is. fit_wider earlier later wider locals arguments sorts is) e
  fits_wider earlier later wider locals (phrase.Let bound inner) sort e =
      let may = where_true earlier.lets _ sort e in
      let found = after_Some (phrase_sorts earlier locals bound) _ sort may.1 in
      where_allowed later.lets _ sort (wider.lets may.0) (after_as (phrase_sorts later locals bound) found.sorts (λ all. phrase_sort later (locals ++ all) inner) sort (fit_wider earlier later wider locals bound found.sorts found.is) (fits_wider earlier later wider (locals ++ found.sorts) inner sort found.next_is))

  pub fit_wider : (earlier later : Setting) → SettingWidens earlier later → (locals : List Sort) (all : Phrases) (sorts : List Sort) → phrase_sorts earlier locals all ≡ Some sorts → phrase_sorts later locals all ≡ Some sorts
  fit_wider earlier later wider locals phrase.none sorts e = e
  fit_wider earlier later wider locals (phrase.more first rest) sorts e =
      let found = with_sort_Some (phrase_sort earlier locals first) (phrase_sorts earlier locals rest) sorts e in
      with_as (phrase_sort later locals first) (phrase_sorts later locals rest) found.sort found.sorts sorts (fits_wider earlier later wider locals first found.sort found.first_is) (fit_wider earlier later wider locals rest found.sorts found.rest_is) found.whole_is

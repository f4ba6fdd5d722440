-- Whole terms that are read fit, also where more is declared later.
use Rattle.std.specs.Prelude.{Bool, List, [], ◌∷◌, ◌++◌, length, Some, ◌≡◌, refl, IfOk}
use Rattle.std.proofs.Common.{ap, subst}
use Rattle.sy_text_items.specs.Items.{Item}
use Rattle.sy_terms.specs.Fitting.{sort_in}
use Rattle.sy_terms.specs.declared.sort.Sort.{Sort}
use Rattle.sy_forms_items.specs.Environments.{Environment}
use Rattle.sy_forms_items.specs.Measures.{Measures}
use Rattle.sy_forms_items.specs.Phrases.{Phrase, expr_at}
use Rattle.sy_forms.specs.Terms.{read_whole}
use Rattle.sy_forms.specs.Fitting.{Setting, phrase_sort}
use Rattle.sy_forms.specs.Laws.{FitsLater}
use Rattle.sy_forms.specs.Right.{EnvironmentIsRight}
use Rattle.sy_forms.proofs.Exprs.{expr_fits}
use Rattle.sy_forms.proofs.Readings.{weaker}
use Rattle.sy_forms.proofs.Terms.{whole_fits}
use Rattle.sy_forms.proofs.Widening.{fits_wider}

nothing_behind : (values : List Sort) → values ++ [] ≡ values
nothing_behind [] = refl
nothing_behind (s ∷ values) = ap (λ (all : List Sort). s ∷ all) (nothing_behind values)

-- a phrase that fits is a term that fits
pub term_fits : (setting : Setting) (it : Phrase) (sort : Sort) → setting.nonterminals ≡ [] → phrase_sort setting [] it ≡ Some sort → sort_in setting.scope setting.values (expr_at (length setting.values) it) ≡ Some sort
term_fits setting it sort none e =
    subst (λ all. sort_in setting.scope all (expr_at (length setting.values) it) ≡ Some sort) (nothing_behind setting.values) (expr_fits setting [] it sort none e)

pub whole_fits_later : (numeric : Sort → Bool) (setting : Setting) (env : Environment) → EnvironmentIsRight numeric setting env → (measures : Measures) (sort : Sort) (item : Item) → IfOk (read_whole env measures sort item) (FitsLater setting sort)
whole_fits_later numeric setting env right measures sort item =
    weaker (λ it. phrase_sort setting [] it ≡ Some sort) (FitsLater setting sort) (read_whole env measures sort item) (whole_fits numeric setting env right measures sort item)
    (λ it fit later wider none. term_fits later it sort none (fits_wider setting later wider [] it sort fit))

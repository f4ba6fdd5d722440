-- What is read fits.
use Rattle.std.specs.Prelude.{Bool, [], length, Some, None, codes, true, ◌≡◌, IfOk}
use Rattle.sy_text_items.specs.Items.{Item}
use Rattle.sy_terms.specs.Fitting.{sort_in}
use Rattle.sy_terms.specs.declared.sort.Logic.TheVariants.{Lia}
use Rattle.sy_terms.specs.declared.sort.Sort.{Sort}
use Rattle.sy_grammar_base.specs.Formed.{gives_constants, rule_sort}
use Rattle.sy_grammar_base.specs.Trees.{Syntax}
use Rattle.sy_forms_items.specs.Environments.{Environment, sense_of}
use Rattle.sy_forms_items.specs.Measures.{Measures}
use Rattle.sy_forms_items.specs.Phrases.{Phrase, expr_at}
use Rattle.sy_forms_items.specs.Productions.{Ruling, production_at}
use Rattle.sy_forms_linear.specs.Flags.{is_constant_rule}
use Rattle.sy_forms.specs.Rules.{read_rule}
use Rattle.sy_forms.specs.Terms.{read_whole}
use Rattle.sy_forms.specs.Fitting.{Setting}
use Rattle.sy_forms.specs.Right.{EnvironmentIsRight, IsOfGrammar, SettingWidens}

-- the term has the sort in every setting in which all may be named that may be named here, and no nonterminal
abbrev pub FitsLater : Setting → Sort → Phrase → Type 0
FitsLater setting sort it =
    (later : Setting) → SettingWidens setting later → later.nonterminals ≡ [] → sort_in later.scope later.values (expr_at (length later.values) it) ≡ Some sort

-- A whole term that is read has the sort that was asked for, also where more is declared later: its let names stand behind
-- all values that are in force then.
abbrev pub WholeTermsFit : Type 0
WholeTermsFit = (numeric : Sort → Bool) (setting : Setting) (env : Environment) → EnvironmentIsRight numeric setting env → (measures : Measures) (sort : Sort) (item : Item) → IfOk (read_whole env measures sort item) (FitsLater setting sort)

-- a rule that is read has its nonterminal's sort
abbrev pub RulesFit : Type 0
RulesFit = (numeric : Sort → Bool) (setting : Setting) (env : Environment) (syntax : Syntax) → EnvironmentIsRight numeric setting env → IsOfGrammar setting syntax → (sort : Sort) (item : Item) →
    IfOk (read_rule env sort item) (λ (rule : Ruling). rule_sort setting.scope syntax (production_at rule) ≡ Some sort)

-- a rule that is written as a constant gives constants alone, where `-` is the operator
abbrev pub ConstantRulesGiveConstants : Type 0
ConstantRulesGiveConstants = (env : Environment) → (env.logic ≡ Lia → sense_of env [] (codes "-") ≡ None) → (sort : Sort) (item : Item) → is_constant_rule env item ≡ true →
    IfOk (read_rule env sort item) (λ (rule : Ruling). gives_constants (production_at rule) ≡ true)

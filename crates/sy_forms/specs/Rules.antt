-- Rules of grammars.
use Rattle.std.specs.Prelude.{[], Option, Some, None, Ok, codes, if◌then◌else◌}
use Rattle.sy_text_items.specs.Items.{Item, leaf, group}
use Rattle.sy_text_items.specs.declared.atom.Place.{Place}
use Rattle.sy_terms.specs.Sorts.{same_sort}
use Rattle.sy_terms.specs.declared.sort.Sort.{Sort}
use Rattle.sy_scope_causes.specs.declared.cause.Cause.TheVariants as cause
use Rattle.sy_forms_items.specs.Environments.{Environment}
use Rattle.sy_forms_items.specs.Parts.{place_of}
use Rattle.sy_forms_items.specs.Readings.{Reading, refuse, ◌>>=◌}
use Rattle.sy_forms_items.specs.Sorts.{read_sort}
use Rattle.sy_forms_items.specs.Productions.{Ruling, Template, EachConstant, EachVariable}
use Rattle.sy_forms_linear.specs.Flags.{item_behind}
use Rattle.sy_forms.specs.Terms.{read_term}

-- the sort of a rule for all of a sort, which is the nonterminal's
abbrev pub sort_for_all : Environment → Sort → Place → Item → Reading Sort
sort_for_all env sort place item =
    read_sort env.logic env.sorts item >>= λ found. if same_sort found sort then Ok found else refuse place cause.SortMismatch

abbrev pub rule_for_all : Environment → Sort → Place → (Sort → Ruling) → Item → Reading Ruling
rule_for_all env sort place ruling item = sort_for_all env sort place item >>= λ found. Ok (ruling found)

-- a term of the nonterminal's sort
abbrev pub rule_term : Environment → Sort → Item → Reading Ruling
rule_term env sort item =
    read_term env [] item >>= λ x. if same_sort x.sort sort then Ok (Template x.phrase) else refuse (place_of item) cause.SortMismatch

abbrev pub rule_list : Environment → Sort → Item → Place → Option Item → Option Item → Reading Ruling
rule_list env sort item place (Some s) variable = rule_for_all env sort place EachConstant s
rule_list env sort item place None (Some s) = rule_for_all env sort place EachVariable s
rule_list env sort item place None None = rule_term env sort item

-- a rule of a nonterminal of this sort
unfoldable pub read_rule : Environment → Sort → Item → Reading Ruling
read_rule env sort (leaf atom place) = rule_term env sort (leaf atom place)
read_rule env sort (group parts place) =
    rule_list env sort (group parts place) place (item_behind (codes "Constant") parts) (item_behind (codes "Variable") parts)

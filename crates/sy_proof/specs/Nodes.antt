-- Nodes of a refutation tree in text: `(split t)`, `(branch x k)`, `(cut d m ..)`, `(farkas m ..)` and `(shown)`, where a test t
-- is `(atleast c (v a) ..)` or `(holds v)`. Numbers of variables are below 2 ^ 32.
use Rattle.std.specs.Prelude.{ℕ, ◌^◌, ◌<◌, ℤ, List, All, Bool, true, false, Option, Some, None, codes, if◌then◌else◌}
use Rattle.std.specs.Option.{option_map}
use Rattle.sy_text_items.specs.Items.{Item, leaf, group, Items, none, more}
use Rattle.sy_forms_items.specs.Parts.{is_symbol}
use Rattle.sy_frac.specs.Fraction.{Fraction, IsLowest}
use Rattle.sy_linear_known.specs.Forms.{Coefficient}
use Rattle.sy_linear_known.specs.declared.form.Form.{Form}
use Rattle.sy_linear_known.specs.declared.path.Test.{Test}
use Rattle.sy_linear_known.specs.declared.path.Test.TheVariants.{AtLeast, Holds}
use Rattle.sy_proof.specs.Lists.{each_in, each_item, nowhere, number_item, word_item}
use Rattle.sy_proof.specs.Numbers.{fraction_in, fraction_item, small_in, whole_in, whole_item, WholeFits}
use Rattle.sy_proof.specs.declared.nodes.Node.{Node}
use Rattle.sy_proof.specs.declared.nodes.Node.TheVariants.{Split, Branch, Cut, Farkas, Shown, Unfinished}

-- ---- as they are read
abbrev pub pair_by : Option ℕ → Option ℤ → Option Coefficient
pair_by None number = None
pair_by (Some variable) None = None
pair_by (Some variable) (Some number) = Some (variable, number)

abbrev pub pair_of : Items → Option Coefficient
pair_of (more variable (more number none)) = pair_by (small_in variable) (whole_in number)
pair_of _ = None

-- a variable and its coefficient
abbrev pub pair_in : Item → Option Coefficient
pair_in (leaf atom place) = None
pair_in (group parts place) = pair_of parts

abbrev pub form_by : Option ℤ → Option (List Coefficient) → Option Test
form_by None pairs = None
form_by (Some constant) None = None
form_by (Some constant) (Some pairs) = Some (AtLeast (record { coefs = pairs; constant = constant }))

abbrev pub form_in : Items → Option Test
form_in none = None
form_in (more constant pairs) = form_by (whole_in constant) (each_in pair_in pairs)

abbrev pub holds_in : Items → Option Test
holds_in (more variable none) = option_map Holds (small_in variable)
holds_in _ = None

abbrev pub test_behind : Item → Items → Option Test
test_behind head rest =
    if is_symbol (codes "atleast") head then form_in rest
    else if is_symbol (codes "holds") head then holds_in rest
    else None

abbrev pub test_in : Item → Option Test
test_in (leaf atom place) = None
test_in (group none place) = None
test_in (group (more head rest) place) = test_behind head rest

abbrev pub split_in : Items → Option Node
split_in (more test none) = option_map Split (test_in test)
split_in _ = None

abbrev pub branch_by : Option ℕ → Option ℤ → Option Node
branch_by None bound = None
branch_by (Some variable) None = None
branch_by (Some variable) (Some bound) = Some (Branch variable bound)

abbrev pub branch_in : Items → Option Node
branch_in (more variable (more bound none)) = branch_by (small_in variable) (whole_in bound)
branch_in _ = None

abbrev pub cut_by : Option ℤ → Option (List Fraction) → Option Node
cut_by None multipliers = None
cut_by (Some divisor) None = None
cut_by (Some divisor) (Some multipliers) = Some (Cut divisor multipliers)

abbrev pub cut_in : Items → Option Node
cut_in none = None
cut_in (more divisor multipliers) = cut_by (whole_in divisor) (each_in fraction_in multipliers)

abbrev pub shown_in : Items → Option Node
shown_in none = Some Shown
shown_in (more item rest) = None

abbrev pub node_behind : Item → Items → Option Node
node_behind head rest =
    if is_symbol (codes "split") head then split_in rest
    else if is_symbol (codes "branch") head then branch_in rest
    else if is_symbol (codes "cut") head then cut_in rest
    else if is_symbol (codes "farkas") head then option_map Farkas (each_in fraction_in rest)
    else if is_symbol (codes "shown") head then shown_in rest
    else None

-- a node, whose multipliers needn't be in lowest terms
abbrev pub node_in : Item → Option Node
node_in (leaf atom place) = None
node_in (group none place) = None
node_in (group (more head rest) place) = node_behind head rest

-- its multipliers are in lowest terms
abbrev pub NodeIsLowest : Node → Type 0
NodeIsLowest (Cut divisor multipliers) = All IsLowest multipliers
NodeIsLowest (Farkas multipliers) = All IsLowest multipliers
NodeIsLowest _ = Unit {0}

-- ---- as they are written
abbrev pub pair_item : Coefficient → Item
pair_item pair = group (more (number_item pair.0) (more (whole_item pair.1) none)) nowhere

abbrev pub test_item : Test → Item
test_item (AtLeast form) = group (more (word_item (codes "atleast")) (more (whole_item form.constant) (each_item pair_item form.coefs))) nowhere
test_item (Holds variable) = group (more (word_item (codes "holds")) (more (number_item variable) none)) nowhere

abbrev pub node_item : Node → Item
node_item (Split test) = group (more (word_item (codes "split")) (more (test_item test) none)) nowhere
node_item (Branch variable bound) = group (more (word_item (codes "branch")) (more (number_item variable) (more (whole_item bound) none))) nowhere
node_item (Cut divisor multipliers) = group (more (word_item (codes "cut")) (more (whole_item divisor) (each_item fraction_item multipliers))) nowhere
node_item (Farkas multipliers) = group (more (word_item (codes "farkas")) (each_item fraction_item multipliers)) nowhere
node_item Shown = group (more (word_item (codes "shown")) none) nowhere
node_item Unfinished = group (more (word_item (codes "unfinished")) none) nowhere

-- a node with one tree below it or two
abbrev pub is_inner : Node → Bool
is_inner (Split test) = true
is_inner (Branch variable bound) = true
is_inner (Cut divisor multipliers) = true
is_inner _ = false

-- ---- what is written is read again
pub record PairFits (pair : Coefficient) : Type 0 where
  pub variable : pair.0 < 2 ^ 32
  pub number : WholeFits pair.1

pub record FormFits (form : Form) : Type 0 where
  pub constant : WholeFits form.constant
  pub pairs : All PairFits form.coefs

abbrev pub TestFits : Test → Type 0
TestFits (AtLeast form) = FormFits form
TestFits (Holds variable) = variable < 2 ^ 32

-- its numbers are those of the program's types
abbrev pub NodeFits : Node → Type 0
NodeFits (Split test) = TestFits test
NodeFits (Branch variable bound) = (variable < 2 ^ 32) × WholeFits bound
NodeFits (Cut divisor multipliers) = WholeFits divisor × All IsLowest multipliers
NodeFits (Farkas multipliers) = All IsLowest multipliers
NodeFits Shown = Unit {0}
NodeFits Unfinished = Unit {0}

abbrev pub is_finished : Node → Bool
is_finished Unfinished = false
is_finished _ = true

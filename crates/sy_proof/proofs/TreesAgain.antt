-- Trees that are written are read as the same trees.
use Rattle.std.proofs.Common.{◌≡◌, ℕ, List, [], ◌∷◌, ◌++◌, refl, ap, sym, subst, ◌∙◌, arith, Some, true}
use Rattle.std.specs.Prelude.{Option, Result, ℤ, All, codes}
use Rattle.std.specs.Option.{option_map}
use Rattle.std.proofs.lemmas.List.Elements.{All-head, All-tail, All-nil, All-cons, All-weaker}
use Rattle.sy_text_items.specs.Items.{Item}
use Rattle.sy_text_items.specs.Lexicon.{bar_content, quotable, space}
use Rattle.sy_text_items.specs.declared.fault.TextFault.{TextFault}
use Rattle.sy_text.specs.Reading.{command_at}
use Rattle.sy_text.specs.Spelling.{all_bytes, item_text, ItemFits, ItemsFit}
use Rattle.sy_frac.specs.Fraction.{Fraction, IsLowest}
use Rattle.sy_linear_known.specs.Forms.{Coefficient}
use Rattle.sy_linear_known.specs.Trees.{TreeShape}
use Rattle.sy_linear_known.specs.declared.path.Test.{Test}
use Rattle.sy_linear_known.specs.declared.path.Test.TheVariants.{AtLeast, Holds}
use Rattle.sy_proof.specs.Lists.{each_in, each_item, word_item}
use Rattle.sy_proof.specs.Nodes.{branch_by, cut_by, form_by, node_in, node_item, pair_by, pair_in, pair_item, test_in, test_item, is_finished, NodeFits, NodeIsLowest, PairFits, TestFits}
use Rattle.sy_proof.specs.Numbers.{fraction_in, fraction_item, whole_in, whole_item}
use Rattle.sy_proof.specs.Trees.{nodes_in, nodes_of, tree_item, IsReadable, ReadsTree, SpellsOnly}
use Rattle.sy_proof.specs.declared.nodes.Node.{Node}
use Rattle.sy_proof.specs.declared.nodes.Node.TheVariants.{Split, Branch, Cut, Farkas, Shown, Unfinished}
use Rattle.sy_proof.proofs.Again.{each_again, each_fits, read_again, small_again}
use Rattle.sy_proof.proofs.NumbersAgain.{fraction_again, fraction_fits, small_fits, whole_again, whole_fits}
use Rattle.sy_proof.proofs.Parsing.{nodes_once}
use Rattle.sy_proof.proofs.Placeless.{nodes_alike}

-- ---- nodes
pair_again : (pair : Coefficient) → PairFits pair → pair_in (pair_item pair) ≡ Some pair
pair_again pair fits =
    ap (λ (v : Option ℕ). pair_by v (whole_in (whole_item pair.1))) (small_again pair.0 fits.variable) ∙ ap (pair_by (Some pair.0)) (whole_again pair.1 fits.number)

test_again : (test : Test) → TestFits test → test_in (test_item test) ≡ Some test
test_again (AtLeast form) fits =
    ap (λ (c : Option ℤ). form_by c (each_in pair_in (each_item pair_item form.coefs))) (whole_again form.constant fits.constant)
    ∙ ap (form_by (Some form.constant)) (each_again pair_item pair_in PairFits pair_again form.coefs fits.pairs)
test_again (Holds variable) fits = ap (option_map Holds) (small_again variable fits)

fractions_again : (fs : List Fraction) → All IsLowest fs → each_in fraction_in (each_item fraction_item fs) ≡ Some fs
fractions_again fs lowest = each_again fraction_item fraction_in IsLowest fraction_again fs lowest

-- a node that isn't an unfinished leaf
pub record IsPlain (node : Node) : Type 0 where
  pub fits : NodeFits node
  pub finished : is_finished node ≡ true

node_again : (node : Node) → NodeFits node → is_finished node ≡ true → node_in (node_item node) ≡ Some node
node_again (Split test) fits finished = ap (option_map Split) (test_again test fits)
node_again (Branch variable bound) fits finished =
    ap (λ (v : Option ℕ). branch_by v (whole_in (whole_item bound))) (small_again variable fits.0) ∙ ap (branch_by (Some variable)) (whole_again bound fits.1)
node_again (Cut divisor multipliers) fits finished =
    ap (λ (d : Option ℤ). cut_by d (each_in fraction_in (each_item fraction_item multipliers))) (whole_again divisor fits.0) ∙ ap (cut_by (Some divisor)) (fractions_again multipliers fits.1)
node_again (Farkas multipliers) fits finished = ap (option_map Farkas) (fractions_again multipliers fits)
node_again Shown fits finished = refl
node_again Unfinished fits finished = absurd (cc)

node_lowest : (node : Node) → NodeFits node → NodeIsLowest node
node_lowest (Split test) fits = tt
node_lowest (Branch variable bound) fits = tt
node_lowest (Cut divisor multipliers) fits = fits.1
node_lowest (Farkas multipliers) fits = fits
node_lowest Shown fits = tt
node_lowest Unfinished fits = tt

are_plain : (nodes : List Node) → All NodeFits nodes → All (λ node. is_finished node ≡ true) nodes → All IsPlain nodes
are_plain [] fit finished = All-nil IsPlain
are_plain (node ∷ nodes) fit finished =
    All-cons IsPlain node nodes (record { fits = All-head NodeFits node nodes fit; finished = All-head (λ n. is_finished n ≡ true) node nodes finished })
    (are_plain nodes (All-tail NodeFits node nodes fit) (All-tail (λ n. is_finished n ≡ true) node nodes finished))

nodes_again : (nodes : List Node) → All IsPlain nodes → each_in node_in (each_item node_item nodes) ≡ Some nodes
nodes_again nodes plain = each_again node_item node_in IsPlain (λ node it. node_again node it.fits it.finished) nodes plain

spelled : (tree : TreeShape) (item : Item) → nodes_in item ≡ Some (nodes_of tree) → All NodeFits (nodes_of tree) → IsReadable tree → SpellsOnly item tree
spelled tree item nodes fit readable = record {
  spells = record { nodes = nodes; lowest = All-weaker NodeFits NodeIsLowest node_lowest (nodes_of tree) fit; few = readable.few };
  only = λ other is. let same : Some (nodes_of other) ≡ Some (nodes_of tree) = sym is.nodes ∙ nodes in nodes_once other tree (cc);
}

-- ---- what can be spelled
word_fits : (word : List ℕ) → all_bytes bar_content word ≡ true → ItemFits 0 (word_item word)
word_fits word fits = fits

atleast_fits : all_bytes bar_content (codes "atleast") ≡ true
unfolding bar_content quotable space
atleast_fits = refl

holds_fits : all_bytes bar_content (codes "holds") ≡ true
unfolding bar_content quotable space
holds_fits = refl

split_fits : all_bytes bar_content (codes "split") ≡ true
unfolding bar_content quotable space
split_fits = refl

branch_fits : all_bytes bar_content (codes "branch") ≡ true
unfolding bar_content quotable space
branch_fits = refl

cut_fits : all_bytes bar_content (codes "cut") ≡ true
unfolding bar_content quotable space
cut_fits = refl

farkas_fits : all_bytes bar_content (codes "farkas") ≡ true
unfolding bar_content quotable space
farkas_fits = refl

shown_fits : all_bytes bar_content (codes "shown") ≡ true
unfolding bar_content quotable space
shown_fits = refl

unfinished_fits : all_bytes bar_content (codes "unfinished") ≡ true
unfolding bar_content quotable space
unfinished_fits = refl

tree_word_fits : all_bytes bar_content (codes "tree") ≡ true
unfolding bar_content quotable space
tree_word_fits = refl

pair_fits : (pair : Coefficient) → PairFits pair → ItemFits 1197 (pair_item pair)
pair_fits pair fits = (omega arith, (small_fits pair.0 fits.variable, (whole_fits 1196 (omega arith) pair.1 fits.number, tt)))

test_fits : (test : Test) → TestFits test → ItemFits 1198 (test_item test)
test_fits (AtLeast form) fits = (omega arith, (atleast_fits, (whole_fits 1197 (omega arith) form.constant fits.constant, each_fits pair_item PairFits 1197 pair_fits form.coefs fits.pairs)))
test_fits (Holds variable) fits = (omega arith, (holds_fits, (small_fits variable fits, tt)))

fractions_fit : (fs : List Fraction) → All IsLowest fs → ItemsFit 1198 (each_item fraction_item fs)
fractions_fit fs lowest = each_fits fraction_item IsLowest 1198 (λ f it. fraction_fits 1197 (omega arith) f it) fs lowest

node_fits : (node : Node) → NodeFits node → ItemFits 1199 (node_item node)
node_fits (Split test) fits = (omega arith, (split_fits, (test_fits test fits, tt)))
node_fits (Branch variable bound) fits = (omega arith, (branch_fits, (small_fits variable fits.0, (whole_fits 1198 (omega arith) bound fits.1, tt))))
node_fits (Cut divisor multipliers) fits = (omega arith, (cut_fits, (whole_fits 1198 (omega arith) divisor fits.0, fractions_fit multipliers fits.1)))
node_fits (Farkas multipliers) fits = (omega arith, (farkas_fits, fractions_fit multipliers fits))
node_fits Shown fits = (omega arith, (shown_fits, tt))
node_fits Unfinished fits = (omega arith, (unfinished_fits, tt))

tree_fits : (tree : TreeShape) → All NodeFits (nodes_of tree) → ItemFits 1200 (tree_item tree)
tree_fits tree fit = (omega arith, (tree_word_fits, each_fits node_item NodeFits 1199 node_fits (nodes_of tree) fit))

pub reads_again : (tree : TreeShape) (text : List ℕ) → All NodeFits (nodes_of tree) → text ≡ item_text (tree_item tree) ++ 10 ∷ [] → IsReadable tree → (total : ℕ) (rest : List ℕ) → ReadsTree tree (command_at total (text ++ rest))
reads_again tree text fit is readable total rest =
    let again = read_again (tree_item tree) total text rest (tree_fits tree fit) is in
    let P : Result (Option (Item × ℕ)) TextFault → Type 0 = ReadsTree tree in
    let nodes = sym (nodes_alike (tree_item tree) again.0 again.1) ∙ nodes_again (nodes_of tree) (are_plain (nodes_of tree) fit readable.finished) in
    subst P (sym again.2) (spelled tree again.0 nodes fit readable)

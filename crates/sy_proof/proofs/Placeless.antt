-- What is read of items doesn't depend on their places.
use Rattle.std.proofs.Common.{◌≡◌, ◌^◌, ℕ, List, refl, ap, sym, ◌∙◌, Bool, true, false, Some, None}
use Rattle.std.specs.Prelude.{Option, ℤ, codes, pos, option_and_then, if◌then◌else◌}
use Rattle.std.specs.Option.{option_map}
use Rattle.sy_text_items.specs.Items.{Item, leaf, group, Items, none, more}
use Rattle.sy_text.specs.Grammar.{Alike, AllAlike}
use Rattle.sy_forms_items.specs.Parts.{numeral, is_symbol}
use Rattle.sy_proof.specs.Lists.{below, each_in, nowhere, with_first}
use Rattle.sy_proof.specs.Nodes.{branch_by, branch_in, cut_by, cut_in, form_by, form_in, holds_in, node_behind, node_in, pair_by, pair_in, pair_of, shown_in, split_in, test_in}
use Rattle.sy_proof.specs.Numbers.{denominator_in, fraction_by, fraction_in, from_two, negative_in, opposite, quotient_in, small_in, whole_in, whole_or}
use Rattle.sy_proof.specs.Trees.{nodes_in}
use Rattle.sy_proof.specs.declared.nodes.Node.TheVariants.{Split, Farkas}
use Rattle.sy_linear_known.specs.declared.path.Test.TheVariants.{Holds}

-- an item with the one place that items which are written have
abbrev mutual
  pub placeless : Item → Item
  placeless (leaf atom place) = leaf atom nowhere
  placeless (group parts place) = group (all_placeless parts) nowhere

  pub all_placeless : Items → Items
  all_placeless none = none
  all_placeless (more x xs) = more (placeless x) (all_placeless xs)

mutual
  pub alike_placeless : (x y : Item) → Alike x y → placeless x ≡ placeless y
  alike_placeless (leaf a p) (leaf b q) alike = ap (λ atom. leaf atom nowhere) alike
  alike_placeless (leaf a p) (group ys q) alike = absurd alike
  alike_placeless (group xs p) (leaf b q) alike = absurd alike
  alike_placeless (group xs p) (group ys q) alike = ap (λ parts. group parts nowhere) (all_alike_placeless xs ys alike)

  all_alike_placeless : (xs ys : Items) → AllAlike xs ys → all_placeless xs ≡ all_placeless ys
  all_alike_placeless none none alike = refl
  all_alike_placeless none (more y ys) alike = absurd alike
  all_alike_placeless (more x xs) none alike = absurd alike
  all_alike_placeless (more x xs) (more y ys) alike =
      ap (λ first. more first (all_placeless xs)) (alike_placeless x y alike.0) ∙ ap (more (placeless y)) (all_alike_placeless xs ys alike.1)

numeral-placeless : (x : Item) → numeral (placeless x) ≡ numeral x
numeral-placeless (leaf atom place) = refl
numeral-placeless (group parts place) = refl

symbol-placeless : (word : List ℕ) (x : Item) → is_symbol word (placeless x) ≡ is_symbol word x
symbol-placeless word (leaf atom place) = refl
symbol-placeless word (group parts place) = refl

each-placeless : {A : Type 0} (read : Item → Option A) → ((x : Item) → read (placeless x) ≡ read x) → (xs : Items) → each_in read (all_placeless xs) ≡ each_in read xs
each-placeless read same none = refl
each-placeless {A} read same (more x xs) =
    ap (λ (first : Option A). with_first first (each_in read (all_placeless xs))) (same x) ∙ ap (with_first (read x)) (each-placeless read same xs)

-- a choice by a word, and what is read where the word is there
chosen : {A : Type 0} (b c : Bool) (x y u v : A) → b ≡ c → x ≡ y → u ≡ v → (if b then x else u) ≡ (if c then y else v)
chosen {A} b c x y u v e f g =
    ap (λ d. if d then x else u) e ∙ ap (λ (w : A). if c then w else u) f ∙ ap (λ (w : A). if c then y else w) g

-- ---- numbers
small-placeless : (x : Item) → small_in (placeless x) ≡ small_in x
small-placeless x = ap (below (2 ^ 32)) (numeral-placeless x)

negative-placeless : (xs : Items) → negative_in (all_placeless xs) ≡ negative_in xs
negative-placeless none = refl
negative-placeless (more sign none) = refl
negative-placeless (more sign (more n none)) =
    chosen _ _ _ _ _ _ (symbol-placeless (codes "-") sign) (ap (λ (m : Option ℕ). option_and_then opposite (option_map pos (below (2 ^ 127) m))) (numeral-placeless n)) refl
negative-placeless (more sign (more n (more x rest))) = refl

whole-placeless : (x : Item) → whole_in (placeless x) ≡ whole_in x
whole-placeless (leaf atom place) = refl
whole-placeless (group parts place) = negative-placeless parts

quotient-placeless : (xs : Items) → quotient_in (all_placeless xs) ≡ quotient_in xs
quotient-placeless none = refl
quotient-placeless (more sign none) = refl
quotient-placeless (more sign (more upper none)) = refl
quotient-placeless (more sign (more upper (more lower none))) =
    chosen _ _ _ _ _ _ (symbol-placeless (codes "/") sign)
    (ap (λ (num : Option ℤ). fraction_by num (denominator_in (placeless lower))) (whole-placeless upper)
    ∙ ap (λ (n : Option ℕ). fraction_by (whole_in upper) (from_two (below (2 ^ 127) n))) (numeral-placeless lower)) refl
quotient-placeless (more sign (more upper (more lower (more x rest)))) = refl

fraction-placeless : (x : Item) → fraction_in (placeless x) ≡ fraction_in x
fraction-placeless (leaf atom place) = refl
fraction-placeless (group parts place) =
    ap (λ (whole : Option ℤ). whole_or whole (quotient_in (all_placeless parts))) (negative-placeless parts) ∙ ap (whole_or (negative_in parts)) (quotient-placeless parts)

-- ---- tests
pair_of-placeless : (xs : Items) → pair_of (all_placeless xs) ≡ pair_of xs
pair_of-placeless none = refl
pair_of-placeless (more variable none) = refl
pair_of-placeless (more variable (more number none)) =
    ap (λ (v : Option ℕ). pair_by v (whole_in (placeless number))) (small-placeless variable) ∙ ap (pair_by (small_in variable)) (whole-placeless number)
pair_of-placeless (more variable (more number (more x rest))) = refl

pair-placeless : (x : Item) → pair_in (placeless x) ≡ pair_in x
pair-placeless (leaf atom place) = refl
pair-placeless (group parts place) = pair_of-placeless parts

form-placeless : (xs : Items) → form_in (all_placeless xs) ≡ form_in xs
form-placeless none = refl
form-placeless (more constant pairs) =
    ap (λ (c : Option ℤ). form_by c (each_in pair_in (all_placeless pairs))) (whole-placeless constant) ∙ ap (form_by (whole_in constant)) (each-placeless pair_in pair-placeless pairs)

holds-placeless : (xs : Items) → holds_in (all_placeless xs) ≡ holds_in xs
holds-placeless none = refl
holds-placeless (more variable none) = ap (option_map Holds) (small-placeless variable)
holds-placeless (more variable (more x rest)) = refl

test-placeless : (x : Item) → test_in (placeless x) ≡ test_in x
test-placeless (leaf atom place) = refl
test-placeless (group none place) = refl
test-placeless (group (more head rest) place) =
    chosen _ _ _ _ _ _ (symbol-placeless (codes "atleast") head) (form-placeless rest)
    (chosen _ _ _ _ _ _ (symbol-placeless (codes "holds") head) (holds-placeless rest) refl)

-- ---- nodes
split-placeless : (xs : Items) → split_in (all_placeless xs) ≡ split_in xs
split-placeless none = refl
split-placeless (more test none) = ap (option_map Split) (test-placeless test)
split-placeless (more test (more x rest)) = refl

branch-placeless : (xs : Items) → branch_in (all_placeless xs) ≡ branch_in xs
branch-placeless none = refl
branch-placeless (more variable none) = refl
branch-placeless (more variable (more bound none)) =
    ap (λ (v : Option ℕ). branch_by v (whole_in (placeless bound))) (small-placeless variable) ∙ ap (branch_by (small_in variable)) (whole-placeless bound)
branch-placeless (more variable (more bound (more x rest))) = refl

cut-placeless : (xs : Items) → cut_in (all_placeless xs) ≡ cut_in xs
cut-placeless none = refl
cut-placeless (more divisor multipliers) =
    ap (λ (d : Option ℤ). cut_by d (each_in fraction_in (all_placeless multipliers))) (whole-placeless divisor) ∙ ap (cut_by (whole_in divisor)) (each-placeless fraction_in fraction-placeless multipliers)

shown-placeless : (xs : Items) → shown_in (all_placeless xs) ≡ shown_in xs
shown-placeless none = refl
shown-placeless (more x rest) = refl

behind-placeless : (head : Item) (rest : Items) → node_behind (placeless head) (all_placeless rest) ≡ node_behind head rest
behind-placeless head rest =
    chosen _ _ _ _ _ _ (symbol-placeless (codes "split") head) (split-placeless rest)
    (chosen _ _ _ _ _ _ (symbol-placeless (codes "branch") head) (branch-placeless rest)
    (chosen _ _ _ _ _ _ (symbol-placeless (codes "cut") head) (cut-placeless rest)
    (chosen _ _ _ _ _ _ (symbol-placeless (codes "farkas") head) (ap (option_map Farkas) (each-placeless fraction_in fraction-placeless rest))
    (chosen _ _ _ _ _ _ (symbol-placeless (codes "shown") head) (shown-placeless rest) refl))))

node-placeless : (x : Item) → node_in (placeless x) ≡ node_in x
node-placeless (leaf atom place) = refl
node-placeless (group none place) = refl
node-placeless (group (more head rest) place) = behind-placeless head rest

nodes-placeless : (x : Item) → nodes_in (placeless x) ≡ nodes_in x
nodes-placeless (leaf atom place) = refl
nodes-placeless (group none place) = refl
nodes-placeless (group (more head rest) place) = by (is_symbol (codes "tree") (placeless head)) (is_symbol (codes "tree") head) (symbol-placeless (codes "tree") head)
  where
    by : (b c : Bool) → b ≡ c → option_and_then (each_in node_in) (if b then Some (all_placeless rest) else None) ≡ option_and_then (each_in node_in) (if c then Some rest else None)
    by b c e = ap (λ d. option_and_then (each_in node_in) (if d then Some (all_placeless rest) else None)) e ∙ there c
      where
        there : (d : Bool) → option_and_then (each_in node_in) (if d then Some (all_placeless rest) else None) ≡ option_and_then (each_in node_in) (if d then Some rest else None)
        there true = each-placeless node_in node-placeless rest
        there false = refl

-- items that are alike have the same nodes
pub nodes_alike : (x y : Item) → Alike x y → nodes_in x ≡ nodes_in y
nodes_alike x y alike = sym (nodes-placeless x) ∙ ap nodes_in (alike_placeless x y alike) ∙ nodes-placeless y

-- Conditional trees are members of their grammar, and mean what the leaf that they reach means.
use Rattle.std.specs.Prelude.{ℕ, List, [], ◌≡◌, refl, Bool, true, false, cond, Some, None, Option, if◌then◌else◌}
use Rattle.std.proofs.Common.{ap, ◌∙◌}
use Rattle.sy_terms.specs.Values.{Val, truth}
use Rattle.sy_terms.specs.Expr as expr
use Rattle.sy_terms.specs.Expr.{Expr}
use Rattle.sy_terms.specs.Operators.{op_value}
use Rattle.sy_terms.specs.Meaning.{Function, meaning, meanings}
use Rattle.sy_terms.specs.declared.op.Op.TheVariants as ops
use Rattle.sy_grammar_base.specs.Patterns as patterns
use Rattle.sy_grammar_base.specs.Patterns.{filled, all_filled, Pattern}
use Rattle.sy_grammar_base.specs.Trees as trees
use Rattle.sy_grammar_base.specs.Trees.{Syntax, Tree, Node, Derives, IsMember, Production, Template, EachConstant, EachVariable, rule_at, template, node_yield, yield_from, yields_from}
use Rattle.sy_loop_spec.specs.Conditional.{Conditional, Leaf, Test, yield, leaf_reached, ArePartsWithin, IsTreeRule}

-- the leaf that a conditional tree reaches has its value
pub tree_reaches : (defined : List Function) (values : List Val) (parts : Conditional) → meaning defined [] values (yield parts) ≡ meaning defined [] values (leaf_reached defined values parts)
unfolding meaning meanings op_value
tree_reaches defined values (Leaf tree term) = refl
tree_reaches defined values (Test tree term there here) =
    chosen (truth (meaning defined [] values term)) (meaning defined [] values (yield there)) (meaning defined [] values (yield here)) (leaf_reached defined values there) (leaf_reached defined values here)
    (tree_reaches defined values there) (tree_reaches defined values here)
  where
    chosen : (holds : Bool) (one two : Val) (first second : Expr) → one ≡ meaning defined [] values first → two ≡ meaning defined [] values second →
        cond holds one two ≡ meaning defined [] values (if holds then first else second)
    chosen true one two first second same other = same
    chosen false one two first second same other = other

-- the derivation of a conditional tree, by the rule of this number
abbrev pub derivation : ℕ → Conditional → Tree
derivation rule (Leaf tree term) = tree
derivation rule (Test tree term there here) = Node rule (trees.more tree (trees.more (derivation rule there) (trees.more (derivation rule here) trees.none)))

-- the pattern of a rule for conditional trees
abbrev choice_by : ℕ → Pattern
choice_by condition = patterns.Apply ops.Ite (patterns.more (patterns.Occurrence condition) (patterns.more (patterns.Occurrence 0) (patterns.more (patterns.Occurrence 0) patterns.none)))

template_is : (found : Option Production) (pattern : Pattern) → template found ≡ Some pattern → found ≡ Some (Template pattern)
template_is None pattern is = cc
template_is (Some (Template own)) pattern is = cc
template_is (Some (EachConstant sort)) pattern is = cc
template_is (Some (EachVariable sort)) pattern is = cc

-- what a node of the rule derives
chosen_derives : (syntax : Syntax) (condition : ℕ) (tree there here : Tree) (term one two : Expr) → Derives syntax condition tree term → Derives syntax 0 there one → Derives syntax 0 here two →
    node_yield (Some (Template (choice_by condition))) (λ occurrences. yields_from syntax occurrences (trees.more tree (trees.more there (trees.more here trees.none)))) ≡
    Some (expr.Apply ops.Ite (expr.more term (expr.more one (expr.more two expr.none))))
unfolding yields_from filled all_filled
chosen_derives syntax condition tree there here term one two derives first second = rw (derives, first, second) refl

-- a conditional tree by the grammar's rule for them is a member
pub trees_are_members : (syntax : Syntax) (pool : List Val) (rule condition n : ℕ) (parts : Conditional) → IsTreeRule syntax rule condition → ArePartsWithin syntax pool condition n parts →
    Derives syntax 0 (derivation rule parts) (yield parts)
unfolding yield_from
trees_are_members syntax pool rule condition n (Leaf tree term) chooses within = within.derives
trees_are_members syntax pool rule condition n (Test tree term there here) chooses within =
    let one = trees_are_members syntax pool rule condition n there chooses within.1 in
    let two = trees_are_members syntax pool rule condition n here chooses within.2 in
    ap (λ (found : Option Production). node_yield found (λ occurrences. yields_from syntax occurrences (trees.more tree (trees.more (derivation rule there) (trees.more (derivation rule here) trees.none)))))
    (template_is (rule_at syntax 0 rule) (choice_by condition) chooses.is) ∙
    chosen_derives syntax condition tree (derivation rule there) (derivation rule here) term (yield there) (yield here) within.0.derives one two

pub tree_is_member : (syntax : Syntax) (pool : List Val) (rule condition n : ℕ) (parts : Conditional) → IsTreeRule syntax rule condition → ArePartsWithin syntax pool condition n parts → IsMember syntax (yield parts)
tree_is_member syntax pool rule condition n parts chooses within = record { tree = derivation rule parts; derives = trees_are_members syntax pool rule condition n parts chooses within }

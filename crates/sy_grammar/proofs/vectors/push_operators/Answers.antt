use Rattle.std.proofs.Common.{◌++◌, ◌∷◌, [], List, map}
use Rattle.sy_terms.specs.declared.op.Op.TheVariants as ops
use Rattle.sy_grammar_base.specs.Trees.{Production}
use Rattle.sy_grammar_base.specs.Grown.{production_of}
use Rattle.sy_grammar.specs.Defaults.{rule_of_two}
use Rattle.sy_grammar.proofs.Growing.{behind_more}
use Rattle.sy_grammar.proofs.vectors.push_operators.Goals as goal

pub returns : goal.returns
returns g c =
    let v = c.args.v in
    let old = map (production_of g.T.Theory.denotes) c.args.rules.now in
    let front1 : List Production = rule_of_two ops.BvAnd v ∷ [] in
    let more1 = c.in_ok-push_applied.ensures in
    let front2 : List Production = front1 ++ rule_of_two ops.BvOr v ∷ [] in
    let more2 = behind_more old front1 _ _ (rule_of_two ops.BvOr v) more1 c.in_ok-push_applied-2.ensures in
    let front3 : List Production = front2 ++ rule_of_two ops.BvXor v ∷ [] in
    let more3 = behind_more old front2 _ _ (rule_of_two ops.BvXor v) more2 c.in_ok-push_applied-3.ensures in
    let front4 : List Production = front3 ++ rule_of_two ops.BvAdd v ∷ [] in
    let more4 = behind_more old front3 _ _ (rule_of_two ops.BvAdd v) more3 c.in_ok-push_applied-4.ensures in
    let front5 : List Production = front4 ++ rule_of_two ops.BvSub v ∷ [] in
    let more5 = behind_more old front4 _ _ (rule_of_two ops.BvSub v) more4 c.in_ok-push_applied-5.ensures in
    let front6 : List Production = front5 ++ rule_of_two ops.BvMul v ∷ [] in
    let more6 = behind_more old front5 _ _ (rule_of_two ops.BvMul v) more5 c.in_ok-push_applied-6.ensures in
    let front7 : List Production = front6 ++ rule_of_two ops.BvUdiv v ∷ [] in
    let more7 = behind_more old front6 _ _ (rule_of_two ops.BvUdiv v) more6 c.in_ok-push_applied-7.ensures in
    let front8 : List Production = front7 ++ rule_of_two ops.BvUrem v ∷ [] in
    let more8 = behind_more old front7 _ _ (rule_of_two ops.BvUrem v) more7 c.in_ok-push_applied-8.ensures in
    let front9 : List Production = front8 ++ rule_of_two ops.BvShl v ∷ [] in
    let more9 = behind_more old front8 _ _ (rule_of_two ops.BvShl v) more8 c.in_ok-push_applied-9.ensures in
    let front10 : List Production = front9 ++ rule_of_two ops.BvLshr v ∷ [] in
    let more10 = behind_more old front9 _ _ (rule_of_two ops.BvLshr v) more9 c.in_ok-push_applied-10.ensures in
    let front11 : List Production = front10 ++ rule_of_two ops.BvAshr v ∷ [] in
    let more11 = behind_more old front10 _ _ (rule_of_two ops.BvAshr v) more10 c.in_ok-push_applied-11.ensures in
    more11

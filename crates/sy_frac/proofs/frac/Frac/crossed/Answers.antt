use Rattle.std.proofs.Common.{◌≡◌, ◌∙◌, ap, ap₂, rules}
use Rattle.std.specs.Prelude.{ℤ}
use mir.Syntax.{w128}
use mir.Val.{to_z, of_z}
use Rattle.sy_frac.specs.Fraction.{Fraction, IsLowest, CrossesFit}
use Rattle.sy_frac.proofs.Quotients.{whole_crosses, number_back}
use Rattle.sy_frac.proofs.frac.Frac.crossed.Goals as goal

pub returns-then-are_whole : goal.returns-then-are_whole
returns-then-are_whole c =
    let left : IsLowest c.args.self.now = search rules in
    let right : IsLowest c.args.o.now = search rules in
    let num : to_z w128 (of_z w128 c.self.inside.num) ≡ c.args.self.now.num = number_back c.self.inside.num c.args.self.now.num (ap (λ (f : Fraction). f.num) c.self.view_is) left.num_fits in
    let other : to_z w128 (of_z w128 c.o.inside.num) ≡ c.args.o.now.num = number_back c.o.inside.num c.args.o.now.num (ap (λ (f : Fraction). f.num) c.o.view_is) right.num_fits in
    let crosses = whole_crosses c.args.self.now c.args.o.now left right (c.are_whole.ensures.0 c.if-are_whole.true) in
    (crosses.0, ap₂ (λ (a b : ℤ). (a, b)) num other ∙ crosses.1)

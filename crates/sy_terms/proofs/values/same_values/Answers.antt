use Rattle.std.proofs.Common.{◌≡◌, refl, subst, true}
use Rattle.sy_terms.proofs.Same.{IsExact, exact_lists, exact_values}
use Rattle.sy_terms.proofs.values.same_values.Goals as goal

pub returns : goal.returns
returns g c =
    let theory = g.met.T.Theory in
    let numbers : IsExact g.T.Theory.denotes g.T.Num.PartialEq.eq = record {
      same = theory.equal;
      found = λ m n e. subst (λ k. g.T.Num.PartialEq.eq m k ≡ true) (theory.one_to_one m n e) (g.met.T.Num.Eq.laws.refl m);
    } in
    rw c.eq.ensures (exact_lists (exact_values numbers theory.no_truth refl refl refl refl (λ b n. refl) (λ n b. refl) (λ m n. refl)) c.args.a.now c.args.b.now)

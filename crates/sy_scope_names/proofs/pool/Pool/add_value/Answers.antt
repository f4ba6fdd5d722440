use Rattle.std.proofs.Common.{◌≡◌, refl, subst, true, ap, ◌∙◌}
use Rattle.sy_terms.specs.Denoted.{val_of, vals_of}
use Rattle.sy_terms.specs.contracts.sort.ValuePartialEq.TheImpl as generated
use Rattle.sy_scope_names.proofs.Pooling.{IsExact, exact_values, added}
use Rattle.sy_scope_names.proofs.pool.Pool.add_value.Goals as goal

pub returns : goal.returns
returns g c =
    let theory = g.met.T.Theory in
    let numbers : IsExact g.T.Theory.denotes g.T.Num.PartialEq.eq = record {
      same = theory.equal;
      found = λ m n e. subst (λ k. g.T.Num.PartialEq.eq m k ≡ true) (theory.one_to_one m n e) (g.met.T.Num.Eq.laws.refl m);
    } in
    let compared = (generated.ghosts g.row.T-Num g.T.Num.PartialEq g.T.Num.PartialEq-dict).eq in
    let exact : IsExact (val_of g.T.Theory.denotes) compared = exact_values numbers theory.no_truth refl refl refl refl (λ b n. refl) (λ n b. refl) (λ m n. refl) in
    ap (vals_of g.T.Theory.denotes) c.in_ok-insert.ensures.keys ∙ added exact c.args.value c.args.self.now.values.keys

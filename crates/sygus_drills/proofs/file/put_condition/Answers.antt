use Rattle.std.proofs.Common.{◌++◌, ◌∷◌, [], ◌%◌, List, ℕ, sym, ap, append_assoc}
use Rattle.std.specs.Prelude.{codes}
use Rattle.sy_text.specs.Spelling.{vector_text}
use Rattle.sygus_drills.specs.Files.{condition}
use Rattle.sygus_drills.proofs.Texts.{three}
use Rattle.sygus_drills.proofs.file.put_condition.Goals as goal

pub returns : goal.returns
unfolding condition
returns c =
    let regrouped = ap (λ (l : List ℕ). codes "   (C Bool ((bvult x " ++ l) (sym (append_assoc (vector_text 8 (c.args.number % 256)) (codes ")))))") (10 ∷ []))) in
    three c.append-2.result _ _ _ _ _ _ _ _ c.in_ok-append.ensures.ok c.in_ok-write_vector.ensures regrouped c.append-2.ensures.ok

-- Whole terms are small, so their measures are below any high cap.
use Rattle.std.proofs.Common.{◌≡◌, ◌∙◌, ◌≤◌, refl, sym, ap, arith, ℕ, Bool, true, false, []}
use Rattle.std.specs.Prelude.{Ok, Err, cond, min, nat_le, ◌&&◌}
use Rattle.std.proofs.lemmas.Bool.{leb-true}
use Rattle.sy_text_items.specs.Items.{Item}
use Rattle.sy_text_items.specs.declared.atom.Place.{Place}
use Rattle.sy_terms.specs.Sorts.{same_sort}
use Rattle.sy_terms.specs.declared.sort.Sort.{Sort}
use Rattle.sy_scope_causes.specs.declared.cause.Cause.TheVariants as cause
use Rattle.sy_forms_items.specs.Environments.{Environment}
use Rattle.sy_forms_items.specs.Measures.{Measures, is_within_limits, unfolded_size, unfolded_depth}
use Rattle.sy_forms_items.specs.Parts.{place_of}
use Rattle.sy_forms_items.specs.Phrases.{Phrase, Typed}
use Rattle.sy_forms_items.specs.Readings.{Reading, refuse, ◌>>=◌}
use Rattle.sy_forms.specs.Terms.{read_term, read_whole, of_sort}

by_tests : (measures : Measures) (same small : Bool) (p q : Phrase) (place : Place) → is_within_limits measures p ≡ small →
    cond same (cond small (Ok p) (refuse place cause.TooMany)) (refuse place cause.SortMismatch) ≡ Ok q → is_within_limits measures q ≡ true
by_tests measures true true p q place is e = let same : p ≡ q = cc in ap (is_within_limits measures) (sym same) ∙ is
by_tests measures true false p q place is e = absurd cc
by_tests measures false small p q place is e = absurd cc

typed_small : (measures : Measures) (sort : Sort) (place : Place) (read : Reading Typed) (phrase : Phrase) →
    (read >>= λ x. of_sort measures sort place x) ≡ Ok phrase → is_within_limits measures phrase ≡ true
typed_small measures sort place (Ok x) phrase e = by_tests measures (same_sort x.sort sort) (is_within_limits measures x.phrase) x.phrase phrase place refl e
typed_small measures sort place (Err fault) phrase e = absurd cc

pub whole_small : (env : Environment) (measures : Measures) (sort : Sort) (item : Item) (phrase : Phrase) →
    read_whole env measures sort item ≡ Ok phrase → is_within_limits measures phrase ≡ true
whole_small env measures sort item phrase e = typed_small measures sort (place_of item) (read_term env [] item) phrase e

both_true : (a b : Bool) → (a && b) ≡ true → (a ≡ true) × (b ≡ true)
both_true true b e = (refl, e)
both_true false b e = absurd cc

capped : (n most cap : ℕ) → nat_le n most ≡ true → most ≤ cap → min cap n ≡ n
capped n most cap e h = grind (arith, leb-true n most e)

pub size_capped : (measures : Measures) (phrase : Phrase) → is_within_limits measures phrase ≡ true → min 18446744073709551615 (unfolded_size measures.sizes phrase) ≡ unfolded_size measures.sizes phrase
size_capped measures phrase e =
    capped (unfolded_size measures.sizes phrase) 1000000 18446744073709551615 (both_true (nat_le (unfolded_size measures.sizes phrase) 1000000) (nat_le (unfolded_depth measures.depths phrase) 1200) e).0 (omega arith)

pub depth_capped : (measures : Measures) (phrase : Phrase) → is_within_limits measures phrase ≡ true → min 18446744073709551615 (unfolded_depth measures.depths phrase) ≡ unfolded_depth measures.depths phrase
depth_capped measures phrase e =
    capped (unfolded_depth measures.depths phrase) 1200 18446744073709551615 (both_true (nat_le (unfolded_size measures.sizes phrase) 1000000) (nat_le (unfolded_depth measures.depths phrase) 1200) e).1 (omega arith)

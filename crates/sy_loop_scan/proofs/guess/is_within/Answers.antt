use Rattle.std.proofs.Common.{◌≡◌, Some, length, refl, subst, arith}
use Rattle.std.proofs.lemmas.Bool.{leb-true}
use Rattle.std.proofs.lemmas.Option.{slice_get_read}
use Rattle.sy_loop_scan.specs.Guesses.{total_size}
use Rattle.sy_loop_scan.proofs.guess.is_within.Goals as goal

pub returns-in-Some-checked_add : goal.returns-in-Some-checked_add
returns-in-Some-checked_add c = λ fits.
    let shapes = c.args.shapes.now in
    let found = c.in-Some.ensures.lookup in
    let least = leb-true c.in-Some-checked_add.total c.args.bound fits in
    record {
      shape = c.in-Some.shape.now;
      size = c.in-Some-size_of.size;
      is = slice_get_read shapes (length shapes) c.args.guess.now.shape c.in-Some.shape.now refl found.3.0 found.1;
      sized = subst (λ parts. total_size c.args.pools.now c.in-Some.shape.now.operands.items parts ≡ Some c.in-Some-size_of.size) c.as_slice-2.ensures.value
          (subst (λ operands. total_size c.args.pools.now operands c.as_slice-2.result.now ≡ Some c.in-Some-size_of.size) c.as_slice.ensures.value c.in-Some-size_of.ensures);
      within = omega (arith, c.in-Some-checked_add.ensures, least);
    }

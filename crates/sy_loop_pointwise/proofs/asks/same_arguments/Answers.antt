use Rattle.sy_loop_pointwise.specs.Denoted.{shapes_of}
use Rattle.sy_loop_pointwise.proofs.Calls.{same_calls}
use Rattle.sy_loop_pointwise.proofs.asks.same_arguments.Goals as goal

pub returns-in-Some-Some : goal.returns-in-Some-Some
returns-in-Some-Some g c = λ one other xs ys is there.
    let told = same_calls (shapes_of g.T.Theory.denotes c.args.shapes.now) c.requires.subterms c.args.first c.args.second c.in-Some-Some.ones.now c.in-Some-Some.others.now c.in-Some-Some.ensures c.in-Some-Some.ensures' one other xs ys is there in
    (λ yes. told.0 (c.same_numbers.ensures.0 yes), λ same. c.same_numbers.ensures.1 (told.1 same))

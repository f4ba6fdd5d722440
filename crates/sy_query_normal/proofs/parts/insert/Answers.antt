use Rattle.std.proofs.Common.{◌≡◌, slice_get, Some, arith, sym, ◌∙◌}
use Rattle.std.specs.Option.{option_map}
use Rattle.std.proofs.lemmas.Result.{IfOk-from_err}
use Rattle.sy_terms.specs.Denoted.{expr_of}
use Rattle.sy_meaning_words.specs.Vectors.{vector}
use Rattle.sy_query_normal.proofs.Terms.{put_in, taken_out, left_out}
use Rattle.sy_query_normal.proofs.parts.insert.Goals as goal

pub remove-requires : goal.remove-requires
remove-requires c = let within = c.is_at.ensures.within c.if-not-is_at.false in omega (arith, within)

pub returns-then-not-is_at : goal.returns-then-not-is_at
returns-then-not-is_at c = λ sort law values sorted.
    put_in vector sort c.args.operator law values c.args.parts.now.items c.insert.new.self.items c.place_of-place.result c.in_ok-copy.copy (expr_of vector c.args.part.now) c.in_ok-insert.ensures.items c.in_ok-copy.ensures

pub returns-then-cancels : goal.returns-then-cancels
returns-then-cancels c = λ sort law values sorted.
    let at : option_map (expr_of vector) (slice_get c.args.parts.now.items c.place_of-place.result) ≡ Some (expr_of vector c.args.part.now) = cc (c.is_at.ensures.is c.if-not-is_at.false) in
    taken_out vector sort c.args.operator law values c.args.parts.now.items c.remove.new.self.items c.place_of-place.result (expr_of vector c.args.part.now) c.remove.ensures.items at (sym c.cancels.ensures ∙ c.if-cancels.true) sorted

pub returns : goal.returns
returns c = λ sort law values sorted.
    let at : option_map (expr_of vector) (slice_get c.args.parts.now.items c.place_of-place.result) ≡ Some (expr_of vector c.args.part.now) = cc (c.is_at.ensures.is c.if-not-is_at.false) in
    left_out vector sort c.args.operator law values c.args.parts.now.items c.place_of-place.result (expr_of vector c.args.part.now) at (sym c.cancels.ensures ∙ c.if-cancels.false) sorted

pub returns-in_err-copy : goal.returns-in_err-copy
returns-in_err-copy c = IfOk-from_err c.from_residual.result _ c.from_residual.ensures.0

pub returns-in_err-insert : goal.returns-in_err-insert
returns-in_err-insert c = IfOk-from_err c.from_residual-in_err-insert.result _ c.from_residual-in_err-insert.ensures.0

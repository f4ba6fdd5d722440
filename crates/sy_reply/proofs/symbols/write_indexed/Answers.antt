use Rattle.std.proofs.Common.{sym, ◌∙◌, ap, ◌++◌, map}
use Rattle.std.proofs.lemmas.List.{drop_more, drop_all}
use Rattle.sy_text.specs.Spelling.{numeral_text}
use Rattle.sy_reply.proofs.Written as written
use Rattle.sy_reply.specs.Replies.{spaced}
use Rattle.sy_reply.proofs.symbols.write_indexed.Goals as goal

pub loop-index-preserved : goal.loop-index-preserved
loop-index-preserved c =
    let left = drop_more c.args.indices.now c.loop-index.index-index 0 c.loop-index-test.true in
    written.spaced_step c.loop-index.out c.push.new.self c.write_numeral.new.out _ _ _ c.in_ok-push.ensures.ok c.in_ok-write_numeral.ensures
    (ap (λ indices. c.loop-index.out ++ spaced (map numeral_text indices)) (sym left) ∙ c.loop-index.invariant)

pub returns : goal.returns
returns c =
    let none = ap (λ indices. spaced (map numeral_text indices)) (drop_all c.loop-index.index-index c.args.indices.now c.loop-index-test.false) in
    let name = rw (c.as_bytes.ensures.value) at c.in_ok-append-2.ensures.ok in
    rw (written.bracketed_name c.args.name.now (map numeral_text c.args.indices.now))
    (written.on_ok c.push-2.result c.push-2.ensures.ok (λ closed.
    written.appended_in_four _ _ _ _ _ _ _ _ _ c.in_ok-append.ensures.ok name (written.ended c.loop-index.out _ _ none c.loop-index.invariant) closed))

use Rattle.std.proofs.Common.{map}
use Rattle.sy_terms.specs.Denoted.{expr_of}
use Rattle.sy_forms_items.specs.Meant.{phrase_of}
use Rattle.sy_forms_items.specs.Phrases.{expr_at}
use Rattle.sy_scope_declared.proofs.Alike.{more_alike, all_seen}
use Rattle.sy_scope_declared.proofs.check.terms_of.Goals as goal

pub loop-phrase-preserved : goal.loop-phrase-preserved
loop-phrase-preserved g c =
    more_alike (expr_of g.T.Theory.denotes) (expr_at c.args.outside) (phrase_of g.T.Theory.denotes) c.push.new.self c.loop-phrase.terms c.in_ok-term.field-0
    c.args.phrases.now c.loop-phrase.phrase-index c.phrase-item.result c.in_ok-push.ensures.ok c.loop-phrase-test.true c.phrase-item.is c.loop-phrase.invariant c.in_ok-term.ensures

pub returns : goal.returns
returns g c =
    all_seen (expr_at c.args.outside) (phrase_of g.T.Theory.denotes) (map (expr_of g.T.Theory.denotes) c.loop-phrase.terms)
    c.args.phrases.now c.loop-phrase.phrase-index c.loop-phrase-test.false c.loop-phrase.invariant

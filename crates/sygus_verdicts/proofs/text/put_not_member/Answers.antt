use Rattle.sygus_verdicts.proofs.Written.{on_ok, appended_twice, named, unnamed}
use Rattle.sygus_verdicts.proofs.text.put_not_member.Goals as goal

pub returns-in-Some : goal.returns-in-Some
returns-in-Some c =
    rw (named c.args.titles.now c.args.function c.in-Some.title.now c.in-Some.ensures)
    (on_ok c.write_symbol.result c.write_symbol.ensures (λ more. appended_twice _ c.put.new.out _ _ _ c.in_ok-put.ensures (rw c.as_slice.ensures at more)))

pub returns-in-None : goal.returns-in-None
returns-in-None c = rw (unnamed c.args.titles.now c.args.function c.in-None.ensures) c.in_ok-put.ensures

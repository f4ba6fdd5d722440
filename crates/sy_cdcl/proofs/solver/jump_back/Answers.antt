use Rattle.std.proofs.Common.{refl, arith, ◌≡◌, length}
use Rattle.sy_clauses.specs.Clauses.{known_clauses}
use Rattle.sy_cdcl.proofs.Attaching.{watching_back}
use Rattle.sy_cdcl.proofs.solver.jump_back.Goals as goal

pub returns-clause-watching : goal.returns-clause-watching
returns-clause-watching c =
    let t = c.go_back.new.trail in
    let w = c.args.watches.now in
    let len : c.len-watches.result ≡ length t.entries.items = omega (arith, c.len-watches.ensures, t.entries.ok.0) in
    watching_back (known_clauses c.args.cnf.now.clauses c.args.derived.now) c.args.trail.now t w
    record { pairs = w.pairs; lists = w.lists; head = c.len-watches.result } c.requires.ready c.requires.watching c.go_back.ensures.back c.go_back.ensures.vars
    refl refl len

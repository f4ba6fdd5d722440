use Rattle.std.proofs.Common.{◌∙◌, sym, subst, arith, List}
use Rattle.std.proofs.lemmas.List.{length-map}
use Rattle.sy_terms.specs.Values.{Val}
use Rattle.sy_terms.specs.Denoted.{vals_of}
use Rattle.sy_terms.specs.Definitions.{scope_of, bodies}
use Rattle.sy_terms.specs.Meaning.{functions}
use Rattle.sy_grammar_base.specs.Grown.{syntax_from}
use Rattle.sy_bank_level.specs.Stored.{lost_of}
use Rattle.sy_bank_level.specs.Task.{level_of}
use Rattle.sy_bank_level.specs.Rows.{ArePointsOf}
use Rattle.sy_bank_level.proofs.Next.{whole-covers}
use Rattle.sy_bank_level.specs.Bank.{merged_of}
use Rattle.sy_bank.specs.Promised.{Stays, IsBank, BankIsFull}
use Rattle.sy_bank.proofs.Ends.{end-bank, end-stays, handed-on, handed-on-full, some-dropped}
use Rattle.sy_bank_level.proofs.Exits.{never-ok}
use Rattle.sy_bank.proofs.growing.all_sizes.Goals as goal
use Rattle.sy_bank.proofs.growing.all_sizes.Goals.{then-loop-bank-test+else-len-upto, else-loop-bank-test}

pub next_size-requires-clause-points : goal.next_size-requires-clause-points
next_size-requires-clause-points g c = subst (λ (points : List (List Val)). ArePointsOf c.args.grammar.now.args points) (sym c.loop-bank.invariant.over) c.requires.points

pub loop-bank-preserved : goal.loop-bank-preserved
loop-bank-preserved g c =
    let next = c.in_ok-bank.ensures.next in
    let before = c.loop-bank.invariant in
    record {
      over = next.over ∙ before.over;
      up = next.up ∙ before.up;
      built = c.in_ok-bank.ensures.built;
      within = next.within;
      stays = λ n size place e at. next.stays n size place e (before.stays n size place e at);
    }

pub returns-in_err-bank-clause-stays : goal.returns-in_err-bank-clause-stays
returns-in_err-bank-clause-stays g c =
    let number = g.T.Theory.denotes in
    let first = merged_of number c.args.begun in
    handed-on number (Stays first) c.from_residual.result c.in_err-bank.field-0.0 c.from_residual.ensures.1
    (end-stays number (syntax_from number c.args.grammar.now) (functions (bodies number c.args.defs.now)) (vals_of number c.args.pool.now) c.args.cap first (merged_of number c.loop-bank.bank) c.in_err-bank.field-0.0 c.loop-bank.invariant.stays c.in_err-bank.ensures.next)

pub returns-clause-whole : goal.returns-clause-whole
returns-clause-whole g c =
    let number = g.T.Theory.denotes in
    let bank = merged_of number c.loop-bank.bank in
    elim c.loop-bank-test.branch [
      | then-loop-bank-test+else-len-upto w ↦ λ none_lost.
          whole-covers (scope_of g.T.Theory.owned c.args.defs.now) (syntax_from number c.args.grammar.now) (functions (bodies number c.args.defs.now)) (vals_of number c.args.pool.now) bank c.loop-bank.invariant.built.ready none_lost
          (omega (arith, w.if-len-upto.false, w.len.ensures, c.loop-bank.bank.levels.ok.0, length-map c.loop-bank.bank.levels.items (level_of number), c.loop-bank.invariant.up))
      | else-loop-bank-test w ↦ λ none_lost. absurd (some-dropped (lost_of number) c.loop-bank.bank.dropped w.loop-bank-test.ensures none_lost)
    ]

pub returns-in_err-bank-clause-whole : goal.returns-in_err-bank-clause-whole
returns-in_err-bank-clause-whole g c = never-ok _ c.from_residual.result c.in_err-bank.field-0.0 c.from_residual.ensures.1

pub returns-in_err-bank-clause-built : goal.returns-in_err-bank-clause-built
returns-in_err-bank-clause-built g c = never-ok _ c.from_residual.result c.in_err-bank.field-0.0 c.from_residual.ensures.1

pub returns-in_err-bank-clause-full : goal.returns-in_err-bank-clause-full
returns-in_err-bank-clause-full g c =
    let number = g.T.Theory.denotes in
    handed-on-full number (BankIsFull (syntax_from number c.args.grammar.now) (functions (bodies number c.args.defs.now)) (vals_of number c.args.pool.now) c.args.cap) c.from_residual.result c.in_err-bank.field-0.0 c.from_residual.ensures.1 c.in_err-bank.ensures.full

pub returns-in_err-bank-clause-bank : goal.returns-in_err-bank-clause-bank
returns-in_err-bank-clause-bank g c =
    let number = g.T.Theory.denotes in
    let first = merged_of number c.args.begun in
    let syntax = syntax_from number c.args.grammar.now in
    let defined = functions (bodies number c.args.defs.now) in
    let pool = vals_of number c.args.pool.now in
    handed-on number (IsBank syntax defined pool first.points c.args.begun.upto c.args.cap) c.from_residual.result c.in_err-bank.field-0.0 c.from_residual.ensures.1
    (end-bank number syntax defined pool first.points c.args.begun.upto c.args.cap (merged_of number c.loop-bank.bank) c.in_err-bank.field-0.0 c.loop-bank.invariant.over c.loop-bank.invariant.up c.in_err-bank.ensures.next c.in_err-bank.ensures.full)

pub returns-clause-built : goal.returns-clause-built
returns-clause-built g c = c.loop-bank.invariant.built

pub returns-clause-stays : goal.returns-clause-stays
returns-clause-stays g c = c.loop-bank.invariant.stays

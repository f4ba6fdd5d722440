use Rattle.std.proofs.Common.{◌≡◌, ◌≤◌, ◌∙◌, sym, refl, ap, arith, length, map}
use Rattle.std.proofs.lemmas.List.{length-map}
use Rattle.sy_terms.specs.Denoted.{vals_of}
use Rattle.sy_terms.specs.Definitions.{scope_of, bodies}
use Rattle.sy_terms.specs.Meaning.{functions}
use Rattle.sy_grammar_base.specs.Grown.{syntax_from, nonterminal_of}
use Rattle.sy_bank_level.specs.Stored.{entry_of}
use Rattle.sy_bank_level.specs.Filling.{World}
use Rattle.sy_seq.specs.Buckets.{values_for}
use Rattle.sy_bank_level.specs.Task.{level_of, levels_of, level_state_of}
use Rattle.sy_bank_level.proofs.Next.{steady-begun}
use Rattle.sy_bank_level.specs.Bank.{merged_of}
use Rattle.sy_bank.proofs.Steps.{IsStep, step-next, step-indexed, step-ready, step-full}
use Rattle.sy_bank.proofs.growing.next_size.Goals as goal

pub fill-requires-clause-task : goal.fill-requires-clause-task
fill-requires-clause-task g c =
    let points = rw (← c.as_slice.ensures) at c.requires.points in
    record {
      definitions = c.requires.definitions;
      set = record { formed = c.requires.formed; points = points };
      sized = c.len-2.ensures ∙ sym c.as_slice-2.ensures.len;
    }

pub fill-requires-clause-steady : goal.fill-requires-clause-steady
fill-requires-clause-steady g c =
    let number = g.T.Theory.denotes in
    let bank = merged_of number c.args.begun in
    let wide : c.len.result ≡ length (map (nonterminal_of number) c.args.grammar.now.nons) = c.len.ensures ∙ ap length c.nons.ensures ∙ sym (length-map c.args.grammar.now.nons (nonterminal_of number)) in
    let room : c.args.begun.count ≤ c.args.cap = omega (arith, c.requires.room, c.requires.built.indexed.counted) in
    rw (c.as_slice.ensures, c.as_slice-2.ensures.value, c.in_ok-new.ensures, wide)
    (steady-begun (scope_of g.T.Theory.owned c.args.defs.now) (syntax_from number c.args.grammar.now) (functions (bodies number c.args.defs.now)) (vals_of number c.args.pool.now) bank c.args.cap (values_for c.args.begun.table) c.args.begun.count
    c.requires.built.ready c.requires.built.indexed room c.requires.none_lost)

pub returns-in_ok-bank-in-Ok-clause-next : goal.returns-in_ok-bank-in-Ok-clause-next
returns-in_ok-bank-in-Ok-clause-next g c =
    let number = g.T.Theory.denotes in
    let scope = scope_of g.T.Theory.owned c.args.defs.now in
    let syntax = syntax_from number c.args.grammar.now in
    let defined = functions (bodies number c.args.defs.now) in
    let pool = vals_of number c.args.pool.now in
    let bank = merged_of number c.args.begun in
    let w : World = record { scope = scope; syntax = syntax; defined = defined; pool = pool; points = map (vals_of number) c.as_slice.result.now; levels = levels_of number c.as_slice-2.result.now; cap = c.args.cap } in
    let s = level_state_of number c.fill.new.filling in
    let after = merged_of number c.in_ok-bank-in-Ok.bank in
    let step : IsStep scope syntax defined pool bank c.args.cap w s after = record {
      below = omega (arith, c.requires.open, length-map c.args.begun.levels.items (level_of number));
      same = rw (c.as_slice.ensures, c.as_slice-2.ensures.value) refl;
      is = c.in_ok-bank-in-Ok.ensures.merged;
      steady = c.in-Ok.ensures.steady;
    } in
    step-next scope syntax defined pool bank c.args.cap w s after step

pub returns-in_ok-bank-in-Ok-clause-built : goal.returns-in_ok-bank-in-Ok-clause-built
returns-in_ok-bank-in-Ok-clause-built g c =
    let number = g.T.Theory.denotes in
    let scope = scope_of g.T.Theory.owned c.args.defs.now in
    let syntax = syntax_from number c.args.grammar.now in
    let defined = functions (bodies number c.args.defs.now) in
    let pool = vals_of number c.args.pool.now in
    let bank = merged_of number c.args.begun in
    let w : World = record { scope = scope; syntax = syntax; defined = defined; pool = pool; points = map (vals_of number) c.as_slice.result.now; levels = levels_of number c.as_slice-2.result.now; cap = c.args.cap } in
    let s = level_state_of number c.fill.new.filling in
    let after = merged_of number c.in_ok-bank-in-Ok.bank in
    let step : IsStep scope syntax defined pool bank c.args.cap w s after = record {
      below = omega (arith, c.requires.open, length-map c.args.begun.levels.items (level_of number));
      same = rw (c.as_slice.ensures, c.as_slice-2.ensures.value) refl;
      is = c.in_ok-bank-in-Ok.ensures.merged;
      steady = c.in-Ok.ensures.steady;
    } in
    record {
      ready = step-ready scope syntax defined pool bank c.args.cap c.len-2.result w s after step c.requires.built.ready c.requires.none_lost (c.len-2.ensures ∙ sym c.as_slice-2.ensures.len ∙ ap length c.as_slice-2.ensures.value ∙ sym (length-map c.args.begun.levels.items (level_of number))) (λ still. c.in-Ok.ensures.filled);
      indexed = step-indexed scope syntax defined pool bank c.args.cap w s after (values_for c.in_ok-bank-in-Ok.bank.table) c.in_ok-bank-in-Ok.bank.count step (ap values_for c.in_ok-bank-in-Ok.ensures.table) c.in_ok-bank-in-Ok.ensures.count;
    }

pub returns-in_ok-bank-in-Err-Enough-clause-next : goal.returns-in_ok-bank-in-Err-Enough-clause-next
returns-in_ok-bank-in-Err-Enough-clause-next g c =
    let number = g.T.Theory.denotes in
    let stop = rw c.in-Err-Enough.field-0-is at c.in-Err-Enough.ensures.stop in
    let scope = scope_of g.T.Theory.owned c.args.defs.now in
    let syntax = syntax_from number c.args.grammar.now in
    let defined = functions (bodies number c.args.defs.now) in
    let pool = vals_of number c.args.pool.now in
    let bank = merged_of number c.args.begun in
    let w : World = record { scope = scope; syntax = syntax; defined = defined; pool = pool; points = map (vals_of number) c.as_slice.result.now; levels = levels_of number c.as_slice-2.result.now; cap = c.args.cap } in
    let s = level_state_of number c.fill.new.filling in
    let after = merged_of number c.in_ok-bank-in-Err-Enough.bank in
    let step : IsStep scope syntax defined pool bank c.args.cap w s after = record {
      below = omega (arith, c.requires.open, length-map c.args.begun.levels.items (level_of number));
      same = rw (c.as_slice.ensures, c.as_slice-2.ensures.value) refl;
      is = c.in_ok-bank-in-Err-Enough.ensures.merged;
      steady = stop.0;
    } in
    step-next scope syntax defined pool bank c.args.cap w s after step

pub returns-in_ok-bank-in-Err-Enough-clause-built : goal.returns-in_ok-bank-in-Err-Enough-clause-built
returns-in_ok-bank-in-Err-Enough-clause-built g c =
    let number = g.T.Theory.denotes in
    let stop = rw c.in-Err-Enough.field-0-is at c.in-Err-Enough.ensures.stop in
    let scope = scope_of g.T.Theory.owned c.args.defs.now in
    let syntax = syntax_from number c.args.grammar.now in
    let defined = functions (bodies number c.args.defs.now) in
    let pool = vals_of number c.args.pool.now in
    let bank = merged_of number c.args.begun in
    let w : World = record { scope = scope; syntax = syntax; defined = defined; pool = pool; points = map (vals_of number) c.as_slice.result.now; levels = levels_of number c.as_slice-2.result.now; cap = c.args.cap } in
    let s = level_state_of number c.fill.new.filling in
    let after = merged_of number c.in_ok-bank-in-Err-Enough.bank in
    let step : IsStep scope syntax defined pool bank c.args.cap w s after = record {
      below = omega (arith, c.requires.open, length-map c.args.begun.levels.items (level_of number));
      same = rw (c.as_slice.ensures, c.as_slice-2.ensures.value) refl;
      is = c.in_ok-bank-in-Err-Enough.ensures.merged;
      steady = stop.0;
    } in
    record {
      ready = step-ready scope syntax defined pool bank c.args.cap c.len-2.result w s after step c.requires.built.ready c.requires.none_lost (c.len-2.ensures ∙ sym c.as_slice-2.ensures.len ∙ ap length c.as_slice-2.ensures.value ∙ sym (length-map c.args.begun.levels.items (level_of number))) (λ still. absurd (stop.1 still));
      indexed = step-indexed scope syntax defined pool bank c.args.cap w s after (values_for c.in_ok-bank-in-Err-Enough.bank.table) c.in_ok-bank-in-Err-Enough.bank.count step (ap values_for c.in_ok-bank-in-Err-Enough.ensures.table) c.in_ok-bank-in-Err-Enough.ensures.count;
    }

pub returns-in_ok-bank-in-Err-Full-clause-next : goal.returns-in_ok-bank-in-Err-Full-clause-next
returns-in_ok-bank-in-Err-Full-clause-next g c =
    let number = g.T.Theory.denotes in
    let stop = rw c.in-Err-Full.field-0-is at c.in-Err-Full.ensures.stop in
    let scope = scope_of g.T.Theory.owned c.args.defs.now in
    let syntax = syntax_from number c.args.grammar.now in
    let defined = functions (bodies number c.args.defs.now) in
    let pool = vals_of number c.args.pool.now in
    let bank = merged_of number c.args.begun in
    let w : World = record { scope = scope; syntax = syntax; defined = defined; pool = pool; points = map (vals_of number) c.as_slice.result.now; levels = levels_of number c.as_slice-2.result.now; cap = c.args.cap } in
    let s = level_state_of number c.fill.new.filling in
    let after = merged_of number c.in_ok-bank-in-Err-Full.bank in
    let step : IsStep scope syntax defined pool bank c.args.cap w s after = record {
      below = omega (arith, c.requires.open, length-map c.args.begun.levels.items (level_of number));
      same = rw (c.as_slice.ensures, c.as_slice-2.ensures.value) refl;
      is = c.in_ok-bank-in-Err-Full.ensures.merged;
      steady = stop.0;
    } in
    step-next scope syntax defined pool bank c.args.cap w s after step

pub returns-in_ok-bank-in-Err-Full-clause-full : goal.returns-in_ok-bank-in-Err-Full-clause-full
returns-in_ok-bank-in-Err-Full-clause-full g c =
    let number = g.T.Theory.denotes in
    let stop = rw c.in-Err-Full.field-0-is at c.in-Err-Full.ensures.stop in
    let scope = scope_of g.T.Theory.owned c.args.defs.now in
    let syntax = syntax_from number c.args.grammar.now in
    let defined = functions (bodies number c.args.defs.now) in
    let pool = vals_of number c.args.pool.now in
    let bank = merged_of number c.args.begun in
    let w : World = record { scope = scope; syntax = syntax; defined = defined; pool = pool; points = map (vals_of number) c.as_slice.result.now; levels = levels_of number c.as_slice-2.result.now; cap = c.args.cap } in
    let s = level_state_of number c.fill.new.filling in
    let after = merged_of number c.in_ok-bank-in-Err-Full.bank in
    let step : IsStep scope syntax defined pool bank c.args.cap w s after = record {
      below = omega (arith, c.requires.open, length-map c.args.begun.levels.items (level_of number));
      same = rw (c.as_slice.ensures, c.as_slice-2.ensures.value) refl;
      is = c.in_ok-bank-in-Err-Full.ensures.merged;
      steady = stop.0;
    } in
    step-full scope syntax defined pool bank c.args.cap w s after c.in-Err-Full.nonterminal (entry_of number c.in-Err-Full.next) step stop.1

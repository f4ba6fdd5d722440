use Rattle.std.proofs.Common.{◌≡◌, List, map, sym, ap, ◌∙◌}
use Rattle.std.specs.String.{string_bytes}
use Rattle.clap.specs.Words.{App, Text, app_of, fault_of, is_simple, is_simple_and_free, matches_of}
use Rattle.sygus_words.specs.CommandLine.{sygus}
use Rattle.sygus_words.proofs.Meaning.{simple, simple_and_free, no_kind}
use Rattle.sygus_words.proofs.words.parsed.Goals as goal

pub returns-in-Ok-clause-ok : goal.returns-in-Ok-clause-ok
returns-in-Ok-clause-ok c =
    let app : app_of c.in_ok-command.field-0 ≡ sygus = c.in_ok-command.ensures in
    let words : List Text = map string_bytes c.args.words.now in (
      ap (λ (a : App). fault_of a words) (sym app) ∙ c.in-Ok.ensures.kinds (ap is_simple_and_free app ∙ simple_and_free),
      (c.in-Ok.ensures.matches (ap is_simple app ∙ simple)).0 ∙ ap (λ (a : App). matches_of a words) app,
    )

pub returns-clause-refused : goal.returns-clause-refused
returns-clause-refused c = λ refused none.
    let app : app_of c.in_ok-command.field-0 ≡ sygus = c.in_ok-command.ensures in
    let words : List Text = map string_bytes c.args.words.now in
    no_kind c.in-Err.error (fault_of (app_of c.in_ok-command.field-0) words) (c.in-Err.ensures.kinds (ap is_simple_and_free app ∙ simple_and_free))
    (λ k. c.in_default.not-OutOfMemory (c.kind.ensures ∙ k)) (ap (λ (a : App). fault_of a words) app ∙ none)

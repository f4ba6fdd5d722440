use Rattle.std.proofs.Common.{map}
use Rattle.std.proofs.lemmas.Result.{err_from_is_err_and}
use Rattle.std.specs.String.{string_bytes}
use Rattle.sygus_words.proofs.Meaning.{reading, no_reading}
use Rattle.sygus_words.proofs.words.read_words.Goals as goal

pub returns-in_err-settings-clause-refused : goal.returns-in_err-settings-clause-refused
returns-in_err-settings-clause-refused c =
    let p = err_from_is_err_and c.from_residual-in_err-settings.result c.from_residual-in_err-settings.ensures.1 in
    let words = map string_bytes c.args.words.now in
    rw (p.1, p.2) (no_reading c.in_ok-matches.matches words c.in_err-settings.field-0.0 c.in_ok-matches.ensures.ok.1 c.in_err-settings.ensures.refused)

pub returns-clause-ok : goal.returns-clause-ok
returns-clause-ok c = reading c.in_ok-matches.matches (map string_bytes c.args.words.now) c.in_ok-settings.settings c.in_ok-matches.ensures.ok.0 c.in_ok-matches.ensures.ok.1 c.in_ok-settings.ensures.ok

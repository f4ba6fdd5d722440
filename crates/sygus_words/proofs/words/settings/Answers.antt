use Rattle.std.proofs.Common.{◌≡◌, codes, subst}
use Rattle.clap.specs.Words.{first_value, found_of}
use Rattle.sygus_words.specs.CommandLine.{ProofsAre}
use Rattle.sygus_words.specs.declared.settings.Mode.{Mode}
use Rattle.sygus_words.proofs.Readings.{one_mode}
use Rattle.sygus_words.proofs.words.settings.Goals as goal

pub returns-in_default-proofs-clause-refused : goal.returns-in_default-proofs-clause-refused
returns-in_default-proofs-clause-refused c _ s given =
    let value = first_value (found_of c.args.matches.now) in
    let same : s.mode ≡ c.in-Some.mode = one_mode (value (codes "mode")) (value (codes "FILE")) s.mode c.in-Some.mode given.mode c.in-Some.ensures in
    c.in_default-proofs.ensures s.proofs (subst (λ (m : Mode). ProofsAre (value (codes "proofs")) m s.proofs) same given.proofs)

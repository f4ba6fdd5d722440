-- What clap's matches say of the words.
use Rattle.std.proofs.Common.{◌≡◌, true, List, [], ◌∷◌, inl, inr, Option, refl, sym, ap, subst, ◌∙◌}
use Rattle.clap.specs.Words.{Text, fault_of, first_of, first_value, found_of, is_simple, is_simple_and_free, matches_of, rows_of}
use Rattle.clap.specs.Words.{HasKind, Kinds, kind_of}
use Rattle.clap.specs.declared.error.Error.{Error}
use Rattle.clap.specs.declared.error.kind.ErrorKind.TheVariants.{OutOfMemory}
use Rattle.clap.specs.declared.parser.matches.ArgMatches.{ArgMatches}
use Rattle.clap.proofs.OnLiterals.{clap_on_literals}
use Rattle.clap.proofs.WalkLemmas.{first_value-rows}
use Rattle.sygus_words.specs.CommandLine.{sygus, word_value, AreSettings, IsReading, WordsAreRefused}
use Rattle.sygus_words.specs.declared.settings.Settings.{Settings}
use Rattle.sygus_words.specs.declared.settings.WordFault.{WordFault}
use Rattle.sygus_words.specs.declared.settings.WordFault.TheVariants.{Refused, Want}

pub simple : is_simple sygus ≡ true
unfolding clap_on_literals
simple = refl

pub simple_and_free : is_simple_and_free sygus ≡ true
unfolding clap_on_literals
simple_and_free = refl

-- the getters read what the words give
values : (m : ArgMatches) (words : List Text) → rows_of (found_of m) ≡ matches_of sygus words → first_value (found_of m) ≡ word_value words
values m words rows = λ i name. (first_value-rows (found_of m) name ∙ ap (first_of name) rows) i

pub reading : (m : ArgMatches) (words : List Text) (s : Settings) → fault_of sygus words ≡ [] → rows_of (found_of m) ≡ matches_of sygus words → AreSettings (first_value (found_of m)) s → IsReading words s
reading m words s accepted rows given = let P : (Text → Option Text) → Type 0 = λ v. AreSettings v s in record { accepted = accepted; given = subst P (values m words rows) given }

pub no_reading : (m : ArgMatches) (words : List Text) (e : WordFault) → rows_of (found_of m) ≡ matches_of sygus words
    → ((e ≡ Refused) → (s : Settings) → AreSettings (first_value (found_of m)) s → ⊥) → WordsAreRefused words e
no_reading m words Refused rows h = λ s r. let P : (Text → Option Text) → Type 0 = λ v. AreSettings v s in h refl s (subst P (sym (values m words rows)) r.given)
no_reading m words Want rows h = tt

pub not_accepted : (words : List Text) (e : WordFault) → ((e ≡ Refused) → fault_of sygus words ≡ [] → ⊥) → WordsAreRefused words e
not_accepted words Refused h = λ s r. h refl r.accepted
not_accepted words Want h = tt

pub no_kind : (error : Error) (kinds : Kinds) → HasKind kinds error → (kind_of error ≡ OutOfMemory → ⊥) → kinds ≡ [] → ⊥
no_kind error [] (inl k) other e = other k
no_kind error [] (inr a) other e = a
no_kind error (k ∷ ks) h other e = absurd cc

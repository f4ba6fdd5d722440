-- Words have one reading.
use Rattle.std.proofs.Common.{◌≡◌, ◌<◌, ◌^◌, ℕ, List, Option, Some, None, arith, codes, get_or, nat_eq, refl, sym, ap, ◌∙◌}
use Rattle.std.specs.Prelude.{if◌then◌else◌}
use Rattle.std.specs.Fmt.{decimal}
use Rattle.std.specs.Str.Parse.{AllDigits, digits_value}
use Rattle.std.proofs.lemmas.Fmt.{digits_value-decimal}
use Rattle.std.proofs.lemmas.Str.Parse.{numerals_by_value, tells_digits}
use Rattle.clap.specs.Words.{Text}
use Rattle.sy_query_limits.specs.declared.Limits.{Limits}
use Rattle.sygus_words.specs.Numbers.{LimitIs}
use Rattle.sygus_words.specs.CommandLine.{DrillIs, ModeIs, AreLimits, IsReading, word_value}
use Rattle.sygus_words.specs.declared.settings.Mode.{Mode}
use Rattle.sygus_words.specs.declared.settings.Mode.TheVariants.{Solve, Least, Check, Recheck, Clauses, Drill}
use Rattle.sygus_words.specs.declared.settings.Settings.{Settings}

-- a spelling is that of one number
one_number : (n m : ℕ) → n < 2 ^ 64 → m < 2 ^ 64 → decimal n ≡ decimal m → n ≡ m
one_number n m lt lt' e =
    let own = numerals_by_value (AllDigits 10) tells_digits in
    sym (digits_value-decimal own n lt) ∙ ap (digits_value 10) e ∙ digits_value-decimal own m lt'

one_limit : (default greatest : ℕ) (text : Option Text) (n m : ℕ) → greatest < 2 ^ 64 → LimitIs default greatest text n → LimitIs default greatest text m → n ≡ m
one_limit default greatest None n m lt first second = first ∙ sym second
one_limit default greatest (Some text) n m lt first second = one_number n m (omega (arith, lt, first.2)) (omega (arith, lt, second.2)) (sym first.0 ∙ second.0)

-- the number that a text spells
number_in : Option Text → ℕ
number_in None = 0
number_in (Some text) = digits_value 10 text

drill_in : (file : Option Text) (n : ℕ) → DrillIs file n → n ≡ number_in file
unfolding number_in
drill_in file n is =
    let own = numerals_by_value (AllDigits 10) tells_digits in
    rw is.0 (sym (digits_value-decimal own n (omega (arith, is.1))))

-- the mode of a word, by its fourth letter, with the number of a drill
mode_by : ℕ → ℕ → Mode
mode_by letter number =
    if nat_eq letter 118 then Solve else (if nat_eq letter 115 then Least else (if nat_eq letter 99 then Check else (if nat_eq letter 104 then Recheck else (if nat_eq letter 117 then Clauses else Drill number))))

mode_in : Text → Option Text → Mode
mode_in text file = mode_by (get_or text 3 0) (number_in file)

named : (text : Text) (file : Option Text) (mode : Mode) → ModeIs (Some text) file mode → mode ≡ mode_in text file
unfolding mode_in mode_by
named text file Solve is = rw is.0 refl
named text file Least is = rw is.0 refl
named text file Check is = rw is.0 refl
named text file Recheck is = rw is.0 refl
named text file Clauses is = rw is.0 refl
named text file (Drill n) is = ap Drill (drill_in file n is.1) ∙ rw is.0 refl

pub one_mode : (text file : Option Text) (m k : Mode) → ModeIs text file m → ModeIs text file k → m ≡ k
one_mode None file m k first second = first ∙ sym second
one_mode (Some text) file m k first second = named text file m first ∙ sym (named text file k second)

one_choice : (value : Text → Option Text) (l m : Limits) → AreLimits value l → AreLimits value m → l ≡ m
one_choice value l m first second = λ i. record {
  size = one_limit 12 64 (value (codes "size")) l.size m.size (omega arith) first.size second.size i;
  rounds = one_limit 256 1024 (value (codes "rounds")) l.rounds m.rounds (omega arith) first.rounds second.rounds i;
  points = one_limit 512 1024 (value (codes "points")) l.points m.points (omega arith) first.points second.points i;
  bank = one_limit 20000 40000 (value (codes "bank")) l.bank m.bank (omega arith) first.bank second.bank i;
  weight = one_limit 400000 1000000 (value (codes "weight")) l.weight m.weight (omega arith) first.weight second.weight i;
  clauses = one_limit 100000 400000 (value (codes "clauses")) l.clauses m.clauses (omega arith) first.clauses second.clauses i;
  nodes = one_limit 4000 8000 (value (codes "nodes")) l.nodes m.nodes (omega arith) first.nodes second.nodes i;
  pivots = one_limit 10000 100000 (value (codes "pivots")) l.pivots m.pivots (omega arith) first.pivots second.pivots i;
}

-- words have one name of a file
one_file : (value : Option Text) (first second : Text) → value ≡ Some first → value ≡ Some second → first ≡ second
one_file value first second is is' = let both : Some first ≡ Some second = sym is ∙ is' in cc

-- settings of the same words are the same
pub one_reading : (words : List Text) (s t : Settings) → IsReading words s → IsReading words t → s ≡ t
one_reading words s t first second = λ i. record {
  mode = one_mode (word_value words (codes "mode")) (word_value words (codes "FILE")) s.mode t.mode first.given.mode second.given.mode i;
  limits = one_choice (word_value words) s.limits t.limits first.given.limits second.given.limits i;
  proofs = (first.given.proofs.0 ∙ sym second.given.proofs.0) i;
  file = one_file (word_value words (codes "FILE")) s.file t.file first.given.file second.given.file i;
}

use Rattle.sygus_words.proofs.Readings.{one_reading}
use Rattle.sygus_words.proofs.law.words_have_one_reading.Goals as goal

pub returns : goal.returns
returns c = one_reading

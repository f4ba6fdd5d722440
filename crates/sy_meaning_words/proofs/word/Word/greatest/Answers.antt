use Rattle.sy_meaning_words.proofs.word.Word.greatest.Goals as goal

pub returns : goal.returns
returns c = c.greatest.ensures

use Rattle.ppq_words.specs.Reading.{reading_of}
use Rattle.ppq_words.specs.Meaning.{Reads}
use Rattle.ppq_words.proofs.Told.{no_reading, one_reading}
use Rattle.ppq_words.proofs.Law.{reading_means, usage_read}
use Rattle.ppq_words.proofs.laws.words_mean.Goals as goal

pub returns-clause-meaning : goal.returns-clause-meaning
returns-clause-meaning c = reading_means c.lines_mean.ensures.number

pub returns-clause-no_reading : goal.returns-clause-no_reading
returns-clause-no_reading c = no_reading reading_of Reads (reading_means c.lines_mean.ensures.number)

pub returns-clause-one_reading : goal.returns-clause-one_reading
returns-clause-one_reading c = one_reading reading_of Reads (reading_means c.lines_mean.ensures.number)

pub returns-clause-usage : goal.returns-clause-usage
returns-clause-usage c = usage_read

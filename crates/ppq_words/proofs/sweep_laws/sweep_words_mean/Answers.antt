use Rattle.ppq_words.specs.SweepReading.{sweep_reading_of}
use Rattle.ppq_words.specs.SweepMeaning.{SweepReads}
use Rattle.ppq_words.proofs.Told.{no_reading, one_reading}
use Rattle.ppq_words.proofs.SweepLaw.{sweep_reading_means, sweep_usage_read}
use Rattle.ppq_words.proofs.sweep_laws.sweep_words_mean.Goals as goal

pub returns-clause-meaning : goal.returns-clause-meaning
returns-clause-meaning c = sweep_reading_means c.lines_mean.ensures.number

pub returns-clause-no_reading : goal.returns-clause-no_reading
returns-clause-no_reading c = no_reading sweep_reading_of SweepReads (sweep_reading_means c.lines_mean.ensures.number)

pub returns-clause-one_reading : goal.returns-clause-one_reading
returns-clause-one_reading c = one_reading sweep_reading_of SweepReads (sweep_reading_means c.lines_mean.ensures.number)

pub returns-clause-usage : goal.returns-clause-usage
returns-clause-usage c = sweep_usage_read

use Rattle.ppq_words.specs.SimReading.{sim_reading_of}
use Rattle.ppq_words.specs.SimMeaning.{SimReads}
use Rattle.ppq_words.proofs.Told.{no_reading, one_reading}
use Rattle.ppq_words.proofs.SimLaw.{sim_reading_means, sim_usage_read}
use Rattle.ppq_words.proofs.sim_laws.sim_words_mean.Goals as goal

pub returns-clause-meaning : goal.returns-clause-meaning
returns-clause-meaning c = sim_reading_means c.lines_mean.ensures.number

pub returns-clause-no_reading : goal.returns-clause-no_reading
returns-clause-no_reading c = no_reading sim_reading_of SimReads (sim_reading_means c.lines_mean.ensures.number)

pub returns-clause-one_reading : goal.returns-clause-one_reading
returns-clause-one_reading c = one_reading sim_reading_of SimReads (sim_reading_means c.lines_mean.ensures.number)

pub returns-clause-usage : goal.returns-clause-usage
returns-clause-usage c = sim_usage_read

use Rattle.ppq_words.specs.ServeReading.{serve_reading_of}
use Rattle.ppq_words.specs.ServeMeaning.{ServeReads}
use Rattle.ppq_words.proofs.Told.{no_reading, one_reading}
use Rattle.ppq_words.proofs.ServeLaw.{serve_reading_means, serve_usage_read}
use Rattle.ppq_words.proofs.serve_laws.serve_words_mean.Goals as goal

pub returns-clause-meaning : goal.returns-clause-meaning
returns-clause-meaning c = serve_reading_means c.lines_mean.ensures.number

pub returns-clause-no_reading : goal.returns-clause-no_reading
returns-clause-no_reading c = no_reading serve_reading_of ServeReads (serve_reading_means c.lines_mean.ensures.number)

pub returns-clause-one_reading : goal.returns-clause-one_reading
returns-clause-one_reading c = one_reading serve_reading_of ServeReads (serve_reading_means c.lines_mean.ensures.number)

pub returns-clause-usage : goal.returns-clause-usage
returns-clause-usage c = serve_usage_read

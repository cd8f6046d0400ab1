-- The arguments were not read, or have no reading; or the length of the file was not found, or it was swept.
use Rattle.std.proofs.Common.{◌≡◌, ◌∙◌, Some, sym, ap}
use Rattle.std.specs.Prelude.{option_map}
use Rattle.ppq_files.proofs.Asked.{asks_on}
use Rattle.ppq_words.specs.Reading.{texts_of}
use Rattle.ppq_words.specs.SweepReading.{as_sweep_reading}
use Rattle.ppq_cli.specs.SweepWords.{sweep_reading}
use Rattle.ppq_cli.proofs.FileLengths.{found_length, honest_before}
use Rattle.ppq_cli.proofs.SweepWords.{found_sweeps, memory_sweeps, unfound_sweeps, usage_sweeps}
use Rattle.ppq_cli.proofs.sweep.sweep_words.Goals as goal

pub returns-in-Err : goal.returns-in-Err
returns-in-Err g c =
    let ended = c.without_blocks in
    memory_sweeps g.L.Library g.K.Rack g.O.Sink g.K.Slot.Slot.shown c.args.words.now c.args.library.now c.args.rack.now c.args.out.now ended.result ended.ensures.end ended.ensures.none
    (λ stray. let read = c.in-Err.ensures.early stray in cc)

pub returns-in_default : goal.returns-in_default
returns-in_default g c =
    let ended = c.without_blocks-in_default in
    usage_sweeps g.L.Library g.K.Rack g.O.Sink g.K.Slot.Slot.shown c.args.words.now c.args.library.now c.args.rack.now c.args.out.now ended.result ended.ensures.end ended.ensures.none
    (sym c.in-Ok.ensures.reading ∙ ap (option_map as_sweep_reading) c.in_default.is)

pub returns-in-Ok-record_length : goal.returns-in-Ok-record_length
returns-in-Ok-record_length g c =
    let r = as_sweep_reading c.in-Some.arguments in
    let named : sweep_reading c.args.words.now ≡ Some r = sym c.in-Ok.ensures.reading ∙ ap (option_map as_sweep_reading) c.in-Some.is in
    let found = c.in-Ok-record_length.ensures.found in
    let kept = asks_on g.L.Library.told g.L.Library.replied r.edges c.record_length.ensures.library in
    let honest = honest_before g.L.Library c.args.library.now c.record_length.new.library kept.told (g.met.L.Library.truth c.record_length.new.library) in
    found_sweeps g.L.Library g.K.Rack g.O.Sink g.K.Slot.Slot.shown c.args.words.now r named c.sweep_over.result c.args.library.now c.record_length.new.library c.sweep_over.new.library c.args.rack.now c.sweep_over.new.rack c.args.out.now
    c.sweep_over.new.out c.in-Ok-record_length.bytes honest found.0 found.1 (found_length _ _ r.edges c.in-Ok-record_length.bytes honest found.0) kept c.in-Ok-record_length.ensures.counts.stays c.requires.library c.requires.rack
    c.requires.sink c.sweep_over.ensures

pub returns-in-Err-record_length : goal.returns-in-Err-record_length
returns-in-Err-record_length g c =
    let r = as_sweep_reading c.in-Some.arguments in
    let named : sweep_reading c.args.words.now ≡ Some r = sym c.in-Ok.ensures.reading ∙ ap (option_map as_sweep_reading) c.in-Some.is in
    let kept = asks_on g.L.Library.told g.L.Library.replied r.edges c.record_length.ensures.library in
    let counts = c.in-Err-record_length.ensures.counts in
    let ended = c.without_blocks-in-Err-record_length in
    unfound_sweeps g.L.Library g.K.Rack g.O.Sink g.K.Slot.Slot.shown c.args.words.now r named ended.result c.args.library.now c.record_length.new.library c.args.rack.now c.args.out.now c.in-Err-record_length.fault
    (honest_before g.L.Library c.args.library.now c.record_length.new.library kept.told (g.met.L.Library.truth c.record_length.new.library)) c.in-Err-record_length.ensures.refused kept counts.later counts.cause
    c.requires.library c.requires.rack c.requires.sink (ended.ensures.end ∙ c.end_of_length.ensures) ended.ensures.none

pub sweep_over-requires-clause-few : goal.sweep_over-requires-clause-few
sweep_over-requires-clause-few g c κs within =
    let r = as_sweep_reading c.in-Some.arguments in
    let named : sweep_reading c.args.words.now ≡ Some r = sym c.in-Ok.ensures.reading ∙ ap (option_map as_sweep_reading) c.in-Some.is in
    ((c.sweep_words_mean.ensures.meaning (texts_of c.args.words.now) r).0 named).few_nodes

use Rattle.std.proofs.Common.{◌∙◌, ℕ, sym, subst}
use Rattle.ppq_words.specs.ppq_script.Words.{words}
use Rattle.ppq_words.specs.ppq_script.Lines.{head_of}
use Rattle.ppq_words.specs.Reading.{as_reading, sizes_at}
use Rattle.ppq_words.proofs.ppq_script.WordLaws.{laws_of}
use Rattle.ppq_cli.specs.Replies.{IsScript, IsRefused}
use Rattle.ppq_cli.proofs.Bytes.{refused_bytes, run_bytes}
use Rattle.ppq_cli.proofs.Ends.{keeps}
use Rattle.ppq_cli.proofs.Heads.{wide}
use Rattle.ppq_cli.proofs.Work.{within}
use Rattle.ppq_cli.proofs.kinds.run_typed.Goals as goal

pub returns-in-Ok : goal.returns-in-Ok
returns-in-Ok g c =
    let all = words g.R.PartialEq g.R.PartialOrd g.R.Ord g.R.Record g.R.Fields in
    let is = subst (λ (w : ℕ). IsScript all (g.L.Library.told c.args.library.now) (g.L.Library.replied c.read_script.new.library) c.args.bytes.now w c.in-Ok.script) c.workers-workers.ensures c.in-Ok.ensures.script in
    let few = within all (laws_of all c.fields_laws.ensures c.record_laws.ensures.same) (g.L.Library.told c.args.library.now) (g.L.Library.replied c.read_script.new.library) c.args.bytes.now c.args.arguments.now.given.numbers.workers c.in-Ok.script c.requires.short is (sizes_at all.WIDTH (as_reading c.args.arguments.now)) _ c.run_over.ensures.transfers.few c.run_over.ensures.transfers.each in
    run_bytes all g.L.Library g.K.Rack g.O.Sink g.K.Slot.Slot.shown (as_reading c.args.arguments.now) c.args.bytes.now c.args.library.now c.read_script.new.library c.run_over.new.library c.args.rack.now c.run_over.new.rack
    c.args.out.now c.run_over.new.out c.run_over.result c.in-Ok.script is c.read_script.ensures.library c.in-Ok.ensures.asked c.in-Ok.ensures.counts.stays c.run_over.ensures.written c.run_over.ensures.outside few c.run_over.ensures.asks c.run_over.ensures.ends

pub returns-in-Err : goal.returns-in-Err
returns-in-Err g c =
    let all = words g.R.PartialEq g.R.PartialOrd g.R.Ord g.R.Record g.R.Fields in
    let refused = subst (λ (w : ℕ). IsRefused all (g.L.Library.told c.args.library.now) (g.L.Library.replied c.read_script.new.library) c.args.bytes.now w c.in-Err.fault) c.workers-workers.ensures c.in-Err.ensures.refused in
    refused_bytes all g.L.Library g.K.Rack g.O.Sink g.K.Slot.Slot.shown (as_reading c.args.arguments.now) c.args.bytes.now c.args.library.now c.read_script.new.library c.args.rack.now c.args.out.now c.without_blocks.result
    c.read_script.result c.in-Err.fault c.in-Err.is (c.without_blocks.ensures.end ∙ c.end_of_check.ensures) c.without_blocks.ensures.none refused c.read_script.ensures.library c.read_script.ensures.counts

pub run_over-requires-clause-lengths : goal.run_over-requires-clause-lengths
run_over-requires-clause-lengths g c = λ lifetimes outlives files is.
    let all = words g.R.PartialEq g.R.PartialOrd g.R.Ord g.R.Record g.R.Fields in
    keeps all (g.L.Library.told c.args.library.now) (g.L.Library.replied c.read_script.new.library) c.args.bytes.now c.workers-workers.result c.in-Ok.script c.in-Ok.ensures.script files (sym c.read_script.ensures.library.told ∙ is)

pub run_over-requires-clause-width : goal.run_over-requires-clause-width
run_over-requires-clause-width g c = λ lifetimes outlives.
    let all = words g.R.PartialEq g.R.PartialOrd g.R.Ord g.R.Record g.R.Fields in
    wide all (head_of c.args.bytes.now) c.requires.typed c.fields_laws.ensures.width

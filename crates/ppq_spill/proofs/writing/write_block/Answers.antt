use Rattle.std.proofs.Common.{◌≡◌, Ok, sym, ◌∙◌, refl}
use Rattle.ppq_spill.proofs.Written.{block_stored, some_is}
use Rattle.ppq_spill.proofs.writing.write_block.Goals as goal

pub returns-in-Ok-clause-outcome : goal.returns-in-Ok-clause-outcome
returns-in-Ok-clause-outcome g c =
    let done = c.run_job.ensures in
    let is : done.answer ≡ Ok c.in-Ok.field-0 = some_is c.in-Some.answer done.answer c.in-Some.answer (sym done.done ∙ c.in-Some.is) ∙ c.in-Ok.is in
    block_stored g.R.Record.bytes_of g.R.Record.record_of g.R.Record.WIDTH g.S.Slot.shown done.answer c.in-Ok.field-0 is c.args.berth.slot c.run_job.new.job.slot.slot c.args.buf c.run_job.new.job.buf done.does
    c.args.array.now c.append.new.self _ c.append.ensures refl c.len-count.ensures.len

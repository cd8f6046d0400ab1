use Rattle.std.proofs.Common.{◌*◌, sym, ap, ap₂, ◌∙◌}
use Rattle.ppq_record.specs.Given.{records_from}
use Rattle.ppq_block.specs.Block.{block_of, holding}
use Rattle.ppq_block.proofs.Buffers.{content-left_behind}
use Rattle.ppq_block.proofs.block_buf.BlockBuf.copy_from.Goals as goal

pub copy_from_slice-requires : goal.copy_from_slice-requires
copy_from_slice-requires g c = c.bytes_mut-into.ensures.length ∙ sym (c.bytes-bytes.ensures.length ∙ ap (λ k. k * g.R.Record.WIDTH) c.requires.block)

pub returns : goal.returns
returns g c =
    let f = g.R.Record.record_of in
    let w = g.R.Record.WIDTH in
    let other = c.args.other.now in
    let read = content-left_behind g.R.Record.bytes_of w c.args.self.now c.copy_from_slice.new.self (c.copy_from_slice.ensures.len ∙ c.bytes_mut-into.ensures.length) in
    c.refill.ensures
    ∙ ap₂ (λ b xs. holding b xs) (sym c.requires.block)
    (ap (records_from f w c.len.result) (read ∙ c.copy_from_slice.ensures.after)
    ∙ ap (λ k. records_from f w k c.bytes-bytes.result.now) c.len.ensures.len
    ∙ c.bytes-bytes.ensures.back)
    ∙ ap (λ r. block_of other.block other.items r) (sym c.requires.settled)

use Rattle.std.proofs.Common.{◌<◌, ◌*◌, All, length, sym, ap, ◌∙◌, subst}
use Rattle.ppq_record.specs.Given.{records_from}
use Rattle.ppq_block.proofs.Buffers.{block-is, padded-is, records-items}
use Rattle.ppq_block.proofs.buffer.Buffer.bytes.Goals as goal

pub returns-clause-length : goal.returns-clause-length
returns-clause-length g c =
    let s = c.self.inside in
    ap length c.as_slice-bytes.ensures.value ∙ c.self.invariant.whole ∙ ap (λ k. k * g.R.Record.WIDTH) (sym (block-is g.R.Record.record_of g.R.Record.WIDTH s.block s.count s.bytes.items c.args.self.now s.settled c.self.view_is))

pub returns-clause-bytes : goal.returns-clause-bytes
returns-clause-bytes g c =
    let s = c.self.inside in
    let below : All (λ x. x < 256) s.bytes.items = subst (All (λ x. x < 256)) c.as_slice-bytes.ensures.value c.known_bytes.ensures in
    c.as_slice-bytes.ensures.value
    ∙ sym (padded-is g.R.Record.record_of g.R.Record.WIDTH s.block s.count s.bytes.items c.args.self.now g.R.Record.bytes_of c.record_laws.ensures.put_take below s.settled c.self.view_is c.self.invariant c.requires)

pub returns-clause-back : goal.returns-clause-back
returns-clause-back g c =
    let s = c.self.inside in
    ap (records_from g.R.Record.record_of g.R.Record.WIDTH (length c.args.self.now.items)) c.as_slice-bytes.ensures.value
    ∙ records-items g.R.Record.record_of g.R.Record.WIDTH s.block s.count s.bytes.items c.args.self.now s.settled c.self.view_is c.requires

use Rattle.std.proofs.Common.{refl, arith}
use Rattle.std.specs.Int.{w64, to_be_bytes}
use Rattle.ppq_engine.proofs.Texts.{frame-made}
use Rattle.ppq_engine.proofs.print.gather_drained_frame.Goals as goal

pub returns : goal.returns
returns g c =
    let laws = c.record_laws.ensures in
    frame-made c.args.gathered.now c.gather_head.new.gathered c.gather_word.new.gathered c.gather_record_bytes.new.gathered c.gather_record_bytes-2.new.gathered c.gather_word-2.new.gathered (to_be_bytes w64 c.args.count) (g.R.Record.bytes_of c.args.first) (g.R.Record.bytes_of c.args.last) (to_be_bytes w64 c.args.sum) c.WIDTH.result
    refl (omega (arith, laws.bytes_length c.args.first, c.WIDTH.ensures)) (omega (arith, laws.bytes_length c.args.last, c.WIDTH.ensures)) refl c.gather_head.ensures.text c.gather_word.ensures.text c.gather_record_bytes.ensures.text c.gather_record_bytes-2.ensures.text c.gather_word-2.ensures.text

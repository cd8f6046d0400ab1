use Rattle.ppq_raw.proofs.Claimed.{cut_takes}
use Rattle.ppq_raw.proofs.device_file.take_plain.Goals as goal

pub returns-then-lock : goal.returns-then-lock
returns-then-lock g c =
    cut_takes (g.F.RawFile.called c.args.file.now) (g.F.RawFile.called c.lock.new.self) (g.F.RawFile.called c.cut.new.self) c.lock.result c.cut.result c.if-lock.true c.lock.ensures.called c.cut.ensures.called

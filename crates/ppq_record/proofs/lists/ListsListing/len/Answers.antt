use Rattle.std.proofs.Common.{length, ap}
use Rattle.ppq_record.proofs.Listed.{run_is}
use Rattle.ppq_record.proofs.lists.ListsListing.len.Goals as goal

pub returns : goal.returns
returns g c = ap length (run_is (λ v. v.items) c.args.self.now.lists.now c.args.run c.index-self-run.result c.as_slice.result.now c.requires c.as_slice.ensures.value)

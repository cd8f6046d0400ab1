use Rattle.std.proofs.Common.{◌≡◌, ◌+◌, take}
use Rattle.ppq_split.specs.ppq_record.Order.{is_before}
use Rattle.ppq_merge.specs.Heads.{heads, IsMerging, LeadsToCut}
use Rattle.ppq_merge.specs.Parts.{AreParts, size_between, between}
use Rattle.ppq_merge.proofs.merge.merge_front.Given as goal

abbrev pub invariant-loop-at : goal.invariant-loop-at
invariant-loop-at g l =
    let qs = g.Q.Listing.lists l.runs in
    let lt = is_before g.R.Ord.cmp in
    record {
      parts : AreParts l.from l.to qs;
      heads : l.tree.items ≡ heads l.from l.to qs;
      room : l.tree.room ≡ l.fn.tree.room;
      left : l.at + size_between l.from l.to ≡ size_between l.fn.from l.to;
      merging : IsMerging lt qs (take l.at l.out) (between l.from l.to qs) (between l.fn.from l.to qs);
      cut : LeadsToCut lt qs l.to l.fn.from l.from;
    }

use Rattle.std.proofs.Common.{◌∙◌}
use Rattle.ppq_extract.proofs.Removing.{lost_more, All_lost}
use Rattle.ppq_extract.proofs.emptied.drop_emptied.Goals as goal

pub loop-at-preserved : goal.loop-at-preserved
loop-at-preserved g c =
    let now = c.loop-at.invariant in
    let then = c.drop_if_emptied.ensures in
    record {
      within = then.within;
      settled = All_lost g.Q.Emptied.is_empty c.loop-at.runs.items c.drop_if_emptied.new.runs.items then.lost g.Q.Emptied.is_settled now.settled;
      lost = lost_more g.Q.Emptied.is_empty c.args.runs.now.items c.loop-at.runs.items c.drop_if_emptied.new.runs.items now.lost then.lost;
      after = then.after;
      room = then.room ∙ now.room;
    }

use Rattle.std.proofs.Common.{◌≡◌, ◌++◌, List, length}
use Rattle.ppq_session.specs.Dealing.{IsGoing}
use Rattle.ppq_session.specs.SessionPass.{Takes}
use Rattle.ppq_session.proofs.dealing.add_made.Given as goal

abbrev pub invariant-making : goal.invariant-making
invariant-making g l = record {
  going : IsGoing l.pass;
  takes : (done : List g.row.R.Denot) × ((g.M.Maker.rest l.fn.maker ≡ done ++ g.M.Maker.rest l.maker) × Takes g.S.Slot.shown g.R.Ord.cmp done l.fn.pass l.pass);
}

abbrev pub decreases-making : goal.decreases-making
decreases-making g l = length (g.M.Maker.rest l.maker)

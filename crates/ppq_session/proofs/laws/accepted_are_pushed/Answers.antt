use Rattle.ppq_session.proofs.Pushes as pushes
use Rattle.ppq_session.proofs.laws.accepted_are_pushed.Goals as goal

pub returns : goal.returns
returns g c = record {
  none = pushes.none_pushed g.S.Slot.shown;
  given = pushes.given_pushed g.S.Slot.shown;
  added = pushes.pushed_added g.S.Slot.shown;
  anywhere = pushes.stand_anywhere;
}

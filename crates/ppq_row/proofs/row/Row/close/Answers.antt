use Rattle.std.proofs.Common.{◌∙◌, ap}
use Rattle.ppq_row.proofs.Ends.{ends}
use Rattle.ppq_row.proofs.row.Row.close.Goals as goal

pub items_from-requires-clause-room : goal.items_from-requires-clause-room
items_from-requires-clause-room g c = let e = ends _ _ _ c.args.seat.hand _ _ c.word-drawn.result (ap (λ s. s.hand) c.seat.view_is) c.requires.shares c.close_with-closed.ensures.values.2 c.word-drawn.ensures in (_, e.room)

pub returns : goal.returns
returns g c = let e = ends _ _ _ c.args.seat.hand _ _ c.word-drawn.result (ap (λ s. s.hand) c.seat.view_is) c.requires.shares c.close_with-closed.ensures.values.2 c.word-drawn.ensures in record {
  left = c.items_from.ensures _ e.room ∙ e.left;
  each_once = e.each_once;
  noted = λ n. c.items_from.ensures _ e.room ∙ e.left ∙ e.none_left n;
}

use Rattle.std.proofs.Common.{◌≡◌, ◌+◌, ◌-◌, ◌/◌, length, get_or, arith, refl}
use Rattle.ppq_merge.proofs.Pieces.{Fill-halves, Fill-one, Pieces-one, Pieces-append}
use Rattle.ppq_merge.proofs.Seats.{keep_halves, keep_one}
use Rattle.ppq_merge.proofs.halves.+halves.Goals as goal

pub merge_pieces-merge_piece-requires-clause-between :
    goal.merge_pieces-merge_piece-requires-clause-between
merge_pieces-merge_piece-requires-clause-between g t c κs within =
    (Fill-one _ _ c.args.seats.now _ _ c.requires.fill c.if-count-eq1.true).0

pub merge_pieces-merge_piece-requires-clause-room :
    goal.merge_pieces-merge_piece-requires-clause-room
merge_pieces-merge_piece-requires-clause-room g t c κs within =
    (Fill-one _ _ c.args.seats.now _ _ c.requires.fill c.if-count-eq1.true).1

pub merge_pieces-returns-then-count-eq1 : goal.merge_pieces-returns-then-count-eq1
merge_pieces-returns-then-count-eq1 g t c = record {
  pieces = Pieces-one _ _ c.args.seats.now _ _ c.if-count-eq1.true c.merge_piece.ensures.merge;
  kept = keep_one c.args.seats.now 0 c.index-seats-0.result c.merge_piece.new.seat c.requires.some c.merge_piece.ensures.kept;
}

pub merge_pieces-overflow_sub-end-2 : goal.merge_pieces-overflow_sub-end-2
merge_pieces-overflow_sub-end-2 g t c =
    (Fill-halves _ _ c.args.seats.now _ (length c.args.seats.now / 2) _ c.index-seats-middle.result c.requires.fill (omega arith) (omega arith) refl).0

pub merge_pieces-split_at_mut-low_out-requires : goal.merge_pieces-split_at_mut-low_out-requires
merge_pieces-split_at_mut-low_out-requires g t c =
    let h = Fill-halves _ _ c.args.seats.now _ (length c.args.seats.now / 2) _ c.index-seats-middle.result c.requires.fill (omega arith) (omega arith) refl in
    omega (arith, h.1)

pub merge_pieces-merge_both-requires-clause-low : goal.merge_pieces-merge_both-requires-clause-low
merge_pieces-merge_both-requires-clause-low g t c κs within =
    let h = Fill-halves _ _ c.args.seats.now _ (length c.args.seats.now / 2) _ c.index-seats-middle.result c.requires.fill (omega arith) (omega arith) refl in
    let cut = c.split_at_mut-low_seats.ensures in
    let e : c.args.section.now.base + length c.split_at_mut-low_out.result.0.now ≡ (get_or c.args.seats.now (length c.args.seats.now / 2 - 1) c.index-seats-middle.result).end = omega (arith, h.0, h.1, c.split_at_mut-low_out.ensures.front_len) in
    record {
      some = omega (arith, cut.front_len);
      numbers = omega (arith, cut.front_len, c.requires.numbers);
      fill = rw (cut.front, e) h.2;
    }

pub merge_pieces-merge_both-requires-clause-high : goal.merge_pieces-merge_both-requires-clause-high
merge_pieces-merge_both-requires-clause-high g t c κs within =
    let h = Fill-halves _ _ c.args.seats.now _ (length c.args.seats.now / 2) _ c.index-seats-middle.result c.requires.fill (omega arith) (omega arith) refl in
    let cut = c.split_at_mut-low_seats.ensures in
    let e : (get_or c.args.seats.now (length c.args.seats.now / 2 - 1) c.index-seats-middle.result).end + length c.split_at_mut-low_out.result.1.now ≡ c.args.section.now.base + length c.args.out.now = omega (arith, h.0, h.1, c.split_at_mut-low_out.ensures.back_len) in
    record {
      some = omega (arith, cut.back_len);
      numbers = omega (arith, cut.back_len, c.requires.numbers);
      fill = rw (cut.back, e) h.3;
    }

pub merge_pieces-returns : goal.merge_pieces-returns
merge_pieces-returns g t c =
    let cut = c.split_at_mut-low_seats.ensures in
    let both = c.merge_both.ensures in
    record {
      pieces = rw cut.value (Pieces-append _ _ _ _ _ _ both.low.pieces both.high.pieces);
      kept = keep_halves c.args.seats.now (length c.args.seats.now / 2) _ _ c.merge_both.new.low_seats c.merge_both.new.high_seats cut.front cut.back both.low.kept both.high.kept;
    }

pub merge_both-join_mut+arg2-slice_bounds-low_seats-end : goal.merge_both-join_mut+arg2-slice_bounds-low_seats-end
merge_both-join_mut+arg2-slice_bounds-low_seats-end g t c = assumption

pub merge_both-join_mut+arg2-slice_bounds-low_out-end : goal.merge_both-join_mut+arg2-slice_bounds-low_out-end
merge_both-join_mut+arg2-slice_bounds-low_out-end g t c = assumption

pub merge_both-join_mut+arg2-merge_pieces-requires-send-R : goal.merge_both-join_mut+arg2-merge_pieces-requires-send-R
merge_both-join_mut+arg2-merge_pieces-requires-send-R g t c = assumption

pub merge_both-join_mut+arg2-merge_pieces-requires-sync-H : goal.merge_both-join_mut+arg2-merge_pieces-requires-sync-H
merge_both-join_mut+arg2-merge_pieces-requires-sync-H g t c = assumption

pub merge_both-join_mut+arg2-merge_pieces-requires-sync-Q : goal.merge_both-join_mut+arg2-merge_pieces-requires-sync-Q
merge_both-join_mut+arg2-merge_pieces-requires-sync-Q g t c = assumption

pub merge_both-join_mut+arg2-merge_pieces-requires-sync-G : goal.merge_both-join_mut+arg2-merge_pieces-requires-sync-G
merge_both-join_mut+arg2-merge_pieces-requires-sync-G g t c = assumption

pub merge_both-join_mut+arg2-merge_pieces-requires-after_bounds : goal.merge_both-join_mut+arg2-merge_pieces-requires-after_bounds
merge_both-join_mut+arg2-merge_pieces-requires-after_bounds g t c = assumption

pub merge_both-join_mut+arg2-returns : goal.merge_both-join_mut+arg2-returns
merge_both-join_mut+arg2-returns g t c = assumption

pub merge_both-join_mut+arg3-slice_bounds-high_seats-end : goal.merge_both-join_mut+arg3-slice_bounds-high_seats-end
merge_both-join_mut+arg3-slice_bounds-high_seats-end g t c = assumption

pub merge_both-join_mut+arg3-slice_bounds-high_out-end : goal.merge_both-join_mut+arg3-slice_bounds-high_out-end
merge_both-join_mut+arg3-slice_bounds-high_out-end g t c = assumption

pub merge_both-join_mut+arg3-merge_pieces-requires-send-R : goal.merge_both-join_mut+arg3-merge_pieces-requires-send-R
merge_both-join_mut+arg3-merge_pieces-requires-send-R g t c = assumption

pub merge_both-join_mut+arg3-merge_pieces-requires-sync-H : goal.merge_both-join_mut+arg3-merge_pieces-requires-sync-H
merge_both-join_mut+arg3-merge_pieces-requires-sync-H g t c = assumption

pub merge_both-join_mut+arg3-merge_pieces-requires-sync-Q : goal.merge_both-join_mut+arg3-merge_pieces-requires-sync-Q
merge_both-join_mut+arg3-merge_pieces-requires-sync-Q g t c = assumption

pub merge_both-join_mut+arg3-merge_pieces-requires-sync-G : goal.merge_both-join_mut+arg3-merge_pieces-requires-sync-G
merge_both-join_mut+arg3-merge_pieces-requires-sync-G g t c = assumption

pub merge_both-join_mut+arg3-merge_pieces-requires-after_bounds : goal.merge_both-join_mut+arg3-merge_pieces-requires-after_bounds
merge_both-join_mut+arg3-merge_pieces-requires-after_bounds g t c = assumption

pub merge_both-join_mut+arg3-returns : goal.merge_both-join_mut+arg3-returns
merge_both-join_mut+arg3-returns g t c = assumption

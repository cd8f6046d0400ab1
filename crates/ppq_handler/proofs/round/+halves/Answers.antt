-- The parts of two halves, and what they answered.
use Rattle.std.proofs.Common.{◌+◌, sym, arith}
use Rattle.ppq_handler.proofs.Halves.{begin_within, in_half, low_half, high_half, joined_parts}
use Rattle.ppq_handler.proofs.round.+halves.Goals as goal

pub answer_part-answer_all-requires-clause-places : goal.answer_part-answer_all-requires-clause-places
answer_part-answer_all-requires-clause-places g t c =
    let p = c.requires.part in
    let part = c.args.part.now in
    omega (arith, p.end, begin_within part.workers part.peers (part.first + part.count) p.numbers)

pub answer_part-split_at_mut-low_places-requires : goal.answer_part-split_at_mut-low_places-requires
answer_part-split_at_mut-low_places-requires g t c =
    let h = in_half _ _ _ _ _ _ c.begin-cut.result c.requires.part c.begin-cut.ensures in
    omega (arith, h.1)

pub answer_part-answer_both-requires-clause-low : goal.answer_part-answer_both-requires-clause-low
answer_part-answer_both-requires-clause-low g t c κs within =
    low_half _ _ _ _ _ _ c.begin-cut.result c.requires.part c.begin-cut.ensures _ c.if-count-eq1.false c.split_at_mut-low_places.ensures.front_len

pub answer_part-answer_both-requires-clause-high : goal.answer_part-answer_both-requires-clause-high
answer_part-answer_both-requires-clause-high g t c κs within =
    high_half _ _ _ _ _ _ c.begin-cut.result c.requires.part c.begin-cut.ensures _ c.split_at_mut-low_places.ensures.back_len

pub answer_part-returns : goal.answer_part-returns
answer_part-returns g t c =
    let h = in_half _ _ _ _ _ _ c.begin-cut.result c.requires.part c.begin-cut.ensures in
    let seats = c.split_at_mut-low_places.ensures in
    let events = c.split_at.ensures in
    let both = c.answer_both.ensures in
    joined_parts _ _ _ c.begin-cut.result c.first_from-at.result _ _ c.args.places.now c.answer_both.new.low_places c.answer_both.new.high_places c.answer_both.new.low_answers c.answer_both.new.high_answers c.first_from-at.ensures h.0 h.1
    (rw (sym seats.front, sym events.front) both.low)
    (rw (sym seats.back, sym events.back) both.high)

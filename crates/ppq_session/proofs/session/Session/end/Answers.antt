use Rattle.std.proofs.Common.{List, All, subst, arith}
use Rattle.std.specs.Prelude.{Any, None, Ok, Err, ⊤}
use Rattle.ppq_queue.specs.Holding.{Holding}
use Rattle.ppq_pass.specs.ppq_array.declared.store_fault.StoreFault.TheVariants.{NoFreeBlock}
use Rattle.ppq_session.specs.BulkSession.{of_bulk}
use Rattle.ppq_session.specs.Ends.{EndsWith, NamesFirst}
use Rattle.ppq_session.specs.Dealing.{IsGoing, HasEnded}
use Rattle.ppq_session.specs.Sessions.{InSession, IsLoaded, IsLeftBy}
use Rattle.ppq_session.proofs.Sessions.{left-stopped, first-whole, first-stopped, loaded-whole, loaded-short, loaded-stopped}
use Rattle.ppq_session.proofs.session.Session.end.Goals as goal

pub returns-in-Stopped : goal.returns-in-Stopped
returns-in-Stopped g c =
    let shown = g.S.Slot.shown in
    let s = c.self.inside in
    let e = c.bulk_end-queue.ensures in
    let new = c.bulk_end-queue.result.0 in
    let end = subst (EndsWith shown (of_bulk s.bulk) s.passes.items new) c.in-Stopped.is e.end_is in
    record {
      all = tt;
      loaded = subst (λ old. (queue : Holding g.row.R.Denot) → (records : List g.row.R.Denot) → InSession shown queue records old → IsLoaded {T = ⊤} queue records new (Err c.in-Stopped.fault)) c.self.view_is
          (λ queue records i. loaded-stopped shown queue records s.bulk s.passes.items i new c.bulk_end-queue.result.1 e c.in-Stopped.fault end (omega (arith, c.known.ensures.range.two_records)));
      left = subst (λ old. IsLeftBy shown old new c.in-Stopped.fault) c.self.view_is (left-stopped shown s.bulk s.passes.items new c.in-Stopped.fault end);
      first = subst (λ old. NamesFirst {T = ⊤} old.passes None (Err c.in-Stopped.fault)) c.self.view_is (first-stopped s.passes.items None c.bulk_end-queue.result.1 e.first c.in-Stopped.fault c.in-Stopped.is);
    }

pub returns-in-Whole : goal.returns-in-Whole
returns-in-Whole g c =
    let shown = g.S.Slot.shown in
    let s = c.self.inside in
    let e = c.bulk_end-queue.ensures in
    let new = c.bulk_end-queue.result.0 in
    let end = subst (EndsWith shown (of_bulk s.bulk) s.passes.items new) c.in-Whole.is e.end_is in
    let going = subst (λ ps. All IsGoing ps) c.as_slice.ensures.value (c.are_going-all.ensures.all.0 c.if-all.true) in
    record {
      all = subst (λ old. All IsGoing old.passes) c.self.view_is going;
      loaded = subst (λ old. (queue : Holding g.row.R.Denot) → (records : List g.row.R.Denot) → InSession shown queue records old → IsLoaded queue records new (Ok tt)) c.self.view_is
          (λ queue records i. loaded-whole shown queue records s.bulk s.passes.items i new c.bulk_end-queue.result.1 e tt end going);
      left = tt;
      first = subst (λ old. NamesFirst old.passes None (Ok tt)) c.self.view_is (first-whole s.passes.items None c.bulk_end-queue.result.1 e.first c.in-Whole.is);
    }

pub returns-in-Whole-2 : goal.returns-in-Whole-2
returns-in-Whole-2 g c =
    let shown = g.S.Slot.shown in
    let s = c.self.inside in
    let e = c.bulk_end-queue.ensures in
    let new = c.bulk_end-queue.result.0 in
    let end = subst (EndsWith shown (of_bulk s.bulk) s.passes.items new) c.in-Whole-2.is e.end_is in
    let ended = subst (λ ps. Any HasEnded ps) c.as_slice.ensures.value (c.are_going-all.ensures.ended c.if-all.false) in
    record {
      all = tt;
      loaded = subst (λ old. (queue : Holding g.row.R.Denot) → (records : List g.row.R.Denot) → InSession shown queue records old → IsLoaded {T = ⊤} queue records new (Err NoFreeBlock)) c.self.view_is
          (λ queue records i. loaded-short shown queue records s.bulk s.passes.items i new c.bulk_end-queue.result.1 e end (omega (arith, c.known.ensures.range.two_records)) ended);
      left = subst (λ old. IsLeftBy shown old new NoFreeBlock) c.self.view_is end;
      first = subst (λ old. NamesFirst {T = ⊤} old.passes None (Err NoFreeBlock)) c.self.view_is (first-whole s.passes.items None c.bulk_end-queue.result.1 e.first c.in-Whole-2.is);
    }

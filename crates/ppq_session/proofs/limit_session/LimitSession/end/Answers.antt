use Rattle.std.proofs.Common.{◌≡◌, ◌+◌, List, All, subst, arith}
use Rattle.std.specs.Prelude.{Any, Ok, Err, ⊤, ℕ}
use Rattle.std.proofs.lemmas.List.Elements.{All-map}
use Rattle.ppq_queue.specs.Holding.{Holding}
use Rattle.ppq_pass.specs.ppq_array.declared.store_fault.StoreFault.TheVariants.{NoFreeBlock}
use Rattle.ppq_session.specs.Dealing.{IsGoing, HasEnded}
use Rattle.ppq_session.specs.Ends.{EndsWith, NamesFirst, accepted_of}
use Rattle.ppq_session.specs.Limited.{LimitHolding, passes_of}
use Rattle.ppq_session.specs.LimitSession.{of_front}
use Rattle.ppq_session.specs.LimitSessions.{InLimits, IsOver, IsOverBy, AreGoing}
use Rattle.ppq_session.proofs.LimitSessions.{over-whole, over-short, over-stopped, over-by}
use Rattle.ppq_session.proofs.Sessions.{first-whole, first-stopped}
use Rattle.ppq_session.proofs.Mapped.{any_mapped}
use Rattle.ppq_session.proofs.limit_session.LimitSession.end.Goals as goal

pub returns-in-Stopped : goal.returns-in-Stopped
returns-in-Stopped g c =
    let shown = g.S.Slot.shown in
    let s = c.self.inside in
    let passes = s.passes.items in
    let e = c.limit_end-queue.ensures in
    let new = c.limit_end-queue.result.0 in
    let fault = c.in-Stopped.fault in
    let end = subst (EndsWith shown (of_front s.front) (passes_of passes) new) c.in-Stopped.is e.end_is in
    record {
      all = tt;
      over = subst (λ old. (queue : Holding g.row.R.Denot) (limit : g.row.R.Denot) (given left : List g.row.R.Denot) (popped : ℕ) → InLimits shown queue limit given left popped old → IsOver {T = ⊤} queue given left popped new (Err fault)) c.self.view_is
          (λ queue limit given left popped i. over-stopped shown queue limit given left popped s.front passes i new c.limit_end-queue.result.1 e fault end (omega (arith, c.known.ensures.range.two_records)));
      size = tt;
      left = subst (λ old. IsOverBy shown old new fault) c.self.view_is (over-by shown s.front passes new fault end);
      first = subst (λ old. NamesFirst {T = ⊤} (passes_of old.passes) old.front.failed (Err fault)) c.self.view_is (first-stopped (passes_of passes) s.front.failed c.limit_end-queue.result.1 e.first fault c.in-Stopped.is);
    }

pub returns-in-Whole : goal.returns-in-Whole
returns-in-Whole g c =
    let shown = g.S.Slot.shown in
    let s = c.self.inside in
    let passes = s.passes.items in
    let e = c.limit_end-queue.ensures in
    let new = c.limit_end-queue.result.0 in
    let end = subst (EndsWith shown (of_front s.front) (passes_of passes) new) c.in-Whole.is e.end_is in
    let pass_in = λ (p : LimitHolding g.row.S.Denot g.row.R.Denot). p.pass in
    let going = All-map IsGoing pass_in passes (subst (All (λ (p : LimitHolding g.row.S.Denot g.row.R.Denot). IsGoing p.pass)) c.as_slice.ensures.value (c.limited_are_going-all.ensures.all.0 c.if-all.true)) in
    record {
      all = subst (λ old. AreGoing old) c.self.view_is (record { passes = going; front = end.no_fault.0 });
      over = subst (λ old. (queue : Holding g.row.R.Denot) (limit : g.row.R.Denot) (given left : List g.row.R.Denot) (popped : ℕ) → InLimits shown queue limit given left popped old → IsOver queue given left popped new (Ok tt)) c.self.view_is
          (λ queue limit given left popped i. over-whole shown queue limit given left popped s.front passes i new c.limit_end-queue.result.1 e tt end going);
      size = subst (λ old. new.size ≡ old.front.size + accepted_of (passes_of old.passes)) c.self.view_is end.size;
      left = tt;
      first = subst (λ old. NamesFirst (passes_of old.passes) old.front.failed (Ok tt)) c.self.view_is (first-whole (passes_of passes) s.front.failed c.limit_end-queue.result.1 e.first c.in-Whole.is);
    }

pub returns-in-Whole-2 : goal.returns-in-Whole-2
returns-in-Whole-2 g c =
    let shown = g.S.Slot.shown in
    let s = c.self.inside in
    let passes = s.passes.items in
    let e = c.limit_end-queue.ensures in
    let new = c.limit_end-queue.result.0 in
    let end = subst (EndsWith shown (of_front s.front) (passes_of passes) new) c.in-Whole-2.is e.end_is in
    let pass_in = λ (p : LimitHolding g.row.S.Denot g.row.R.Denot). p.pass in
    let ended = any_mapped pass_in HasEnded passes (subst (Any (λ (p : LimitHolding g.row.S.Denot g.row.R.Denot). HasEnded p.pass)) c.as_slice.ensures.value (c.limited_are_going-all.ensures.ended c.if-all.false)) in
    record {
      all = tt;
      over = subst (λ old. (queue : Holding g.row.R.Denot) (limit : g.row.R.Denot) (given left : List g.row.R.Denot) (popped : ℕ) → InLimits shown queue limit given left popped old → IsOver {T = ⊤} queue given left popped new (Err NoFreeBlock)) c.self.view_is
          (λ queue limit given left popped i. over-short shown queue limit given left popped s.front passes i new c.limit_end-queue.result.1 e end (omega (arith, c.known.ensures.range.two_records)) ended);
      size = tt;
      left = subst (λ old. IsOverBy shown old new NoFreeBlock) c.self.view_is end;
      first = subst (λ old. NamesFirst {T = ⊤} (passes_of old.passes) old.front.failed (Err NoFreeBlock)) c.self.view_is (first-whole (passes_of passes) s.front.failed c.limit_end-queue.result.1 e.first c.in-Whole-2.is);
    }

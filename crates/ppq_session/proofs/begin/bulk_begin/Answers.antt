use Rattle.std.proofs.Common.{◌≡◌, ℕ, Err, refl, sym, ap₂, ◌∙◌, subst}
use Rattle.ppq_queue.specs.Holding.{Holding, MetFault, IsRefusal}
use Rattle.ppq_session.specs.Opened.{BulkBegan}
use Rattle.ppq_session.specs.Sessions.{IsUnbegun}
use Rattle.ppq_session.specs.Readied.{MemoryLeavesBulkReady}
use Rattle.ppq_session.specs.declared.fault.BeginFault.TheVariants.{Device}
use Rattle.ppq_session.proofs.Begun.{Begins, err_with, begun-with, began-bulk, unbegun-memory, ready-bulk}
use Rattle.ppq_session.proofs.begin.bulk_begin.Goals as goal

pub returns-in-Ok-clause-begun : goal.returns-in-Ok-clause-begun
returns-in-Ok-clause-begun g c =
    let shown = g.S.Slot.shown in
    let old = c.args.q in
    let new = c.begin_session.new.self in
    let e = c.in-Ok.ensures in
    begun-with shown old new (λ r. BulkBegan shown old r.0 r.1 r.2.items) c.hand_out.result (began-bulk shown old new e.same c.begin_session.ensures.stays e.heaps c.begin_session.ensures.first e.settled (e.merged refl) c.begin_session.ensures.counted.counts) c.hand_out.ensures.handed

pub returns-in-Ok-clause-refused : goal.returns-in-Ok-clause-refused
returns-in-Ok-clause-refused g c =
    let old = c.args.q in
    let new = c.begin_session.new.self in
    let stays = c.begin_session.ensures.stays in
    err_with (λ e. IsUnbegun old old e.0 e.1) new c.hand_out.result (unbegun-memory old old new c.in-Ok.ensures.same stays.keeps stays.peak c.begin_session.ensures.counted) c.hand_out.ensures.back

pub returns-in-Ok-clause-memory : goal.returns-in-Ok-clause-memory
returns-in-Ok-clause-memory g c =
    let old = c.args.q in
    let new = c.begin_session.new.self in
    let e = c.in-Ok.ensures in
    let said = c.begin_session.ensures in
    err_with (λ e. MemoryLeavesBulkReady old e.0 e.1) new c.hand_out.result (ready-bulk old new e.same e.emptied e.settled said.heaps said.first (e.merged refl)) c.hand_out.ensures.back

pub returns-in-Ok-clause-latched : goal.returns-in-Ok-clause-latched
returns-in-Ok-clause-latched g c = λ number latched. let said = (c.begin_session.ensures.latched number latched).0 in cc

pub returns-in-Err-NoFreeBlock : goal.returns-in-Err-NoFreeBlock
returns-in-Err-NoFreeBlock g c =
    let e = c.begin_session.ensures in
    let arm = c.in-Err-NoFreeBlock in
    record {
      begun = tt;
      refused = record { why = subst (IsRefusal c.args.q c.begin_session.new.self) arm.field-0-is arm.ensures.refused; kept = e.stays.keeps; peak = e.stays.peak; counted = e.counted };
      memory = tt;
      latched = λ number latched. let said = (e.latched number latched).0 in cc;
    }

pub returns-in-Err-Device : goal.returns-in-Err-Device
returns-in-Err-Device g c =
    let new = c.begin_session.new.self in
    let e = c.begin_session.ensures in
    let arm = c.in-Err-Device in
    let stopped : MetFault arm.number c.args.q new = subst (IsRefusal c.args.q new) arm.field-0-is arm.ensures.refused in
    let refusal : Holding g.row.R.Denot → ℕ → Begins g.row.S.Denot g.row.R.Denot = λ queue n. Err (queue, Device n) in
    record {
      begun = tt;
      refused = record { why = subst (λ (n : ℕ). MetFault n c.args.q new) (sym arm.number-is) stopped; kept = e.stays.keeps; peak = e.stays.peak; counted = e.counted };
      memory = tt;
      latched = λ number latched.
          let said = e.latched number latched in
          let same : arm.number ≡ number = cc in
          ap₂ refusal said.1 (arm.number-is ∙ same);
    }

-- A block that was lifted, read and taken is loaded or lost.
use Rattle.std.proofs.Common.{◌≡◌, ℕ, ◌*◌, ◌-◌, ◌<◌, ◌≤◌, ◌^◌, List, [], ◌∷◌, ◌++◌, length, Option, Some, None, Ok, Err, IsSome, IfNone, IfSome, Result, refl, sym, ap, ◌∙◌, subst, arith}
use Rattle.std.proofs.lemmas.Option.{same_Some}
use Rattle.ppq_array.specs.ppq_block.Block.{Block}
use Rattle.ppq_array.specs.ppq_outside.Shown.{Shown, IsRead}
use Rattle.ppq_array.specs.ppq_outside.Told.{next_count}
use Rattle.ppq_array.specs.ppq_outside.declared.fault.Failed.{Failed}
use Rattle.ppq_array.specs.declared.berth.DeviceBlock.{DeviceBlock}
use Rattle.ppq_array.specs.Run.{buffers_of}
use Rattle.ppq_array.specs.External.{External, Accepts}
use Rattle.ppq_array.specs.Supply.{Stock}
use Rattle.ppq_array.specs.Owner.{HasBlock, HasSlot}
use Rattle.ppq_lane.specs.Jobs.{MayRun, IsDone, IsReadInto, FitsKind, Does}
use Rattle.ppq_lane.specs.declared.job.Job.{Job}
use Rattle.ppq_fetch.specs.Steps.{BlockLoaded, BlockLost}
use Rattle.ppq_fetch.specs.Beside.{BlockLifted, MayLand, BlockLanded, BlockFailed}
use Rattle.ppq_fetch.proofs.Loads.{count_fits, filled, block_loaded, block_lost}

-- a slot that was read less often than written was, after one call more, read no more often than written
still_spent : {T E : Type 0} (answer : Result T E) (bytes : List ℕ) (before now : Shown) → IsRead answer bytes before now → next_count before.reads ≤ before.writes → before.reads ≤ before.writes → now.reads ≤ now.writes
still_spent (Ok u) bytes before now read unread spent = omega (arith, read.reads.ok, read.writes, unread)
still_spent (Err e) bytes before now read unread spent = omega (arith, read.reads.err, read.writes, spent)

module _ {S R : Type 0} (bytes_of : R → List ℕ) (record_of : List ℕ → R) (width : ℕ) (shown : S → Shown) where
  module _ (a m : External S R) (idle idle' : List (Block R)) (job : Job (DeviceBlock S R) R) (lifted : BlockLifted record_of width shown a m idle idle' job) where
    -- the job may be run
    pub may_read : (block : ℕ) → 1 ≤ width → HasSlot shown (block * width) job.slot → HasBlock block job.buf → MayRun width (λ (b : DeviceBlock S R). shown b.slot) job
    may_read block w size has =
        let same : (shown job.slot.slot).size ≡ job.buf.block * width = size.size ∙ ap (λ k. k * width) (sym has) in
        record {
          size = sym same;
          kind = subst (λ k. FitsKind k job.buf) (sym lifted.kind) (count_fits job.slot.count job.buf.block width (shown job.slot.slot).size w lifted.labelled.fits same);
        }

    -- where nothing was lifted before it
    module _ (none : a.lifted ≡ []) (job' : Job (DeviceBlock S R) R) (done : IsDone bytes_of record_of width (λ (b : DeviceBlock S R). shown b.slot) job job') where
      read : IsReadInto record_of width job.slot.count done.answer (shown job.slot.slot) (shown job'.slot.slot) job.buf job'.buf
      read = subst (λ k. Does bytes_of record_of width k done.answer (shown job.slot.slot) (shown job'.slot.slot) job.buf job'.buf) lifted.kind done.does

      answered : (x : Result (Unit {0}) Failed) → job'.done ≡ Some x → done.answer ≡ x
      answered x e = same_Some done.answer x (sym done.done ∙ e)

      pub may_land : (stock : Stock) → HasSlot shown (stock.block * width) job.slot → 0 < stock.slot_room → length (buffers_of a.loaded) < 2 ^ 32 - 1 → MayLand record_of width shown job' m stock
      may_land stock slot room few = record {
        done = subst IsSome (sym done.done) refl;
        accepts = λ u e.
            let f = filled record_of width shown done.answer u (answered (Ok u) e) job.slot (shown job'.slot.slot) job.slot.count job.buf job'.buf refl read in
            let one : m.lifted ≡ job.slot ∷ [] = ap (λ (z : External S R). z.lifted) lifted.array ∙ ap (λ xs. xs ++ job.slot ∷ []) none in
            subst (λ bs. Accepts record_of width shown bs job'.buf) (sym one) (f.0, f.1.0);
        room = room;
        slot = record { size = read.read.size ∙ slot.size; spent = still_spent done.answer read.bytes (shown job.slot.slot) (shown job'.slot.slot) read.read lifted.labelled.unread slot.spent };
        few = subst (λ (z : External S R). length (buffers_of z.loaded) < 2 ^ 32 - 1) (sym lifted.array) few;
      }

      pub landed_is : (b : External S R) (s t : Stock) → BlockLanded record_of width shown job' m b s t → BlockLoaded record_of width shown a b idle idle' s t
      landed_is b s t x =
          block_loaded record_of width shown done.answer x.answer (answered (Ok x.answer) x.done) job.slot (shown job'.slot.slot) job.slot.count job.buf job'.buf refl read lifted.labelled
          a m b lifted.stored none lifted.array x.loaded x.items x.same x.rest idle idle' lifted.taken s t x.freed

      pub failed_is : (number : ℕ) (back : List (Block R)) (s t : Stock) → BlockFailed shown number job' s t → back ≡ idle' ++ job'.buf ∷ [] → BlockLost record_of width shown number a m idle back s t
      failed_is number back s t x returned =
          block_lost record_of width shown done.answer x.answer (answered (Err x.answer) x.done) number job.slot (shown job'.slot.slot) job.slot.count job.buf job'.buf x.named read
          a m lifted.stored none lifted.array idle idle' back lifted.taken returned s t x.freed

  -- one block alone
  pub loaded :
      (r : Option ℕ) (a m b : External S R) (idle idle' idle'' : List (Block R)) (job job' : Job (DeviceBlock S R) R) (s t : Stock) → BlockLifted record_of width shown a m idle idle' job → a.lifted ≡ [] → IsDone bytes_of record_of width (λ (b : DeviceBlock S R). shown b.slot) job job'
      → IfNone r (BlockLanded record_of width shown job' m b s t × (idle'' ≡ idle')) → IfNone r (BlockLoaded record_of width shown a b idle idle'' s t)
  loaded None a m b idle idle' idle'' job job' s t l none done h = subst (λ bs. BlockLoaded record_of width shown a b idle bs s t) (sym h.1) (landed_is a m idle idle' job l none job' done b s t h.0)
  loaded (Some number) a m b idle idle' idle'' job job' s t l none done h = tt

  pub lost :
      (r : Option ℕ) (a m b : External S R) (idle idle' idle'' : List (Block R)) (job job' : Job (DeviceBlock S R) R) (s t : Stock) → BlockLifted record_of width shown a m idle idle' job → a.lifted ≡ [] → IsDone bytes_of record_of width (λ (b : DeviceBlock S R). shown b.slot) job job'
      → IfSome r (λ number. BlockFailed shown number job' s t × ((b ≡ m) × (idle'' ≡ idle' ++ job'.buf ∷ []))) → IfSome r (λ number. BlockLost record_of width shown number a b idle idle'' s t)
  lost None a m b idle idle' idle'' job job' s t l none done h = tt
  lost (Some number) a m b idle idle' idle'' job job' s t l none done h = subst (λ z. BlockLost record_of width shown number a z idle idle'' s t) (sym h.1.0) (failed_is a m idle idle' job l none job' done number idle'' s t h.0 h.1.1)

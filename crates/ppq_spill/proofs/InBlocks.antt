-- A run that was stored in blocks.
use Rattle.std.proofs.Common.{◌≡◌, inr, ℕ, ◌+◌, ◌-◌, ◌*◌, ◌<◌, List, [], ◌∷◌, ◌++◌, length, sum_by, refl, sym, ap, ◌∙◌, subst, arith, length-append, append-nil}
use Rattle.std.specs.Prelude.{count_by, Result, Ok, Err, OnOk}
use Rattle.std.proofs.lemmas.List.Sums.{sum_by-append}
use Rattle.std.specs.declared.cmp.Ordering.{Ordering}
use Rattle.ppq_fetch.proofs.ppq_record.Order.{IsSameBag-append_comm}
use Rattle.ppq_fetch.specs.ppq_outside.Shown.{Shown, Tells, AllTell}
use Rattle.ppq_fetch.specs.ppq_outside.Told.{Rose}
use Rattle.ppq_fetch.specs.ppq_array.declared.berth.DeviceBlock.{DeviceBlock}
use Rattle.ppq_fetch.specs.ppq_array.declared.store_fault.StoreFault.{StoreFault}
use Rattle.ppq_fetch.specs.ppq_array.Run.{Run}
use Rattle.ppq_fetch.specs.ppq_array.External.{External, size_of, records_in, IsPacked}
use Rattle.ppq_fetch.specs.ppq_array.Supply.{Stock}
use Rattle.ppq_fetch.specs.ppq_array.Owner.{slots_shown}
use Rattle.ppq_fetch.specs.ppq_array.Holdings.{internal_items, external_slots}
use Rattle.ppq_fetch.specs.ppq_array.Kept.{SameSums, AreQuiet}
use Rattle.ppq_fetch.proofs.ppq_array.Noted.{all_left}
use Rattle.ppq_spill.specs.declared.body.PassBody.{PassBody}
use Rattle.ppq_spill.specs.Body.{body_slots, job_slots}
use Rattle.ppq_spill.specs.Moves.{DrewSlots, FoundScant}
use Rattle.ppq_spill.specs.Storing.{RunsAscend, BlocksStored, IsStored, StoreLeaves, StoreEnds, NoSlots, NoneFree, SameScant, TooFew, IsShortOfBuffers}
use Rattle.ppq_spill.specs.Writing.{Writing, left_in}
use Rattle.ppq_spill.proofs.Keeping.{slots_more, slots_long}
use Rattle.ppq_spill.specs.Went.{AtLeast}
use Rattle.ppq_spill.proofs.Going.{quiet_kept, each_kept}
use Rattle.ppq_spill.specs.Untold.{untold}
use Rattle.ppq_spill.proofs.Telling.{tell_sum, sum_tell, tell_moved}

nothing : {X : Type 0} (xs : List X) → length xs ≡ 0 → xs ≡ []
nothing [] e = refl
nothing (x ∷ xs) e = absurd (omega (arith, e))

-- a call that was short of buffers is so still when it has stored in blocks
pub short_after : (n : ℕ) (o m r : Stock) → FoundScant n o m → SameScant m r → IsShortOfBuffers n o r
short_after n o m r found same = record {
  counted = subst (λ k. Rose o.scant k) (sym same.scant) found.short.counted;
  unsure = found.short.unsure;
  few = subst (λ k. TooFew (k - o.buffer_room) o.block n) (sym same.room) found.short.few;
}

module _ {S R : Type 0} (cmp : R → R → Ordering) (record_of : List ℕ → R) (width block : ℕ) (shown : S → Shown) where
  pub blocks_stored :
      (sorted : List R) (old new : PassBody S R) (o d r : Stock) (slots0 : List (DeviceBlock S R)) (runs : List (Run R)) (array : External S R) → DrewSlots shown width o d slots0 → r.drawn ≡ d.drawn → r.kept ≡ d.kept
      → Writing cmp record_of width block shown slots0 old.runs.internal.items sorted [] runs [] array → block ≡ o.block → length slots0 * block < length sorted + length (internal_items old.runs.internal.items) + block → RunsAscend cmp shown sorted old o
      → new.runs.internal.items ≡ [] → new.runs.external.items ≡ old.runs.external.items ++ array ∷ [] → new.lanes.jobs.items ≡ old.lanes.jobs.items
      → BlocksStored cmp record_of width shown sorted old new o r
  blocks_stored sorted old new o d r slots0 runs array drew drawn same_kept writing same least up none more jobs =
      let items = internal_items old.runs.internal.items in
      let left = left_in runs [] in
      let z : 0 * block ≡ 0 = omega arith in
      let empty : left ≡ [] = nothing left (omega (arith, writing.room, z)) in
      let told : AllTell (body_slots shown old ++ o.kept ++ r.drawn) → AllTell (slots_shown shown slots0) = λ t.
      let kept : AllTell (o.kept ++ r.drawn) = tell_right (body_slots shown old) o.kept r.drawn t in
      let moved = tell_moved (o.kept ++ d.drawn) (slots_shown shown slots0 ++ d.kept ++ o.drawn) drew.moved (subst (λ (x : List Shown). AllTell (o.kept ++ x)) drawn kept) in
      all_left Tells (slots_shown shown slots0) d.kept (all_left Tells (slots_shown shown slots0 ++ d.kept) o.drawn moved) in
      let long : length array.stored ≡ length slots0 = omega (arith, writing.went.went.same.length, length-append (slots_shown shown array.stored) [], slots_long shown array.stored, slots_long shown slots0) in
      let size : size_of array ≡ length sorted + length items = omega (arith, writing.size, ap length empty, length-append items sorted) in
      let few : length array.stored * block < size_of array + block = subst (λ k. k * block < size_of array + block) (sym long) (omega (arith, least, size)) in
      let stored = slots_shown shown array.stored in
      let had = external_slots shown old.runs.external.items in
      let has : external_slots shown new.runs.external.items ≡ had ++ stored = ap (external_slots shown) more ∙ slots_more shown old.runs.external.items array in
      record {
        array = array;
        quiet = quiet_kept had (job_slots shown old.lanes.jobs.items) o.kept r.drawn (slots_shown shown slots0) (external_slots shown new.runs.external.items) (job_slots shown new.lanes.jobs.items) r.kept o.drawn stored d.kept
            (subst (λ (x : List Shown). SameSums (o.kept ++ x) (slots_shown shown slots0 ++ d.kept ++ o.drawn)) (sym drawn) drew.moved)
            (λ f. omega (arith, ap (sum_by f) has, sum_by-append f had stored, ap (sum_by f) same_kept, ap (λ js. sum_by f (job_slots shown js)) jobs))
            (subst (AreQuiet (slots_shown shown slots0)) (append-nil stored) writing.quiet);
        each = each_kept had (job_slots shown old.lanes.jobs.items) o.kept r.drawn (slots_shown shown slots0) (external_slots shown new.runs.external.items) (job_slots shown new.lanes.jobs.items) r.kept o.drawn stored d.kept
            (subst (λ (x : List Shown). SameSums (o.kept ++ x) (slots_shown shown slots0 ++ d.kept ++ o.drawn)) (sym drawn) drew.moved)
            (λ f. omega (arith, ap (sum_by f) has, sum_by-append f had stored, ap (sum_by f) same_kept, ap (λ js. sum_by f (job_slots shown js)) jobs)) (length array.stored)
            (subst (AtLeast (length array.stored) (slots_shown shown slots0)) (append-nil stored) writing.each);
        level = ap (λ a. a.level) writing.shape;
        loaded = ap (λ a. a.loaded) writing.shape;
        lifted = ap (λ a. a.lifted) writing.shape;
        size = size;
        ascends = λ t.
            let before = all_left Tells (body_slots shown old ++ o.kept) r.drawn t in
            (writing.ascends (told t) (up.internal before, up.run before)).1;
        records = λ t p.
            ap (count_by p) (sym (append-nil (records_in record_of width shown array)) ∙ ap (λ xs. records_in record_of width shown array ++ xs) (sym empty))
            ∙ sym (writing.records (told t) p) ∙ IsSameBag-append_comm items sorted p;
        blocks = subst (λ b. length array.stored * b < size_of array + b) same few;
        packed = subst (λ b. IsPacked b array.stored) same writing.packed;
        written = writing.written;
        kept = omega (arith, ap length same_kept, drew.left, long);
        internal = none;
        external = more;
      }
    where
      tell_right : (a b c : List Shown) → AllTell (a ++ b ++ c) → AllTell (b ++ c)
      tell_right a b c t = sum_tell (b ++ c) (let s : sum_by untold (b ++ c) ≡ 0 = omega (arith, tell_sum (a ++ b ++ c) t, sum_by-append untold (a ++ b) c, sum_by-append untold a b, sum_by-append untold b c) in s)

  -- after too few buffers were had
  pub stored_after :
      (sorted : List R) (old new : PassBody S R) (o m r : Stock) → FoundScant (length sorted) o m → SameScant m r → BlocksStored cmp record_of width shown sorted old new m r → IsStored cmp record_of width shown sorted old new o r
  stored_after sorted old new o m r found same blocks =
      let at = subst (λ s. BlocksStored cmp record_of width shown sorted old new s r) found.stock blocks in
      inr record {
        short = short_after (length sorted) o m r found same;
        blocks = record {
          array = at.array;
          quiet = at.quiet;
          each = at.each;
          level = at.level;
          loaded = at.loaded;
          lifted = at.lifted;
          size = at.size;
          ascends = at.ascends;
          records = at.records;
          blocks = at.blocks;
          packed = at.packed;
          written = at.written;
          kept = at.kept;
          internal = at.internal;
          external = at.external;
        };
      }

pub ascend_still :
    {S R : Type 0} (cmp : R → R → Ordering) (shown : S → Shown) (sorted : List R) (body : PassBody S R) (o m : Stock) → FoundScant (length sorted) o m → RunsAscend cmp shown sorted body o → RunsAscend cmp shown sorted body m
ascend_still cmp shown sorted body o m found up =
    let kept : m.kept ≡ o.kept = ap (λ s. s.kept) found.stock in
    let as_before : AllTell (body_slots shown body ++ m.kept) → AllTell (body_slots shown body ++ o.kept) = subst (λ (k : List Shown). AllTell (body_slots shown body ++ k)) kept in
    record { run = λ t. up.run (as_before t); internal = λ t. up.internal (as_before t) }

-- what is left is the same as before too few buffers were had
pub leaves_still :
    {S R : Type 0} (shown : S → Shown) (width n k : ℕ) (old new : PassBody S R) (o m r : Stock) → FoundScant k o m → StoreLeaves shown width n old new m r → StoreLeaves shown width n old new o r
leaves_still shown width n k old new o m r found is =
    let at = subst (λ s. StoreLeaves shown width n old new s r) found.stock is in
    record {
      kept = record { slots = at.kept.slots; slot_room = at.kept.slot_room; buffers = at.kept.buffers; block = at.kept.block };
      takes_back = at.takes_back;
      tells = at.tells;
      untold = at.untold;
      writes = record { blocks = at.writes.blocks; few = at.writes.few; transfers = at.writes.transfers; stay = at.writes.stay };
      lanes = at.lanes;
      size = at.size;
      rooms = at.rooms;
    }

-- a store that does not fail has stored all
pub ends_stored :
    {S R T : Type 0} (cmp : R → R → Ordering) (record_of : List ℕ → R) (width : ℕ) (shown : S → Shown) (sorted : List R) (old new : PassBody S R) (o r : Stock) (result : Result T StoreFault)
    → StoreEnds cmp record_of width shown sorted old new o r result → OnOk result (BlocksStored cmp record_of width shown sorted old new o r)
ends_stored cmp record_of width shown sorted old new o r (Ok v) is = is
ends_stored cmp record_of width shown sorted old new o r (Err fault) is = tt

-- too few slots, after too few buffers were had
pub none_after :
    {S R : Type 0} (n : ℕ) (old new : PassBody S R) (o m r : Stock) → FoundScant n o m → SameScant m r → NoSlots n old new m r → NoneFree n old new o r
none_after n old new o m r found same is =
    let at = subst (λ s. NoSlots n old new s r) found.stock is in
    record {
      short = short_after n o m r found same;
      slots = record { untouched = at.untouched; dry = at.dry; unsure = at.unsure; still = at.still; still_few = at.still_few; internal = at.internal; external = at.external; idle = at.idle; buffers = at.buffers };
    }

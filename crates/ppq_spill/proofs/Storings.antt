-- What storing in blocks keeps, and what it makes.
use Rattle.std.proofs.Common.{◌≡◌, ℕ, ◌+◌, ◌-◌, ◌*◌, ◌≤◌, List, [], ◌∷◌, ◌++◌, length, sum_by, All, refl, sym, ap, ap₂, ◌∙◌, subst, arith, length-append, append-nil, append_assoc}
use Rattle.std.proofs.lemmas.List.Sums.{sum_by-cons, sum_by-append}
use Rattle.ppq_fetch.specs.ppq_outside.Shown.{Shown}
use Rattle.ppq_fetch.specs.ppq_array.declared.berth.DeviceBlock.{DeviceBlock}
use Rattle.ppq_fetch.specs.ppq_array.External.{External, external}
use Rattle.ppq_fetch.specs.ppq_array.Supply.{Stock, GetsSlot}
use Rattle.ppq_fetch.specs.ppq_array.Owner.{slots_shown, HasBlock}
use Rattle.ppq_fetch.specs.ppq_array.Holdings.{RunHasBlock, HasSlots}
use Rattle.ppq_spill.specs.declared.body.PassBody.{PassBody}
use Rattle.ppq_spill.specs.Storing.{HasOneSize, RunStopped}
use Rattle.ppq_fetch.specs.ppq_array.Kept.{Held, Kept, SameSums, weight_at}
use Rattle.ppq_spill.specs.Moves.{DrewSlots, FoundFewSlots, FoundScant, with_buffers}
use Rattle.ppq_spill.specs.Body.{body_slots}
use Rattle.ppq_spill.specs.Writing.{FirstFailed}
use Rattle.ppq_spill.proofs.Parts.{failed_there}
use Rattle.ppq_spill.proofs.Keeping.{slots_long}
use Rattle.ppq_spill.specs.Went.{WentWriting}
use Rattle.ppq_spill.proofs.Going.{WentWriting-refl, went_kept}

abbrev held : List Shown → ℕ → Held
held slots buffers = record { slots = slots; buffers = buffers }

-- too few slots were had: none was called
pub went_refused : (o n : Stock) (need : ℕ) (e j : List Shown) → FoundFewSlots need o n → WentWriting 0 (e ++ j ++ o.kept ++ n.drawn) (e ++ j ++ n.kept ++ o.drawn)
went_refused o n need e j found =
    went_kept e j o.kept n.drawn [] e j n.kept o.drawn [] n.kept found.moved (λ f. (let z : sum_by f [] ≡ 0 = refl in omega (arith, z))) 0 (WentWriting-refl [])

pub kept_refused : (o n : Stock) (need : ℕ) (e j : List Shown) (buffers : ℕ) → FoundFewSlots need o n → Kept o n (held (e ++ j) buffers) (held (e ++ j) buffers)
kept_refused o n need e j buffers found =
    record {
      slots = (went_refused o n need e j found).went.same;
      slot_room = ap (λ k. length (e ++ j) + k) (sym (ap (λ s. s.slot_room) found.stock));
      buffers = ap (λ k. buffers + k) (sym (ap (λ s. s.buffer_room) found.stock));
      block = ap (λ s. s.block) found.stock;
    }

module _ {S R : Type 0} (shown : S → Shown) (width : ℕ) (o d : Stock) (e j e' j' : List Shown) (slots0 : List (DeviceBlock S R)) (array : External S R) (drew : DrewSlots shown width o d slots0) (more : e' ≡ e ++ slots_shown shown array.stored) (same_jobs : j' ≡ j) where
  -- all blocks were written
  module _ (r : Stock) (sure room : ℕ) (is : r ≡ with_buffers d sure room) where
    pub went_written : (most : ℕ) → WentWriting most (slots_shown shown slots0) (slots_shown shown array.stored ++ []) → WentWriting most (e ++ j ++ o.kept ++ r.drawn) (e' ++ j' ++ r.kept ++ o.drawn)
    went_written most calls =
        let stored = slots_shown shown array.stored in
        let here : WentWriting most (slots_shown shown slots0) stored = subst (WentWriting most (slots_shown shown slots0)) (append-nil stored) calls in
        let kept : r.kept ≡ d.kept = ap (λ s. s.kept) is in
        let drawn : r.drawn ≡ d.drawn = ap (λ s. s.drawn) is in
        went_kept e j o.kept r.drawn (slots_shown shown slots0) e' j' r.kept o.drawn stored d.kept
        (subst (λ (x : List Shown). SameSums (o.kept ++ x) (slots_shown shown slots0 ++ d.kept ++ o.drawn)) (sym drawn) drew.moved)
        (λ f. omega (arith, ap (sum_by f) more, sum_by-append f e stored, ap (sum_by f) kept, ap (sum_by f) same_jobs)) most here

    pub kept_written :
        (most ib ib' ib'' eb eb' l l' : ℕ) → WentWriting most (slots_shown shown slots0) (slots_shown shown array.stored ++ [])
        → room ≡ d.buffer_room - ib' → ib' ≡ ib → ib ≤ o.buffer_room → ib'' ≡ 0 → eb' ≡ eb → l' ≡ l
        → Kept o r (held (e ++ j) (ib + eb + l)) (held (e' ++ j') (ib'' + eb' + l'))
    kept_written most ib ib' ib'' eb eb' l l' calls room_is same_ib within none same_eb same_l =
        let stored = slots_shown shown array.stored in
        let slot_room : r.slot_room ≡ o.slot_room + length slots0 = ap (λ s. s.slot_room) is ∙ ap (λ s. s.slot_room) drew.stock in
        let bufs : r.buffer_room ≡ o.buffer_room - ib = ap (λ s. s.buffer_room) is ∙ room_is ∙ ap₂ (λ (a b : ℕ). a - b) (ap (λ s. s.buffer_room) drew.stock) same_ib in
        let long : length stored ≡ length slots0 = omega (arith, calls.went.same.length, length-append stored [], slots_long shown slots0) in
        record {
          slots = (went_written most calls).went.same;
          slot_room = omega (arith, length-append e' j', ap length same_jobs, length-append e j, ap length more, length-append e stored, slot_room, long);
          buffers = omega (arith, bufs, none, same_eb, same_l, within);
          block = ap (λ s. s.block) is ∙ ap (λ s. s.block) drew.stock;
        }

  -- a write failed
  module _ (f r : Stock) (left : List (DeviceBlock S R)) (failed : DeviceBlock S R) (gets : GetsSlot d (shown failed.slot) f) (is : r ≡ record f { kept = f.kept ++ slots_shown shown left; slot_room = f.slot_room - length left })
      (most : ℕ) (calls : WentWriting most (slots_shown shown slots0) (slots_shown shown array.stored ++ (shown failed.slot ∷ slots_shown shown left))) where
    pub went_failed : WentWriting most (e ++ j ++ o.kept ++ r.drawn) (e' ++ j' ++ r.kept ++ o.drawn)
    went_failed =
        let stored = slots_shown shown array.stored in
        let lefts = slots_shown shown left in
        let one = shown failed.slot in
        let fkept : f.kept ≡ d.kept ++ one ∷ [] = ap (λ s. s.kept) gets in
        let rkept : r.kept ≡ f.kept ++ lefts = ap (λ s. s.kept) is in
        let drawn : r.drawn ≡ d.drawn = ap (λ s. s.drawn) is ∙ ap (λ s. s.drawn) gets in
        went_kept e j o.kept r.drawn (slots_shown shown slots0) e' j' r.kept o.drawn (stored ++ (one ∷ lefts)) d.kept
        (subst (λ (x : List Shown). SameSums (o.kept ++ x) (slots_shown shown slots0 ++ d.kept ++ o.drawn)) (sym drawn) drew.moved)
        (λ w. omega (
          arith,
          ap (sum_by w) more,
          sum_by-append w e stored,
          ap (sum_by w) rkept,
          sum_by-append w f.kept lefts,
          ap (sum_by w) fkept,
          sum_by-append w d.kept (one ∷ []),
          sum_by-cons w one [],
          sum_by-append w stored (one ∷ lefts),
          sum_by-cons w one lefts,
          ap (sum_by w) same_jobs,
        ))
        most calls

    pub room_failed : r.slot_room ≡ o.slot_room + length array.stored
    room_failed =
        let stored = slots_shown shown array.stored in
        let lefts = slots_shown shown left in
        let froom : f.slot_room ≡ d.slot_room - 1 = ap (λ s. s.slot_room) gets in
        let droom : d.slot_room ≡ o.slot_room + length slots0 = ap (λ s. s.slot_room) drew.stock in
        let rroom : r.slot_room ≡ f.slot_room - length left = ap (λ s. s.slot_room) is in
        let long : length slots0 ≡ length array.stored + (1 + length left) =
        omega (arith, calls.went.same.length, slots_long shown slots0, length-append stored (shown failed.slot ∷ lefts), slots_long shown array.stored, slots_long shown left) in
        omega (arith, rroom, froom, droom, long)

    pub buffers_failed : r.buffer_room ≡ o.buffer_room
    buffers_failed = ap (λ s. s.buffer_room) is ∙ ap (λ s. s.buffer_room) gets ∙ ap (λ s. s.buffer_room) drew.stock

    pub kept_failed : (ib ib' eb eb' l l' : ℕ) → ib' ≡ ib → eb' ≡ eb → l' ≡ l → Kept o r (held (e ++ j) (ib + eb + l)) (held (e' ++ j') (ib' + eb' + l'))
    kept_failed ib ib' eb eb' l l' same_ib same_eb same_l =
        record {
          slots = went_failed.went.same;
          slot_room = omega (arith, length-append e' j', ap length same_jobs, length-append e j, ap length more, length-append e (slots_shown shown array.stored), room_failed, slots_long shown array.stored);
          buffers = omega (arith, buffers_failed, same_ib, same_eb, same_l);
          block = ap (λ s. s.block) is ∙ ap (λ s. s.block) gets ∙ ap (λ s. s.block) drew.stock;
        }

module _ {S R : Type 0} (shown : S → Shown) (width : ℕ) where
  -- all is of one block size again
  pub sizes_after :
      (old new : PassBody S R) (o n : Stock) → HasOneSize shown width old o → n.block ≡ o.block → All (HasBlock o.block) new.lanes.idle → All (RunHasBlock o.block) new.runs.internal.items → All (HasSlots shown (o.block * width)) new.runs.external.items
      → HasOneSize shown width new n
  sizes_after old new o n is same idle internal external =
      record {
        some = subst (λ b. 1 ≤ b) (sym same) is.some;
        small = subst (λ b. b ≤ 65536) (sym same) is.small;
        idle = subst (λ b. All (HasBlock b) new.lanes.idle) (sym same) idle;
        internal = subst (λ b. All (RunHasBlock b) new.runs.internal.items) (sym same) internal;
        external = subst (λ b. All (HasSlots shown (b * width)) new.runs.external.items) (sym same) external;
      }

-- a slot was drawn and written, and came back, since that write failed; those behind it came back after it
pub run_stopped :
    {S R : Type 0} (shown : S → Shown) (width : ℕ) (o d f r : Stock) (old new : PassBody S R) (slots0 berths : List (DeviceBlock S R)) (array : External S R) (failed : DeviceBlock S R) (number room : ℕ) → DrewSlots shown width o d slots0 → GetsSlot d (shown failed.slot) f
    → r ≡ record f { kept = f.kept ++ slots_shown shown berths; slot_room = room } → FirstFailed (slots_shown shown slots0) (slots_shown shown array.stored) (shown failed.slot) → new.runs.external.items ≡ old.runs.external.items ++ array ∷ [] → number ≡ (shown failed.slot).number
    → RunStopped shown number old new o r
run_stopped shown width o d f r old new slots0 berths array failed number room drew gets back first more is =
    let told = shown failed.slot in
    let behind = slots_shown shown berths in
    let kept : r.kept ≡ d.kept ++ told ∷ behind = ap (λ s. s.kept) back ∙ ap (λ s. s.kept ++ behind) gets ∙ append_assoc d.kept (told ∷ []) behind in
    let order = drew.in_order in
    let weight = weight_at (λ s. s.faults) number in
    record {
      failed = (
          let here = failed_there d.kept told number (sym is) (omega (arith, first.rose)) in
          omega (arith, here, sum_by-append weight (body_slots shown new) r.kept, ap (sum_by weight) kept, sum_by-append weight d.kept (told ∷ []), sum_by-append weight d.kept (told ∷ behind), sum_by-cons weight told behind, sum_by-cons weight told [])
          );
      fresh = order.fresh;
      drawn = ap (λ s. s.drawn) back ∙ ap (λ s. s.drawn) gets ∙ order.drawn;
      array = array;
      external = more;
      told = told;
      number_is = sym is;
      others = d.kept;
      later = behind;
      kept = kept;
      first = record {
        front = first.front;
        first = first.first;
        behind = first.behind ++ d.kept;
        order = order.order ∙ ap (λ xs. xs ++ d.kept) first.order ∙ append_assoc first.front (first.first ∷ first.behind) d.kept;
        well = first.well;
        number = first.number;
        rose = first.rose;
      };
    }

-- the same, after too few buffers were had
pub stopped_after : {S R : Type 0} (shown : S → Shown) (number n : ℕ) (old new : PassBody S R) (o m r : Stock) → FoundScant n o m → RunStopped shown number old new m r → RunStopped shown number old new o r
stopped_after shown number n old new o m r found is =
    let at = subst (λ s. RunStopped shown number old new s r) found.stock is in
    record { failed = at.failed; fresh = at.fresh; drawn = at.drawn; array = at.array; external = at.external; told = at.told; number_is = at.number_is; others = at.others; later = at.later; kept = at.kept; first = at.first }

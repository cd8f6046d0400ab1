-- Records that are written as blocks: one block, and one more.
use Rattle.std.proofs.Common.{◌≡◌, ℕ, ◌+◌, ◌-◌, ◌*◌, ◌<◌, ◌≤◌, ◌==◌, true, cond, List, [], ◌∷◌, ◌++◌, length, sum_by, All, refl, sym, ap, ◌∙◌, subst, arith, append_assoc, length-append, append-nil}
use Rattle.std.proofs.lemmas.List.{map-append}
use Rattle.std.proofs.lemmas.List.Concat.{flat_map-cons}
use Rattle.std.proofs.lemmas.List.Sums.{sum_by-cons, sum_by-append}
use Rattle.std.proofs.lemmas.List.Elements.{All-cons, All-head, All-nil, All-append, All-push}
use Rattle.ppq_fetch.specs.ppq_outside.Shown.{Shown, Tells, AllTell}
use Rattle.ppq_fetch.specs.ppq_array.declared.berth.DeviceBlock.{DeviceBlock}
use Rattle.ppq_fetch.specs.ppq_array.declared.store_fault.StoreFault.TheVariants.{Device}
use Rattle.ppq_fetch.specs.ppq_array.Run.{run_of}
use Rattle.ppq_fetch.specs.ppq_array.External.{External, external, counts, block_items}
use Rattle.ppq_fetch.specs.ppq_array.Supply.{Stock, GetsSlot, IsSlot}
use Rattle.ppq_fetch.specs.ppq_array.Owner.{slots_shown, HasSlot}
use Rattle.ppq_fetch.specs.ppq_array.Kept.{SameSums, HasFailed, weight_at}
use Rattle.ppq_fetch.proofs.ppq_array.Noted.{all_left}
use Rattle.ppq_spill.specs.Writing.{BlockStored, BlockFailed}
use Rattle.ppq_spill.specs.Went.{Went}
use Rattle.ppq_spill.specs.Making.{Hand, hand, hand_slots, SameRest, Wrote, WroteAll, WroteSome}
use Rattle.ppq_spill.proofs.Going.{Went-refl, Went-trans, Went-placed, Went-one, quiet_placed, quiet_more, each_placed}
use Rattle.ppq_spill.proofs.Keeping.{slots_long}
use Rattle.ppq_spill.proofs.Written.{grown_slot}
use Rattle.ppq_spill.specs.Untold.{untold}
use Rattle.ppq_spill.proofs.Telling.{tell_part, tell_moved}

-- a slot that failed is among those it was put to
pub failed_there : (kept : List Shown) (slot : Shown) (number : ℕ) → slot.number ≡ number → 0 < slot.faults → HasFailed number (kept ++ slot ∷ [])
failed_there kept slot number e h =
    let f = weight_at (λ s. s.faults) number in
    let same : (number == number) ≡ true = grind arith in
    let here : f slot ≡ slot.faults = ap (λ k. cond (k == number) slot.faults 0) e ∙ ap (λ b. cond b slot.faults 0) same in
    omega (arith, sum_by-append f kept (slot ∷ []), sum_by-cons f slot [], here, h)

pub SameRest-trans : (a b c : Stock) → SameRest a b → SameRest b c → SameRest a c
SameRest-trans a b c h k = record { block = k.block ∙ h.block; drawn = k.drawn ∙ h.drawn; buffers = k.buffers ∙ h.buffers }

module _ {S R : Type 0} (shown : S → Shown) where
  pub hand_sum : (f : Shown → ℕ) (h : Hand S R) → sum_by f (hand_slots shown h) ≡ sum_by f (slots_shown shown h.made.stored) + sum_by f (slots_shown shown h.berths) + sum_by f h.stock.kept
  hand_sum f h =
      let a = slots_shown shown h.made.stored in
      let b = slots_shown shown h.berths in
      omega (arith, sum_by-append f (a ++ b) h.stock.kept, sum_by-append f a b)

  pub hand_long : (h : Hand S R) → length (hand_slots shown h) ≡ length h.made.stored + length h.berths + length h.stock.kept
  hand_long h =
      let a = slots_shown shown h.made.stored in
      let b = slots_shown shown h.berths in
      omega (arith, length-append (a ++ b) h.stock.kept, length-append a b, slots_long shown h.made.stored, slots_long shown h.berths)

  pub shown_append : (bs cs : List (DeviceBlock S R)) → slots_shown shown (bs ++ cs) ≡ slots_shown shown bs ++ slots_shown shown cs
  shown_append bs cs = map-append (λ (b : DeviceBlock S R). shown b.slot) bs cs

  -- some blocks, and some more
  pub Wrote-trans : (bytes : ℕ) (o h n : Hand S R) (bs cs : List (DeviceBlock S R)) → Wrote shown bytes o h bs → Wrote shown bytes h n cs → Wrote shown bytes o n (bs ++ cs)
  Wrote-trans bytes o h n bs cs a b =
      let W : DeviceBlock S R → Type 0 = λ b. 1 ≤ (shown b.slot).writes in
      record {
        made = b.made ∙ ap (λ (m : External S R). external m.level m.loaded m.lifted (m.stored ++ cs)) a.made ∙ ap (λ bs. external o.made.level o.made.loaded o.made.lifted bs) (append_assoc o.made.stored bs cs);
        went = subst (λ k. Went k 0 (hand_slots shown o) (hand_slots shown n)) (sym (length-append bs cs)) (Went-trans (length bs) 0 (length cs) 0 (hand_slots shown o) (hand_slots shown h) (hand_slots shown n) a.went b.went);
        rest = SameRest-trans o.stock h.stock n.stock a.rest b.rest;
        room = omega (arith, a.room, b.room);
        sizes = λ s. b.sizes (a.sizes s);
        written = All-append W bs cs a.written b.written;
      }

  -- no block
  pub Wrote-none : (bytes : ℕ) (o : Hand S R) → Wrote shown bytes o o []
  Wrote-none bytes o =
      record {
        made = ap (λ bs. external o.made.level o.made.loaded o.made.lifted bs) (sym (append-nil o.made.stored));
        went = Went-refl (hand_slots shown o);
        rest = record { block = refl; drawn = refl; buffers = refl };
        room = omega arith;
        sizes = λ s. s;
        written = All-nil (λ (b : DeviceBlock S R). 1 ≤ (shown b.slot).writes);
      }

  -- the next of the slots at hand, beside the others
  next_taken :
      (made : External S R) (berths berths' : List (DeviceBlock S R)) (next : Shown) (s s' : Stock) → SameSums (slots_shown shown berths ++ s.kept) (next ∷ (slots_shown shown berths' ++ s'.kept))
      → (f : Shown → ℕ) → sum_by f (hand_slots shown (hand made berths s)) ≡ sum_by f (slots_shown shown made.stored ++ slots_shown shown berths' ++ s'.kept) + sum_by f (next ∷ [])
  next_taken made berths berths' next s s' moved f =
      omega (
        arith,
        hand_sum f (hand made berths s),
        moved f,
        sum_by-append f (slots_shown shown berths) s.kept,
        sum_by-cons f next (slots_shown shown berths' ++ s'.kept),
        sum_by-append f (slots_shown shown berths') s'.kept,
        sum_by-append f (slots_shown shown made.stored ++ slots_shown shown berths') s'.kept,
        sum_by-append f (slots_shown shown made.stored) (slots_shown shown berths'),
        sum_by-cons f next [],
      )

  -- a slot of those at hand was called, and holds a block of records now
  pub part_written :
      (record_of : List ℕ → R) (width block bytes : ℕ) (records : List R) (made made' : External S R) (berths berths' : List (DeviceBlock S R)) (b : DeviceBlock S R) (s s' : Stock)
      → SameSums (slots_shown shown berths ++ s.kept) (shown b.slot ∷ (slots_shown shown berths' ++ s'.kept)) → s'.slot_room + length berths ≡ s.slot_room + 1 + length berths' → SameRest s s'
      → IsSlot bytes (shown b.slot) → All (HasSlot shown bytes) berths' → made ≡ external made.level (run_of [] 0 []) [] made.stored
      → BlockStored record_of width shown b.slot records made made' → 0 < length records → length records ≤ block
      → WroteAll record_of width block shown bytes records (hand made berths s) (hand made' berths' s')
  part_written record_of width block bytes records made made' berths berths' b s s' moved room rest size sizes shape put some fits =
      let last = put.last in
      let o = hand made berths s in
      let n = hand made' berths' s' in
      let P : DeviceBlock S R → Type 0 = HasSlot shown bytes in
      let is : made' ≡ external made.level made.loaded made.lifted (made.stored ++ last ∷ []) = put.run ∙ ap (λ (bs : List (DeviceBlock S R)). external made.level made.loaded bs (made.stored ++ last ∷ [])) (sym (ap (λ a. a.lifted) shape)) in
      let stored : made'.stored ≡ made.stored ++ last ∷ [] = ap (λ a. a.stored) is in
      let one : counts (last ∷ []) ≡ length records = omega (arith, sum_by-cons (λ (b : DeviceBlock S R). b.count) last [], put.count) in
      let others = slots_shown shown made.stored ++ slots_shown shown berths' ++ s'.kept in
      let before = next_taken made berths berths' (shown b.slot) s s' moved in
      let now : (f : Shown → ℕ) → sum_by f (hand_slots shown n) ≡ sum_by f others + sum_by f (shown last.slot ∷ []) =
      λ f. omega (
        arith,
        hand_sum f n,
        ap (λ bs. sum_by f (slots_shown shown bs)) stored,
        ap (sum_by f) (shown_append made.stored (last ∷ [])),
        sum_by-append f (slots_shown shown made.stored) (shown last.slot ∷ []),
        sum_by-append f (slots_shown shown made.stored ++ slots_shown shown berths') s'.kept,
        sum_by-append f (slots_shown shown made.stored) (slots_shown shown berths'),
      ) in
      record {
        blocks = last ∷ [];
        wrote = record {
          made = is;
          went = Went-placed 1 0 others (shown b.slot ∷ []) (shown last.slot ∷ []) (hand_slots shown o) (hand_slots shown n) before now
              (Went-one 1 (shown b.slot) (shown last.slot) put.grew put.transfers);
          rest = rest;
          room = omega (arith, room, ap length stored, length-append made.stored (last ∷ []));
          sizes = λ a. All-append P made'.stored berths' (subst (All P) (sym stored) (All-push P made.stored last (all_left P made.stored berths a) (grown_slot bytes (shown b.slot) (shown last.slot) put.grew size))) sizes;
          written = All-cons (λ (b : DeviceBlock S R). 1 ≤ (shown b.slot).writes) last [] put.written (All-nil (λ (b : DeviceBlock S R). 1 ≤ (shown b.slot).writes));
        };
        quiet = quiet_placed others (shown b.slot ∷ []) (shown last.slot ∷ []) (hand_slots shown o) (hand_slots shown n) before now (quiet_more (shown b.slot ∷ []) [] [] (shown b.slot) (shown last.slot) refl put.well.quiet);
        each = each_placed 1 others (shown b.slot ∷ []) (shown last.slot ∷ []) (hand_slots shown o) (hand_slots shown n) before now put.each;
        size = one;
        packed = record {
          full = λ k d h. absurd (omega arith);
          last = All-cons (λ (b : DeviceBlock S R). b.count ≤ block) last [] (omega (arith, put.count, fits)) (All-nil (λ (b : DeviceBlock S R). b.count ≤ block));
        };
        tight = (let e : 1 * block ≡ block = omega arith in omega (arith, e, some));
        items = λ t.
            let here : AllTell (slots_shown shown berths ++ s.kept) = tell_part (hand_slots shown o) (slots_shown shown berths ++ s.kept) (omega (arith, hand_sum untold o, sum_by-append untold (slots_shown shown berths) s.kept)) t in
            let tells : Tells (shown b.slot) = All-head Tells (shown b.slot) (slots_shown shown berths' ++ s'.kept) (tell_moved (slots_shown shown berths ++ s.kept) (shown b.slot ∷ (slots_shown shown berths' ++ s'.kept)) moved here) in
            flat_map-cons (block_items record_of width shown) last [] ∙ append-nil (block_items record_of width shown last) ∙ put.items_are tells;
      }

  -- or the write of it failed, and it is kept by the supply
  pub part_failed :
      (block bytes : ℕ) (made made' : External S R) (berths berths' : List (DeviceBlock S R)) (b failed : DeviceBlock S R) (s s' f : Stock) (number : ℕ)
      → SameSums (slots_shown shown berths ++ s.kept) (shown b.slot ∷ (slots_shown shown berths' ++ s'.kept)) → s'.slot_room + length berths ≡ s.slot_room + 1 + length berths' → SameRest s s'
      → length berths ≤ s.slot_room → All (HasSlot shown bytes) berths'
      → BlockFailed shown b.slot made made' failed → GetsSlot s' (shown failed.slot) f → number ≡ (shown failed.slot).number
      → WroteSome shown block bytes [] (hand made berths s) (hand made' berths' f) (Device number)
  part_failed block bytes made made' berths berths' b failed s s' f number moved room rest back sizes put gets is =
      let o = hand made berths s in
      let n = hand made' berths' f in
      let P : DeviceBlock S R → Type 0 = HasSlot shown bytes in
      let kept : f.kept ≡ s'.kept ++ shown failed.slot ∷ [] = ap (λ s. s.kept) gets in
      let less : f.slot_room ≡ s'.slot_room - 1 = ap (λ s. s.slot_room) gets in
      let stored : made'.stored ≡ made.stored = ap (λ a. a.stored) put.run in
      let long : length made'.stored ≡ length made.stored = ap length stored in
      record {
        blocks = [];
        wrote = record {
          made = put.run ∙ ap (λ bs. external made.level made.loaded made.lifted bs) (sym (append-nil made.stored));
          went = Went-placed 0 0 (slots_shown shown made.stored ++ slots_shown shown berths' ++ s'.kept) (shown b.slot ∷ []) (shown failed.slot ∷ []) (hand_slots shown o) (hand_slots shown n)
              (next_taken made berths berths' (shown b.slot) s s' moved)
              (λ w. omega (
                arith,
                hand_sum w n,
                ap (λ bs. sum_by w (slots_shown shown bs)) stored,
                ap (sum_by w) kept,
                sum_by-append w s'.kept (shown failed.slot ∷ []),
                sum_by-append w (slots_shown shown made.stored ++ slots_shown shown berths') s'.kept,
                sum_by-append w (slots_shown shown made.stored) (slots_shown shown berths'),
              ))
              (Went-one 0 (shown b.slot) (shown failed.slot) put.grew put.transfers);
          rest = SameRest-trans s s' f rest (record { block = ap (λ s. s.block) gets; drawn = ap (λ s. s.drawn) gets; buffers = ap (λ s. s.buffer_room) gets });
          room = omega (arith, room, less, long, back);
          sizes = λ a. All-append P made'.stored berths' (subst (All P) (sym stored) (all_left P made.stored berths a)) sizes;
          written = All-nil (λ (b : DeviceBlock S R). 1 ≤ (shown b.slot).writes);
        };
        few = omega arith;
        failed = subst (HasFailed number) (sym kept) (failed_there s'.kept (shown failed.slot) number (sym is) (omega (arith, put.rose)));
      }

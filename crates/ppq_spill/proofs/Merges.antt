-- A batch of the smallest records of arrays that is written as blocks, and one batch after the other.
use Rattle.std.proofs.Common.{◌≡◌, ℕ, ◌+◌, ◌-◌, ◌*◌, ◌<◌, ◌≤◌, List, [], ◌∷◌, ◌++◌, length, sum_by, All, refl, sym, ap, ◌∙◌, subst, arith, append_assoc, length-append, append-nil}
use Rattle.std.proofs.lemmas.List.Sums.{sum_by-cons, sum_by-append}
use Rattle.std.proofs.lemmas.List.Elements.{All-nil, All-append, All-tail}
use Rattle.ppq_fetch.proofs.ppq_array.Noted.{all_left, all_right}
use Rattle.ppq_fetch.specs.ppq_block.Block.{Block}
use Rattle.ppq_fetch.specs.ppq_outside.Shown.{Shown}
use Rattle.ppq_fetch.specs.ppq_array.declared.berth.DeviceBlock.{DeviceBlock}
use Rattle.ppq_fetch.specs.ppq_array.Run.{items_of}
use Rattle.ppq_fetch.specs.ppq_array.External.{External, external}
use Rattle.ppq_fetch.specs.ppq_array.Owner.{slots_shown, HasBlock, HasSlot}
use Rattle.ppq_fetch.specs.ppq_array.Supply.{Stock, GetsSlot}
use Rattle.ppq_fetch.specs.ppq_array.Kept.{AreQuiet, all_faults}
use Rattle.ppq_fetch.specs.ppq_array.Holdings.{external_slots, external_buffers, HasSlots, RunHasBlock}
use Rattle.ppq_fetch.specs.Fetching.{State, state, slots_in, AreSources, PartsKept, blocks_in, fronts_in, one_if_some}
use Rattle.ppq_fetch.proofs.Sums.{one_le}
use Rattle.ppq_spill.specs.Went.{Went, AtLeast}
use Rattle.ppq_spill.specs.Making.{Hand, hand, hand_slots, Wrote, Tried, Table, table, table_slots, total, BetweenBatches, Merging}
use Rattle.ppq_spill.proofs.Going.{f_of, Went-refl, Went-trans, Went-placed}
use Rattle.ppq_spill.proofs.Parts.{SameRest-trans, hand_sum}
use Rattle.ppq_spill.proofs.Fetches.{parts_went, parts_rest}

-- at most one for each list
pub fronts_most : {S R : Type 0} (xs : List (External S R)) → fronts_in xs ≤ length xs
fronts_most [] = omega arith
fronts_most {S} {R} (x ∷ xs) = omega (arith, sum_by-cons (λ (a : External S R). one_if_some (items_of a.loaded)) x xs, one_le (items_of x.loaded), fronts_most xs)

module _ {S R : Type 0} (shown : S → Shown) where
  pub table_sum : (f : Shown → ℕ) (t : Table S R) → sum_by f (table_slots shown t) ≡ sum_by f (external_slots shown t.inputs) + (sum_by f (slots_shown shown t.hand.made.stored) + sum_by f (slots_shown shown t.hand.berths) + sum_by f t.hand.stock.kept)
  table_sum f t = omega (arith, sum_by-append f (external_slots shown t.inputs) (hand_slots shown t.hand), hand_sum shown f t.hand)

  -- there is an idle buffer
  pub some_idle : (width workers : ℕ) (s : State S R) → AreSources shown width workers s → length s.external ≡ 8 → 2 * workers + 8 ≤ length s.idle + external_buffers s.external → 1 ≤ workers → 0 < length s.idle
  some_idle width workers s is eight buffers some = omega (arith, is.bounded, fronts_most s.external, eight, buffers, some)

  -- blocks were written, and no slot besides
  pub tried_of : (bytes : ℕ) (o n : Hand S R) (blocks : List (DeviceBlock S R)) → Wrote shown bytes o n blocks → Tried shown bytes 0 o n blocks
  tried_of bytes o n blocks is =
      record {
        made = is.made;
        went = subst (λ k. Went k 0 (hand_slots shown o) (hand_slots shown n)) (let e : length blocks ≡ length blocks + 0 = omega arith in e) is.went;
        rest = is.rest;
        room = is.room;
        sizes = is.sizes;
        written = is.written;
      }

  -- Blocks were loaded, and then blocks written
  pub merging_of :
      (width workers later : ℕ) (o h n : Table S R) (blocks : List (DeviceBlock S R))
      → BetweenBatches shown width workers o → h.hand.made ≡ o.hand.made → h.hand.berths ≡ o.hand.berths
      → PartsKept shown (state [] o.inputs o.idle o.hand.stock) (state [] h.inputs h.idle h.hand.stock) → AreSources shown width workers (state [] h.inputs h.idle h.hand.stock)
      → blocks_in h.inputs ≤ blocks_in o.inputs → length h.inputs ≡ length o.inputs
      → Tried shown (o.hand.stock.block * width) later h.hand n.hand blocks → n.inputs ≡ h.inputs → length n.idle ≡ length h.idle → All (HasBlock o.hand.stock.block) n.idle
      → (length n.hand.made.stored + later) * o.hand.stock.block < total o + o.hand.stock.block
      → Merging shown width later o n
  merging_of width workers later o h n blocks ready made berths parts sources fewer eight wrote inputs idle is_idle few =
      let so = state [] o.inputs o.idle o.hand.stock in
      let sh = state [] h.inputs h.idle h.hand.stock in
      let stored : h.hand.made.stored ≡ o.hand.made.stored = ap (λ a. a.stored) made in
      let mid = table h.inputs h.idle h.hand.made h.hand.berths h.hand.stock in
      let first : Went 0 (blocks_in o.inputs - blocks_in h.inputs) (table_slots shown o) (table_slots shown h) =
      Went-placed 0 (blocks_in o.inputs - blocks_in h.inputs) (slots_shown shown o.hand.made.stored ++ slots_shown shown o.hand.berths) (slots_in shown so) (slots_in shown sh) (table_slots shown o) (table_slots shown h)
      (λ f. omega (
        arith,
        table_sum f o,
        sum_by-append f (slots_shown shown o.hand.made.stored) (slots_shown shown o.hand.berths),
        sum_by-append f (external_slots shown o.inputs) o.hand.stock.kept,
      ))
      (λ f. omega (
        arith,
        table_sum f h,
        sum_by-append f (slots_shown shown o.hand.made.stored) (slots_shown shown o.hand.berths),
        sum_by-append f (external_slots shown h.inputs) h.hand.stock.kept,
        ap (λ bs. sum_by f (slots_shown shown bs)) stored,
        ap (λ bs. sum_by f (slots_shown shown bs)) berths,
      ))
      (parts_went shown so sh parts) in
      let second : Went (length blocks + later) 0 (table_slots shown h) (table_slots shown n) =
      Went-placed (length blocks + later) 0 (external_slots shown h.inputs) (hand_slots shown h.hand) (hand_slots shown n.hand) (table_slots shown h) (table_slots shown n)
      (λ f. sum_by-append f (external_slots shown h.inputs) (hand_slots shown h.hand))
      (λ f. sum_by-append f (external_slots shown n.inputs) (hand_slots shown n.hand) ∙ ap (λ xs. sum_by f (external_slots shown xs) + sum_by f (hand_slots shown n.hand)) inputs)
      wrote.went in
      let both = Went-trans 0 (blocks_in o.inputs - blocks_in h.inputs) (length blocks + later) 0 (table_slots shown o) (table_slots shown h) (table_slots shown n) first second in
      let reads : blocks_in o.inputs - blocks_in h.inputs + 0 ≡ blocks_in o.inputs - blocks_in n.inputs = (let e : blocks_in n.inputs ≡ blocks_in h.inputs = ap blocks_in inputs in omega (arith, e)) in
      let block : h.hand.stock.block ≡ o.hand.stock.block = parts.kept.block in
      let ext : length (external_slots shown n.inputs) ≡ length (external_slots shown h.inputs) = ap (λ xs. length (external_slots shown xs)) inputs in
      record {
        blocks = blocks;
        made = wrote.made ∙ ap (λ (a : External S R). external a.level a.loaded a.lifted (a.stored ++ blocks)) made;
        few = few;
        fewer = subst (λ xs. blocks_in xs ≤ blocks_in o.inputs) (sym inputs) fewer;
        eight = ap length inputs ∙ eight;
        went = subst (λ r. Went (length blocks + later) r (table_slots shown o) (table_slots shown n)) reads (subst (λ w. Went w (blocks_in o.inputs - blocks_in h.inputs + 0) (table_slots shown o) (table_slots shown n)) (let e : 0 + (length blocks + later) ≡ length blocks + later = omega arith in e) both);
        rest = SameRest-trans o.hand.stock h.hand.stock n.hand.stock (parts_rest shown so sh refl refl parts) wrote.rest;
        room = omega (arith, ext, wrote.room, parts.kept.slot_room, ap length stored, ap length berths);
        buffers = omega (arith, parts.buffers, idle, ap external_buffers inputs);
        sizes = wrote.sizes (subst (λ (a : External S R). All (HasSlot shown (o.hand.stock.block * width)) (a.stored ++ h.hand.berths)) (sym made) (subst (λ bs. All (HasSlot shown (o.hand.stock.block * width)) (o.hand.made.stored ++ bs)) (sym berths) ready.sizes));
        written = wrote.written;
        same_idle = is_idle;
        same_external = subst (All (HasSlots shown (o.hand.stock.block * width))) (sym inputs) (subst (λ b. All (HasSlots shown (b * width)) h.inputs) block sources.external);
        same_loaded = subst (All (λ (a : External S R). RunHasBlock o.hand.stock.block a.loaded)) (sym inputs) (subst (λ b. All (λ (a : External S R). RunHasBlock b a.loaded) h.inputs) block sources.loaded);
      }

  -- no call failed, as blocks were loaded and then blocks written
  pub quiet_both :
      (o : Table S R) (inputs : List (External S R)) (idle idle' : List (Block R)) (stock : Stock) (n : Hand S R)
      → AreQuiet (slots_in shown (state [] o.inputs o.idle o.hand.stock)) (slots_in shown (state [] inputs idle stock)) → AreQuiet (hand_slots shown (hand o.hand.made o.hand.berths stock)) (hand_slots shown n)
      → AreQuiet (table_slots shown o) (table_slots shown (table inputs idle' n.made n.berths n.stock))
  quiet_both o inputs idle idle' stock n loaded written =
      let t = table inputs idle' n.made n.berths n.stock in
      let e : all_faults (table_slots shown t) ≡ all_faults (table_slots shown o) =
      omega (
        arith,
        loaded,
        written,
        table_sum f_of o,
        table_sum f_of t,
        sum_by-append f_of (external_slots shown o.inputs) o.hand.stock.kept,
        sum_by-append f_of (external_slots shown inputs) stock.kept,
        hand_sum shown f_of (hand o.hand.made o.hand.berths stock),
        hand_sum shown f_of n,
      ) in
      e

  -- Blocks were loaded, and then blocks written, each of them
  pub each_both :
      (o : Table S R) (inputs : List (External S R)) (idle idle' : List (Block R)) (stock : Stock) (n : Hand S R) (k : ℕ)
      → PartsKept shown (state [] o.inputs o.idle o.hand.stock) (state [] inputs idle stock) → AtLeast k (hand_slots shown (hand o.hand.made o.hand.berths stock)) (hand_slots shown n)
      → AtLeast k (table_slots shown o) (table_slots shown (table inputs idle' n.made n.berths n.stock))
  each_both o inputs idle idle' stock n k loaded written exact =
      let t = table inputs idle' n.made n.berths n.stock in
      let f : Shown → ℕ = λ s. s.writes in
      let here : sum_by f (hand_slots shown n) ≤ sum_by f (table_slots shown t) = omega (arith, table_sum f t, hand_sum shown f n) in
      omega (
        arith,
        loaded.transfers.writes,
        written (omega (arith, here, exact)),
        table_sum f o,
        table_sum f t,
        sum_by-append f (external_slots shown o.inputs) o.hand.stock.kept,
        sum_by-append f (external_slots shown inputs) stock.kept,
        hand_sum shown f (hand o.hand.made o.hand.berths stock),
        hand_sum shown f n,
      )

  -- nothing was merged yet
  pub Merging-none : (width workers : ℕ) (o : Table S R) → BetweenBatches shown width workers o → Merging shown width 0 o o
  Merging-none width workers o ready =
      record {
        blocks = [];
        made = ap (λ bs. external o.hand.made.level o.hand.made.loaded o.hand.made.lifted bs) (sym (append-nil o.hand.made.stored));
        few = subst (λ k. k * o.hand.stock.block < total o + o.hand.stock.block) (let e : length o.hand.made.stored ≡ length o.hand.made.stored + 0 = omega arith in e) (omega (arith, ready.tight));
        fewer = omega arith;
        eight = refl;
        went = subst (λ r. Went 0 r (table_slots shown o) (table_slots shown o)) (let e : 0 ≡ blocks_in o.inputs - blocks_in o.inputs = omega arith in e) (Went-refl (table_slots shown o));
        rest = record { block = refl; drawn = refl; buffers = refl };
        room = omega arith;
        buffers = refl;
        sizes = ready.sizes;
        written = All-nil (λ (b : DeviceBlock S R). 1 ≤ (shown b.slot).writes);
        same_idle = ready.may.sources.idle;
        same_external = ready.may.sources.external;
        same_loaded = ready.may.sources.loaded;
      }

  -- one batch and some more
  pub Merging-trans : (width later : ℕ) (o h n : Table S R) → Merging shown width 0 o h → total h ≡ total o → Merging shown width later h n → Merging shown width later o n
  Merging-trans width later o h n a same b =
      let W : DeviceBlock S R → Type 0 = λ b. 1 ≤ (shown b.slot).writes in
      let block : h.hand.stock.block ≡ o.hand.stock.block = a.rest.block in
      let calls : length a.blocks + 0 + (length b.blocks + later) ≡ length (a.blocks ++ b.blocks) + later = omega (arith, length-append a.blocks b.blocks) in
      let both = Went-trans (length a.blocks + 0) (blocks_in o.inputs - blocks_in h.inputs) (length b.blocks + later) (blocks_in h.inputs - blocks_in n.inputs) (table_slots shown o) (table_slots shown h) (table_slots shown n) a.went b.went in
      let reads : blocks_in o.inputs - blocks_in h.inputs + (blocks_in h.inputs - blocks_in n.inputs) ≡ blocks_in o.inputs - blocks_in n.inputs = omega (arith, a.fewer, b.fewer) in
      record {
        blocks = a.blocks ++ b.blocks;
        made = b.made ∙ ap (λ (m : External S R). external m.level m.loaded m.lifted (m.stored ++ b.blocks)) a.made ∙ ap (λ bs. external o.hand.made.level o.hand.made.loaded o.hand.made.lifted bs) (append_assoc o.hand.made.stored a.blocks b.blocks);
        few = subst (λ k. (length n.hand.made.stored + later) * k < total o + k) block (subst (λ t. (length n.hand.made.stored + later) * h.hand.stock.block < t + h.hand.stock.block) same b.few);
        fewer = omega (arith, a.fewer, b.fewer);
        eight = b.eight ∙ a.eight;
        went = subst (λ w. Went w (blocks_in o.inputs - blocks_in n.inputs) (table_slots shown o) (table_slots shown n)) calls (subst (λ r. Went (length a.blocks + 0 + (length b.blocks + later)) r (table_slots shown o) (table_slots shown n)) reads both);
        rest = SameRest-trans o.hand.stock h.hand.stock n.hand.stock a.rest b.rest;
        room = omega (arith, a.room, b.room);
        buffers = b.buffers ∙ a.buffers;
        sizes = subst (λ k. All (HasSlot shown (k * width)) (n.hand.made.stored ++ n.hand.berths)) block b.sizes;
        written = All-append W a.blocks b.blocks a.written b.written;
        same_idle = subst (λ k. All (HasBlock k) n.idle) block b.same_idle;
        same_external = subst (λ k. All (HasSlots shown (k * width)) n.inputs) block b.same_external;
        same_loaded = subst (λ k. All (λ (a : External S R). RunHasBlock k a.loaded) n.inputs) block b.same_loaded;
      }

  -- and then more blocks were loaded
  pub Merging-read :
      (width workers later : ℕ) (o h : Table S R) (inputs : List (External S R)) (idle : List (Block R)) (stock : Stock)
      → Merging shown width later o h → PartsKept shown (state [] h.inputs h.idle h.hand.stock) (state [] inputs idle stock) → AreSources shown width workers (state [] inputs idle stock)
      → blocks_in inputs ≤ blocks_in h.inputs → length inputs ≡ length h.inputs
      → Merging shown width later o (table inputs idle h.hand.made h.hand.berths stock)
  Merging-read width workers later o h inputs idle stock a parts sources fewer eight =
      let n = table inputs idle h.hand.made h.hand.berths stock in
      let sh = state [] h.inputs h.idle h.hand.stock in
      let sn = state [] inputs idle stock in
      let hand_there = slots_shown shown h.hand.made.stored ++ slots_shown shown h.hand.berths in
      let block : stock.block ≡ o.hand.stock.block = parts.kept.block ∙ a.rest.block in
      let more : Went 0 (blocks_in h.inputs - blocks_in inputs) (table_slots shown h) (table_slots shown n) =
      Went-placed 0 (blocks_in h.inputs - blocks_in inputs) hand_there (slots_in shown sh) (slots_in shown sn) (table_slots shown h) (table_slots shown n)
      (λ f. omega (arith, table_sum f h, sum_by-append f (slots_shown shown h.hand.made.stored) (slots_shown shown h.hand.berths), sum_by-append f (external_slots shown h.inputs) h.hand.stock.kept))
      (λ f. omega (arith, table_sum f n, sum_by-append f (slots_shown shown h.hand.made.stored) (slots_shown shown h.hand.berths), sum_by-append f (external_slots shown inputs) stock.kept))
      (parts_went shown sh sn parts) in
      let w = length a.blocks + later in
      let r = blocks_in o.inputs - blocks_in h.inputs in
      let r' = blocks_in h.inputs - blocks_in inputs in
      let both = Went-trans w r 0 r' (table_slots shown o) (table_slots shown h) (table_slots shown n) a.went more in
      record {
        blocks = a.blocks;
        made = a.made;
        few = a.few;
        fewer = omega (arith, a.fewer, fewer);
        eight = eight ∙ a.eight;
        went = subst (λ k. Went w k (table_slots shown o) (table_slots shown n)) (let e : r + r' ≡ blocks_in o.inputs - blocks_in inputs = omega (arith, a.fewer, fewer) in e)
            (subst (λ k. Went k (r + r') (table_slots shown o) (table_slots shown n)) (let e : w + 0 ≡ w = omega arith in e) both);
        rest = SameRest-trans o.hand.stock h.hand.stock stock a.rest (parts_rest shown sh sn refl refl parts);
        room = omega (arith, a.room, parts.kept.slot_room);
        buffers = omega (arith, a.buffers, parts.buffers);
        sizes = a.sizes;
        written = a.written;
        same_idle = subst (λ k. All (HasBlock k) idle) block sources.idle;
        same_external = subst (λ k. All (HasSlots shown (k * width)) inputs) block sources.external;
        same_loaded = subst (λ k. All (λ (a : External S R). RunHasBlock k a.loaded) inputs) block sources.loaded;
      }

  -- and then a slot in hand went back to the supply
  pub Merging-freed :
      (width later : ℕ) (o : Table S R) (inputs : List (External S R)) (idle : List (Block R)) (made : External S R) (b : DeviceBlock S R) (berths : List (DeviceBlock S R)) (stock stock' : Stock)
      → Merging shown width later o (table inputs idle made (b ∷ berths) stock) → GetsSlot stock (shown b.slot) stock' → 0 < stock.slot_room
      → Merging shown width later o (table inputs idle made berths stock')
  Merging-freed width later o inputs idle made b berths stock stock' a gets some =
      let h = table inputs idle made (b ∷ berths) stock in
      let n = table inputs idle made berths stock' in
      let P : DeviceBlock S R → Type 0 = HasSlot shown (o.hand.stock.block * width) in
      let w = length a.blocks + later in
      let r = blocks_in o.inputs - blocks_in inputs in
      let kept : stock'.kept ≡ stock.kept ++ shown b.slot ∷ [] = ap (λ s. s.kept) gets in
      let less : stock'.slot_room ≡ stock.slot_room - 1 = ap (λ s. s.slot_room) gets in
      record {
        blocks = a.blocks;
        made = a.made;
        few = a.few;
        fewer = a.fewer;
        eight = a.eight;
        went = Went-placed w r [] (table_slots shown o) (table_slots shown h) (table_slots shown o) (table_slots shown n) (λ f. let z : sum_by f [] ≡ 0 = refl in omega (arith, z))
            (λ f. let z : sum_by f [] ≡ 0 = refl in
            omega (arith, z, table_sum f h, table_sum f n, sum_by-cons f (shown b.slot) (slots_shown shown berths), ap (sum_by f) kept, sum_by-append f stock.kept (shown b.slot ∷ []), sum_by-cons f (shown b.slot) []))
            a.went;
        rest = SameRest-trans o.hand.stock stock stock' a.rest (record { block = ap (λ s. s.block) gets; drawn = ap (λ s. s.drawn) gets; buffers = ap (λ s. s.buffer_room) gets });
        room = omega (arith, a.room, less, some);
        buffers = a.buffers;
        sizes = All-append P made.stored berths (all_left P made.stored (b ∷ berths) a.sizes) (All-tail P b berths (all_right P made.stored (b ∷ berths) a.sizes));
        written = a.written;
        same_idle = a.same_idle;
        same_external = a.same_external;
        same_loaded = a.same_loaded;
      }

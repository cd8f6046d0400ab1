-- Two merges side by side, as two merges one after the other.
use Rattle.std.proofs.Common.{◌≡◌, ℕ, ◌+◌, ◌-◌, ◌*◌, ◌<◌, ◌≤◌, ◌^◌, min, List, [], ◌∷◌, ◌++◌, length, take, drop, sum_by, All, refl, sym, ap, ap₂, ◌∙◌, subst, arith, length-append, append-nil, take-append-drop, IsPermutation}
use Rattle.std.specs.Prelude.{Result, Ok, Err, ⊤}
use Rattle.std.specs.declared.cmp.Ordering.{Ordering}
use Rattle.std.proofs.Math.Seq.{take-add, take-append_seam, drop-append_seam}
use Rattle.std.proofs.lemmas.List.{length-drop, length-take, drop-drop, append_assoc}
use Rattle.std.proofs.lemmas.List.Sums.{sum_by-cons, sum_by-append}
use Rattle.std.proofs.lemmas.List.Sorted.{All-permutation, IsPermutation-trans, IsPermutation-append_comm, IsPermutation-append_right, sum_by-IsPermutation, length_permutation}
use Rattle.std.proofs.lemmas.List.Elements.{All-append, All-push}
use Rattle.ppq_fetch.specs.ppq_record.Order.{Ascends}
use Rattle.ppq_fetch.specs.ppq_block.Block.{Block}
use Rattle.ppq_fetch.specs.ppq_outside.Shown.{Shown, AllTell}
use Rattle.ppq_fetch.specs.ppq_lane.declared.lanes.Lanes.{Lanes}
use Rattle.ppq_fetch.specs.ppq_array.declared.berth.DeviceBlock.{DeviceBlock}
use Rattle.ppq_fetch.specs.ppq_array.Run.{run_of, buffers_of}
use Rattle.ppq_fetch.specs.ppq_array.External.{External, external, records_in}
use Rattle.ppq_fetch.specs.ppq_array.Supply.{Stock}
use Rattle.ppq_fetch.specs.ppq_array.Owner.{slots_shown, HasBlock, new_owner}
use Rattle.ppq_fetch.specs.ppq_array.Holdings.{external_slots, external_buffers}
use Rattle.ppq_fetch.proofs.ppq_array.Noted.{all_left, all_right}
use Rattle.ppq_spill.specs.Leveling.{HasLevel, EightOf, MayLevel, ArraysAscend}
use Rattle.ppq_spill.specs.Making.{Table, table, table_slots, held_slots, last_eight, all_but_eight, MergedOn, HasNothing, freed, LastMerged}
use Rattle.ppq_spill.specs.Pairing.{MayPair, LevelStep, PairMerged, last_part, part_before, all_but_sixteen, with_rest}
use Rattle.ppq_spill.proofs.Keeping.{sum_ones, slots_long}
use Rattle.ppq_spill.proofs.Fetches.{slots_counted}
use Rattle.ppq_spill.proofs.Merges.{table_sum}
use Rattle.ppq_spill.proofs.Leveled.{emptied_none}
use Rattle.ppq_spill.proofs.Starts.{eight_last, eight_sum, others_all}
use Rattle.ppq_spill.proofs.Moving.{draws_none}
use Rattle.ppq_spill.proofs.Among.{ready_framed, on_framed}
use Rattle.ppq_spill.proofs.Ends.{level_ends}

-- a supply of which two numbers are known
pub stock_is : (s : Stock) {kept : List Shown} {room : ℕ} → s.kept ≡ kept → s.slot_room ≡ room → s ≡ record s { kept = kept; slot_room = room }
stock_is s kept room = ap₂ (λ k r. record s { kept = k; slot_room = r }) kept room

module _ {S R : Type 0} where
  abbrev pub new_array : ℕ → External S R
  new_array level = external (min (level + 1) 7) (run_of [] 0 []) [] []

module _ {S R : Type 0} (shown : S → Shown) (width : ℕ) where
  module _ (workers level : ℕ) (at_most : level ≤ 7) (cmp : R → R → Ordering) (record_of : List ℕ → R) where
    -- the 8 arrays at the end were merged, of which nothing was loaded
    pub step_of :
        (old g new : List (External S R)) (lanes lanes' : Lanes (DeviceBlock S R) R) (stock now : Stock) (t : Table S R)
        → IsPermutation old g → 8 ≤ length g → All (HasLevel level) (last_eight g) → MayLevel shown width workers old lanes stock → external_buffers old ≡ 0 → lanes'.jobs.items ≡ lanes.jobs.items → length lanes'.batch.items ≡ length lanes.batch.items
        → ArraysAscend cmp record_of width shown old stock → MergedOn cmp record_of width workers shown (table (last_eight g) lanes.idle (new_array level) [] stock) t → All HasNothing t.inputs → new ≡ all_but_eight g ++ t.hand.made ∷ [] → lanes'.idle ≡ t.idle
        → now ≡ freed shown t.hand → length t.hand.berths ≤ t.hand.stock.slot_room → LevelStep cmp record_of width shown level workers old new lanes lanes' stock now
    step_of old g new lanes lanes' stock now t moved enough levels may none jobs batch ascend on emptied new_is idle now_is fits =
        let of = eight_last level old g moved enough levels in
        let long : length {A = DeviceBlock S R} [] ≡ external_buffers (last_eight g) = omega (arith, none, eight_sum level old (last_eight g) (all_but_eight g) of (λ (a : External S R). length (buffers_of a.loaded))) in
        let last : LastMerged cmp record_of width workers shown (all_but_eight g) (table (last_eight g) lanes.idle (new_array level) [] stock) new lanes'.idle now =
        record { end = t; merged = on; emptied = emptied; arrays_are = new_is; idle_is = idle; stock_is = now_is } in
        let e = level_ends shown width workers level old g lanes stock at_most moved enough levels may stock [] (draws_none shown width stock) long (new_array level) refl cmp record_of new lanes' now jobs batch ascend last in
        let ones : Shown → ℕ = λ _. 1 in
        let o = table (last_eight g) lanes.idle (new_array level) [] stock in
        record {
          kept = e.0.kept;
          tells = e.0.tells;
          calls = e.0.calls;
          counted = e.0.counted;
          size = e.0.size;
          again = e.1;
          merged = e.3;
          slots =
              omega (
                arith,
                on.merging.room,
                on.merging.went.same.length,
                table_sum shown ones o,
                table_sum shown ones t,
                sum_ones (table_slots shown o),
                sum_ones (table_slots shown t),
                sum_ones (external_slots shown (last_eight g)),
                sum_ones (external_slots shown t.inputs),
                sum_ones stock.kept,
                sum_ones t.hand.stock.kept,
                sum_ones (slots_shown shown t.hand.made.stored),
                sum_ones (slots_shown shown t.hand.berths),
                slots_long shown t.hand.made.stored,
                slots_long shown t.hand.berths,
                ap (λ s. length s.kept) now_is,
                length-append t.hand.stock.kept (slots_shown shown t.hand.berths),
                ap (λ s. s.slot_room) now_is,
                fits,
              );
        }

    -- 16 arrays were merged, 8 beside 8, of which nothing was loaded
    module _ (old g new : List (External S R)) (lanes lanes' : Lanes (DeviceBlock S R) R) (stock now : Stock) (lent rest : List (Block R)) (a b : Table S R)
        (moved : IsPermutation old g) (enough : 16 ≤ length g) (levels : All (HasLevel level) (drop (length g - 16) g)) (may : MayLevel shown width workers old lanes stock) (pair : MayPair workers old lanes stock) (ascend : ArraysAscend cmp record_of width shown old stock)
        (idle_is : lanes.idle ≡ lent ++ rest) (ten : length lent ≡ 10)
        (on_a : MergedOn cmp record_of width workers shown (table (last_part g) rest (new_array level) [] stock) a) (none_a : All HasNothing a.inputs)
        (on_b : MergedOn cmp record_of width 1 shown (table (part_before g) lent (new_array level) [] (new_owner stock.block (2 ^ 32 - 2) 0)) b) (none_b : All HasNothing b.inputs)
        (home_b : length b.hand.stock.kept + b.hand.stock.slot_room ≡ 2 ^ 32 - 2)
        (now_is : now ≡ with_rest a.hand.stock (slots_shown shown a.hand.berths) b.hand.stock.kept (slots_shown shown b.hand.berths))
        (idle_now : lanes'.idle ≡ a.idle ++ b.idle) (jobs : lanes'.jobs.items ≡ lanes.jobs.items) (batch : length lanes'.batch.items ≡ length lanes.batch.items)
        (new_is : new ≡ all_but_sixteen g ++ a.hand.made ∷ b.hand.made ∷ []) where
      abbrev front : List (External S R)
      front = all_but_sixteen g

      abbrev high : List (External S R)
      high = last_part g

      abbrev low : List (External S R)
      low = part_before g

      abbrev P : External S R → Type 0
      P = HasLevel level

      m : ℕ
      m = length g - 16

      high_is : last_eight g ≡ high
      high_is = sym (drop-drop 8 (length g - 16) g ∙ ap (λ k. drop k g) (let e : length g - 16 + 8 ≡ length g - 8 = omega (arith, enough) in e))

      behind_is : all_but_eight g ≡ front ++ low
      behind_is = ap (λ k. take k g) (let e : length g - 8 ≡ length g - 16 + 8 = omega (arith, enough) in e) ∙ take-add (length g - 16) 8 g

      tail_is : low ++ high ≡ drop (length g - 16) g
      tail_is = take-append-drop 8 (drop (length g - 16) g)

      tail_levels : All P (low ++ high)
      tail_levels = subst (All P) (sym tail_is) levels

      low_long : length low ≡ 8
      low_long = omega (arith, length-take 8 (drop (length g - 16) g), length-drop (length g - 16) g, enough)

      -- what is idle and of which size
      lent_blocks : All (HasBlock stock.block) lent
      lent_blocks = all_left (HasBlock stock.block) lent rest (subst (All (HasBlock stock.block)) idle_is may.size.idle)

      old_idle : length lanes.idle ≡ 10 + length rest
      old_idle = omega (arith, ap length idle_is, length-append lent rest, ten)

      of : EightOf level old (last_eight g) (all_but_eight g)
      of = eight_last level old g moved (omega (arith, enough)) (subst (All P) (sym high_is) (all_right P low high tail_levels))

      abbrev buf : External S R → ℕ
      buf x = length (buffers_of x.loaded)

      high_buffers : external_buffers high ≡ 0
      high_buffers = omega (arith, pair.none_loaded, eight_sum level old (last_eight g) (all_but_eight g) of buf, ap external_buffers high_is)

      behind_buffers : external_buffers (all_but_eight g) ≡ 0
      behind_buffers = omega (arith, pair.none_loaded, eight_sum level old (last_eight g) (all_but_eight g) of buf)

      low_buffers : external_buffers low ≡ 0
      low_buffers = omega (arith, behind_buffers, ap external_buffers behind_is, sum_by-append buf front low)

      a_none : (external_slots shown a.inputs ≡ []) × (external_buffers a.inputs ≡ 0)
      a_none = emptied_none shown a.inputs none_a

      b_none : (external_slots shown b.inputs ≡ []) × (external_buffers b.inputs ≡ 0)
      b_none = emptied_none shown b.inputs none_b

      a_idle : length a.idle ≡ length rest
      a_idle = omega (arith, on_a.merging.buffers, a_none.1, high_buffers)

      b_idle : length b.idle ≡ 10
      b_idle = omega (arith, on_b.merging.buffers, b_none.1, low_buffers, ten)

      now_block : now.block ≡ stock.block
      now_block = ap (λ s. s.block) now_is ∙ on_a.merging.rest.block

      now_row : now.drawn ≡ stock.drawn
      now_row = ap (λ s. s.drawn) now_is ∙ on_a.merging.rest.drawn

      now_buffers : now.buffer_room ≡ stock.buffer_room
      now_buffers = ap (λ s. s.buffer_room) now_is ∙ on_a.merging.rest.buffers

      -- the supply, the lanes and the arrays between the two
      abbrev stock_a : Stock
      stock_a = record now { kept = a.hand.stock.kept; slot_room = a.hand.stock.slot_room }

      abbrev mid_stock : Stock
      mid_stock = record now { kept = a.hand.stock.kept ++ slots_shown shown a.hand.berths; slot_room = a.hand.stock.slot_room - length a.hand.berths }

      abbrev mid_lanes : Lanes (DeviceBlock S R) R
      mid_lanes = record lanes { idle = a.idle ++ lent }

      abbrev mid : List (External S R)
      mid = all_but_eight g ++ a.hand.made ∷ []

      mid_blocks : All (HasBlock stock.block) (a.idle ++ lent)
      mid_blocks = All-append (HasBlock stock.block) a.idle lent on_a.merging.same_idle lent_blocks

      mid_idle : length (a.idle ++ lent) ≡ length a.idle + 10
      mid_idle = omega (arith, length-append a.idle lent, ten)

      few_idle : length (a.idle ++ lent) < 2 ^ 32 - 1
      few_idle = omega (arith, mid_idle, a_idle, old_idle, may.few_buffers)

      enough_idle : 2 * workers + 8 ≤ length a.idle
      enough_idle = omega (arith, pair.buffers, a_idle, old_idle)

      a_fits : length a.hand.berths ≤ a.hand.stock.slot_room
      a_fits = omega (arith, on_a.ready.room)

      first : LevelStep cmp record_of width shown level workers old mid lanes mid_lanes stock mid_stock
      first =
          let o = table high rest (new_array level) [] stock in
          let ready =
          ready_framed shown width [] 10 o a lanes.idle (a.idle ++ lent) stock stock_a refl now_block now_row now_buffers refl refl (omega arith) (omega (arith, old_idle)) mid_idle workers workers mid_blocks on_a.merging.rest.block
          (omega (arith, on_a.merging.eight, ap length high_is, of.eight)) (omega (arith, enough_idle, mid_idle)) few_idle on_a.ready.room none_a on_a.ready in
          let on = on_framed shown width [] 10 o a lanes.idle (a.idle ++ lent) stock stock_a refl now_block now_row now_buffers refl refl (omega arith) (omega (arith, old_idle)) mid_idle cmp record_of workers workers mid_blocks ready on_a in
          step_of old g mid lanes mid_lanes stock mid_stock (table a.inputs (a.idle ++ lent) a.hand.made a.hand.berths stock_a) moved (omega (arith, enough)) (subst (All P) (sym high_is) (all_right P low high tail_levels)) may pair.none_loaded refl refl ascend
          (subst (λ i. MergedOn cmp record_of width workers shown (table i lanes.idle (new_array level) [] stock) (table a.inputs (a.idle ++ lent) a.hand.made a.hand.berths stock_a)) (sym high_is) on) none_a refl refl refl a_fits

      -- the other 8 stand at the end
      others : List (External S R)
      others = front ++ a.hand.made ∷ []

      abbrev g2 : List (External S R)
      g2 = (front ++ a.hand.made ∷ []) ++ low

      moved2 : IsPermutation mid g2
      moved2 =
          let made = a.hand.made ∷ [] in
          subst (λ xs. IsPermutation (xs ++ made) g2) (sym behind_is)
          (subst (λ xs. IsPermutation xs g2) (sym (append_assoc front low made))
          (subst (λ xs. IsPermutation (front ++ (low ++ made)) xs) (sym (append_assoc front made low)) (IsPermutation-append_right front (low ++ made) (made ++ low) (IsPermutation-append_comm low made))))

      seam : length g2 - 8 ≡ length (front ++ a.hand.made ∷ [])
      seam = omega (arith, length-append (front ++ a.hand.made ∷ []) low, low_long)

      last2 : last_eight g2 ≡ low
      last2 = ap (λ k. drop k g2) seam ∙ drop-append_seam (front ++ a.hand.made ∷ []) low

      behind2 : all_but_eight g2 ≡ front ++ a.hand.made ∷ []
      behind2 = ap (λ k. take k g2) seam ∙ take-append_seam (front ++ a.hand.made ∷ []) low

      made_none : buf a.hand.made ≡ 0
      made_none = ap (λ (x : External S R). length (buffers_of x.loaded)) on_a.ready.shape

      mid_none : external_buffers mid ≡ 0
      mid_none = omega (arith, behind_buffers, made_none, sum_by-append buf (all_but_eight g) (a.hand.made ∷ []), sum_by-cons buf a.hand.made [])

      no_row : mid_stock.drawn ≡ []
      no_row = now_row ∙ pair.no_row

      ascend2 : ArraysAscend cmp record_of width shown mid mid_stock
      ascend2 tell =
          let Q : External S R → Type 0 = λ x. Ascends cmp (records_in record_of width shown x) in
          let k = first.merged in
          let after : AllTell (external_slots shown mid ++ mid_stock.kept ++ stock.drawn) = subst (λ d. AllTell (external_slots shown mid ++ mid_stock.kept ++ d)) (sym pair.no_row) (subst AllTell (sym (append-nil (external_slots shown mid ++ mid_stock.kept))) tell) in
          let before : AllTell (external_slots shown old ++ stock.kept ++ mid_stock.drawn) = first.tells.1 after in
          let then : AllTell (external_slots shown old ++ stock.kept) = subst AllTell (append-nil (external_slots shown old ++ stock.kept)) (subst (λ d. AllTell (external_slots shown old ++ stock.kept ++ d)) no_row before) in
          subst (All Q) (sym k.arrays) (All-push Q k.others k.made (others_all level old k.inputs k.others k.of Q (ascend then)) (k.ascends before))

      -- the slots of the other 8 fit
      low_slots : length (external_slots shown low) ≤ mid_stock.slot_room
      low_slots =
          let long : External S R → ℕ = λ x. length x.stored in
          omega (
            arith,
            first.size.takes_back,
            slots_counted shown mid,
            slots_counted shown low,
            sum_by-append long (all_but_eight g) (a.hand.made ∷ []),
            ap (sum_by long) behind_is,
            sum_by-append long front low,
          )

      b_room : held_slots shown b + length b.hand.stock.kept ≡ length (external_slots shown low)
      b_room = omega (arith, on_b.merging.room, home_b)

      abbrev stock_b : Stock
      stock_b = record now { kept = (a.hand.stock.kept ++ slots_shown shown a.hand.berths) ++ b.hand.stock.kept; slot_room = (a.hand.stock.slot_room - length a.hand.berths) - length b.hand.stock.kept }

      new_blocks : All (HasBlock stock.block) (a.idle ++ b.idle)
      new_blocks = All-append (HasBlock stock.block) a.idle b.idle on_a.merging.same_idle on_b.merging.same_idle

      new_idle : length (a.idle ++ b.idle) ≡ length b.idle + length a.idle
      new_idle = omega (arith, length-append a.idle b.idle)

      b_slots : (mid_stock.slot_room - length b.hand.stock.kept) + (2 ^ 32 - 2) ≡ mid_stock.slot_room + b.hand.stock.slot_room
      b_slots = omega (arith, b_room, low_slots, home_b)

      second : LevelStep cmp record_of width shown level workers mid new mid_lanes lanes' mid_stock now
      second =
          let aside = new_owner stock.block (2 ^ 32 - 2) 0 in
          let o = table low lent (new_array level) [] aside in
          let kept_o : mid_stock.kept ≡ mid_stock.kept ++ [] = sym (append-nil mid_stock.kept) in
          let long_o : length (a.idle ++ lent) ≡ length lent + length a.idle = omega (arith, mid_idle, ten) in
          let ready =
          ready_framed shown width mid_stock.kept (length a.idle) o b (a.idle ++ lent) (a.idle ++ b.idle) mid_stock stock_b now_block refl refl refl kept_o refl b_slots long_o new_idle 1 workers new_blocks on_b.merging.rest.block
          (omega (arith, on_b.merging.eight, low_long)) (omega (arith, enough_idle, new_idle)) (omega (arith, new_idle, b_idle, few_idle, mid_idle)) (omega (arith, b_room, low_slots)) none_b on_b.ready in
          let on = on_framed shown width mid_stock.kept (length a.idle) o b (a.idle ++ lent) (a.idle ++ b.idle) mid_stock stock_b now_block refl refl refl kept_o refl b_slots long_o new_idle cmp record_of 1 workers new_blocks ready on_b in
          step_of mid g2 new mid_lanes lanes' mid_stock now (table b.inputs (a.idle ++ b.idle) b.hand.made b.hand.berths stock_b) moved2 (omega (arith, length-append (front ++ a.hand.made ∷ []) low, low_long)) (subst (All P) (sym last2) (all_left P low high tail_levels)) first.again mid_none
          jobs batch ascend2
          (subst (λ i. MergedOn cmp record_of width workers shown (table i (a.idle ++ lent) (new_array level) [] mid_stock) (table b.inputs (a.idle ++ b.idle) b.hand.made b.hand.berths stock_b)) (sym last2) on) none_b
          (new_is ∙ sym (append_assoc front (a.hand.made ∷ []) (b.hand.made ∷ [])) ∙ ap (λ xs. xs ++ b.hand.made ∷ []) (sym behind2)) idle_now
          (stock_is now (ap (λ s. s.kept) now_is) (let e : now.slot_room ≡ stock_b.slot_room - length b.hand.berths = omega (arith, ap (λ s. s.slot_room) now_is, slots_long shown a.hand.berths, slots_long shown b.hand.berths) in e))
          (omega (arith, b_room, low_slots))

      pub pair_merged : PairMerged cmp record_of width shown level workers old new lanes lanes' stock now
      pair_merged =
          record {
            mid = mid;
            mid_lanes = mid_lanes;
            mid_stock = mid_stock;
            first = first;
            second = second;
            lanes_stay = record { no_job = may.no_job; batch = refl; room = refl };
            no_row = no_row;
            buffers = refl;
          }

-- Runs all of whose records were consumed; and slots and buffers that went from a supply into a row and a pool, and come back.
use Rattle.std.proofs.Common.{◌≡◌, ℕ, ◌+◌, List, [], ◌∷◌, ◌++◌, length, drop, ap, ◌∙◌, arith, append-nil, length-drop, ◌-◌, ◌<◌, All, sym, ap₂, length-append}
use Rattle.std.proofs.lemmas.List.Sums.{sum_by-append, sum_by-cons}
use Rattle.ppq_pass.specs.ppq_array.Run.{Run, IsRun, items_of, buffers_of}
use Rattle.ppq_pass.specs.ppq_array.External.{External}
use Rattle.ppq_pass.specs.ppq_array.Holdings.{external_buffers}
use Rattle.ppq_pass.proofs.ppq_array.Items.{no_live}
use Rattle.std.proofs.lemmas.List.{length-map, nil_from_length}
use Rattle.std.proofs.lemmas.List.Elements.{All-head}
use Rattle.ppq_pass.specs.ppq_outside.Shown.{Shown}
use Rattle.ppq_pass.specs.ppq_array.Supply.{Stock}
use Rattle.ppq_pass.specs.ppq_array.Owner.{slots_shown}
use Rattle.ppq_pass.specs.ppq_array.declared.berth.DeviceBlock.{DeviceBlock}
use Rattle.ppq_queue.specs.Slots.{with_slots}
use Rattle.ppq_pass.specs.ppq_array.Kept.{SameSlots, weight_at, overread}

module _ {R : Type 0} where
  -- none is left where as many were dropped as there were
  pub no_items : (old : List R) (count : ℕ) (new : List R) → count ≡ length old → new ≡ drop count old → new ≡ []
  no_items old count new e d = nil_from_length new (omega (arith, ap length d, length-drop count old, e))

  -- all buffers of such a run are spent
  pub spent_all : (run : Run R) → IsRun run → items_of run ≡ [] → (run.live ≡ []) × (buffers_of run ≡ run.spent)
  spent_all run is none =
      let live = no_live run.live run.taken is.taken none in
      (live, ap (λ bs. run.spent ++ bs) live ∙ append-nil run.spent)

module _ {S R : Type 0} where
  -- one run in blocks more
  pub more_buffers : (arrays : List (External S R)) (array : External S R) → external_buffers (arrays ++ array ∷ []) ≡ external_buffers arrays + length (buffers_of array.loaded)
  more_buffers arrays array = omega (arith, sum_by-append (λ (a : External S R). length (buffers_of a.loaded)) arrays (array ∷ []), sum_by-cons (λ (a : External S R). length (buffers_of a.loaded)) array [])

module _ {S R : Type 0} (shown : S → Shown) where
  -- a list that was empty has all that was kept
  pub all_kept : (old new : List (DeviceBlock S R)) (kept : List Shown) → old ≡ [] → slots_shown shown new ≡ slots_shown shown old ++ kept → slots_shown shown new ≡ kept
  all_kept old new kept none e = e ∙ ap (λ l. slots_shown shown l ++ kept) none

  pub as_many : (slots : List (DeviceBlock S R)) (kept : List Shown) → slots_shown shown slots ≡ kept → length slots ≡ length kept
  as_many slots kept e = sym (length-map slots (λ (b : DeviceBlock S R). shown b.slot)) ∙ ap length e

  -- slots that come back
  pub put_back :
      (before out now : Stock) (slots : List (DeviceBlock S R)) → slots_shown shown slots ≡ before.kept → out ≡ with_slots before [] (before.slot_room + length before.kept)
      → now ≡ with_slots out (out.kept ++ slots_shown shown slots) (out.slot_room - length slots) → now ≡ before
  put_back before out now slots e o n =
      let many = as_many slots before.kept e in
      let left : (before.slot_room + length before.kept) - length slots ≡ before.slot_room = omega (arith, many) in
      n ∙ ap (λ (t : Stock). with_slots t (t.kept ++ slots_shown shown slots) (t.slot_room - length slots)) o ∙ ap₂ (λ (k : List Shown) (r : ℕ). with_slots before k r) e left

-- nobody drew from a row, so all of its slots are left
pub undrawn : {X : Type 0} (places : List ℕ) (items left : List X) → places ≡ [] → left ≡ drop (length places) items → left ≡ items
undrawn places items left none e = e ∙ ap (λ (p : List ℕ). drop (length p) items) none

-- a list that is not empty has but one shape
pub one_shape : {X : Type 0} (f : X → ℕ) (xs : List X) (a b : ℕ) → All (λ x. f x ≡ a) xs → All (λ x. f x ≡ b) xs → 0 < length xs → a ≡ b
one_shape f [] a b p q some = absurd (omega (arith, some))
one_shape f (x ∷ xs) a b p q some = sym (All-head (λ x. f x ≡ a) x xs p) ∙ All-head (λ x. f x ≡ b) x xs q

-- the same slots beside the same slots
pub SameSlots-append : (a b c d : List Shown) → SameSlots a b → SameSlots c d → SameSlots (a ++ c) (b ++ d)
SameSlots-append a b c d h k =
    record {
      length = (let e : length (b ++ d) ≡ length (a ++ c) = omega (arith, h.length, k.length, length-append a c, length-append b d) in e);
      each_once = λ n. omega (arith, h.each_once n, k.each_once n, sum_by-append (weight_at (λ s. 1) n) a c, sum_by-append (weight_at (λ s. 1) n) b d);
      faults = λ n. omega (arith, h.faults n, k.faults n, sum_by-append (weight_at (λ s. s.faults) n) a c, sum_by-append (weight_at (λ s. s.faults) n) b d);
      writes = λ n. omega (arith, h.writes n, k.writes n, sum_by-append (weight_at (λ s. s.writes) n) a c, sum_by-append (weight_at (λ s. s.writes) n) b d);
      reads = λ n. omega (arith, h.reads n, k.reads n, sum_by-append (weight_at (λ s. s.reads) n) a c, sum_by-append (weight_at (λ s. s.reads) n) b d);
      sizes = λ n. omega (arith, h.sizes n, k.sizes n, sum_by-append (weight_at (λ s. s.size) n) a c, sum_by-append (weight_at (λ s. s.size) n) b d);
      overreads = omega (arith, h.overreads, k.overreads, sum_by-append overread a c, sum_by-append overread b d);
    }

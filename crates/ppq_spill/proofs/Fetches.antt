-- What taking the smallest records does to arrays: blocks are loaded, and their slots freed.
use Rattle.std.proofs.Common.{◌≡◌, ℕ, ◌+◌, ◌-◌, ◌*◌, ◌≤◌, List, [], ◌∷◌, ◌++◌, length, take, drop, sum_by, All, refl, sym, ap, ◌∙◌, subst, arith, length-append, take-append-drop}
use Rattle.std.specs.List.{AllByRecursion as Each, AllZip}
use Rattle.std.proofs.Math.Nat.{add-mul}
use Rattle.std.proofs.lemmas.List.{length-take, length-drop}
use Rattle.std.proofs.lemmas.List.Sums.{sum_by-cons, sum_by-append}
use Rattle.std.proofs.lemmas.List.Elements.{All-cons, All-head, All-tail, All-take, All-drop}
use Rattle.std.proofs.lemmas.List.Concat.{flat_map-cons}
use Rattle.ppq_fetch.specs.ppq_outside.Shown.{Shown}
use Rattle.ppq_fetch.specs.ppq_array.declared.berth.DeviceBlock.{DeviceBlock}
use Rattle.ppq_fetch.specs.ppq_array.Run.{items_of}
use Rattle.ppq_fetch.specs.ppq_array.External.{External, size_of, counts}
use Rattle.ppq_fetch.specs.ppq_array.Kept.{SameSlots, weight_at, overread}
use Rattle.ppq_fetch.specs.ppq_array.Owner.{slots_shown}
use Rattle.ppq_fetch.specs.ppq_array.Holdings.{external_slots, internal_buffers}
use Rattle.ppq_fetch.specs.Fetching.{State, slots_in, WentOn, PartsKept, blocks_in}
use Rattle.ppq_spill.specs.Went.{Went}
use Rattle.ppq_spill.specs.Making.{AllFit, SameRest, loaded_count}
use Rattle.ppq_spill.proofs.Keeping.{slots_long}
use Rattle.ppq_spill.proofs.Blocks.{counts_fit, counts_append}

-- all records that arrays have in stored blocks
abbrev pub stored_count : {S R : Type 0} → List (External S R) → ℕ
stored_count arrays = sum_by (λ a. counts a.stored) arrays

module _ {S R : Type 0} (block : ℕ) where
  one_went : (x y : External S R) → WentOn x y → AllFit block x.stored → AllFit block y.stored × (length y.stored ≤ length x.stored) × (counts x.stored + length y.stored * block ≤ counts y.stored + length x.stored * block)
  one_went x y w fit =
      let front = take w.loads x.stored in
      let rest = drop w.loads x.stored in
      let P : DeviceBlock S R → Type 0 = λ b. b.count ≤ block in
      let parts : front ++ rest ≡ x.stored = take-append-drop w.loads x.stored in
      let n : length front ≡ w.loads = omega (arith, length-take w.loads x.stored, w.within) in
      let m : length x.stored ≡ w.loads + length y.stored = omega (arith, ap length w.stored, length-drop w.loads x.stored, w.within) in
      let cs : counts x.stored ≡ counts front + counts y.stored = sym (ap counts parts) ∙ counts_append block front rest ∙ ap (λ bs. counts front + counts bs) (sym w.stored) in
      let most : counts front ≤ length front * block = counts_fit block front (All-take P w.loads x.stored fit) in
      let same : length front * block ≡ w.loads * block = ap (λ k. k * block) n in
      let sum : length x.stored * block ≡ w.loads * block + length y.stored * block = ap (λ k. k * block) m ∙ add-mul w.loads (length y.stored) block in (
        subst (All P) (sym w.stored) (All-drop P w.loads x.stored fit),
        omega (arith, m),
        omega (arith, cs, most, same, sum),
      )

  pub went_fit :
      (xs ys : List (External S R)) → AllZip WentOn xs ys → All (λ (a : External S R). AllFit block a.stored) xs
      → All (λ (a : External S R). AllFit block a.stored) ys × (blocks_in ys ≤ blocks_in xs) × (stored_count xs + blocks_in ys * block ≤ stored_count ys + blocks_in xs * block)
  went_fit [] [] z a = (a, omega arith, omega arith)
  went_fit [] (y ∷ ys) z a = absurd z
  went_fit (x ∷ xs) [] z a = absurd z
  went_fit (x ∷ xs) (y ∷ ys) z a =
      let P : External S R → Type 0 = λ a. AllFit block a.stored in
      let one = one_went x y z.0 (All-head P x xs a) in
      let rest = went_fit xs ys z.1 (All-tail P x xs a) in
      let long : External S R → ℕ = λ a. length a.stored in
      let many : External S R → ℕ = λ a. counts a.stored in
      let bx : blocks_in (x ∷ xs) ≡ length x.stored + blocks_in xs = sum_by-cons long x xs in
      let by : blocks_in (y ∷ ys) ≡ length y.stored + blocks_in ys = sum_by-cons long y ys in
      let mx : blocks_in (x ∷ xs) * block ≡ length x.stored * block + blocks_in xs * block = ap (λ k. k * block) bx ∙ add-mul (length x.stored) (blocks_in xs) block in
      let my : blocks_in (y ∷ ys) * block ≡ length y.stored * block + blocks_in ys * block = ap (λ k. k * block) by ∙ add-mul (length y.stored) (blocks_in ys) block in (
        All-cons P y ys one.0 rest.0,
        omega (arith, bx, by, one.1, rest.1),
        omega (arith, mx, my, one.2, rest.2, sum_by-cons many x xs, sum_by-cons many y ys),
      )

-- where no block is lifted, records are loaded or stored
pub parts_counted : {S R : Type 0} (xs : List (External S R)) → Each (λ (a : External S R). a.lifted ≡ []) xs → sum_by size_of xs ≡ loaded_count xs + stored_count xs
parts_counted [] e = refl
parts_counted {S} {R} (x ∷ xs) e =
    let one : size_of x ≡ length (items_of x.loaded) + counts x.stored = ap (λ (bs : List (DeviceBlock S R)). length (items_of x.loaded) + counts (bs ++ x.stored)) e.0 in
    omega (arith, sum_by-cons size_of x xs, sum_by-cons (λ (a : External S R). length (items_of a.loaded)) x xs, sum_by-cons (λ (a : External S R). counts a.stored) x xs, one, parts_counted xs e.1)

pub slots_counted : {S R : Type 0} (shown : S → Shown) (xs : List (External S R)) → length (external_slots shown xs) ≡ blocks_in xs
slots_counted shown [] = refl
slots_counted {S} {R} shown (x ∷ xs) =
    omega (
      arith,
      ap length (flat_map-cons (λ (a : External S R). slots_shown shown a.stored) x xs),
      length-append (slots_shown shown x.stored) (external_slots shown xs),
      slots_long shown x.stored,
      sum_by-cons (λ (a : External S R). length a.stored) x xs,
      slots_counted shown xs,
    )

three : (f : Shown → ℕ) (a b c : List Shown) → sum_by f (a ++ b ++ c) ≡ sum_by f a + sum_by f b + sum_by f c
three f a b c = omega (arith, sum_by-append f (a ++ b) c, sum_by-append f a b)

-- slots that moved beside the same others
same_but : (a b a' b' d d' : List Shown) → d' ≡ d → SameSlots (a ++ b ++ d') (a' ++ b' ++ d) → SameSlots (a ++ b) (a' ++ b')
same_but a b a' b' d d' e same =
    let ones : Shown → ℕ = λ _. 1 in
    record {
      length = (let e : length (a' ++ b') ≡ length (a ++ b) = omega (arith, length-append (a ++ b) d', length-append (a' ++ b') d, ap length e, same.length) in e);
      each_once = λ n. let f = weight_at (λ s. 1) n in omega (arith, sum_by-append f (a ++ b) d', sum_by-append f (a' ++ b') d, ap (sum_by f) e, same.each_once n);
      faults = λ n. let f = weight_at (λ s. s.faults) n in omega (arith, sum_by-append f (a ++ b) d', sum_by-append f (a' ++ b') d, ap (sum_by f) e, same.faults n);
      writes = λ n. let f = weight_at (λ s. s.writes) n in omega (arith, sum_by-append f (a ++ b) d', sum_by-append f (a' ++ b') d, ap (sum_by f) e, same.writes n);
      reads = λ n. let f = weight_at (λ s. s.reads) n in omega (arith, sum_by-append f (a ++ b) d', sum_by-append f (a' ++ b') d, ap (sum_by f) e, same.reads n);
      sizes = λ n. let f = weight_at (λ s. s.size) n in omega (arith, sum_by-append f (a ++ b) d', sum_by-append f (a' ++ b') d, ap (sum_by f) e, same.sizes n);
      overreads = omega (arith, sum_by-append overread (a ++ b) d', sum_by-append overread (a' ++ b') d, ap (sum_by overread) e, same.overreads);
    }

module _ {S R : Type 0} (shown : S → Shown) where
  -- the slots of arrays and of the supply, after blocks were loaded
  pub parts_went : (s t : State S R) → PartsKept shown s t → Went 0 (blocks_in s.external - blocks_in t.external) (slots_in shown s) (slots_in shown t)
  parts_went s t k =
      record {
        same = same_but (external_slots shown s.external) s.stock.kept (external_slots shown t.external) t.stock.kept s.stock.drawn t.stock.drawn k.stock.drawn k.kept.slots;
        calls = record { written = omega (arith, k.transfers.writes); stay = omega (arith, k.transfers.writes); read = k.transfers.reads };
        tells = k.all_tell;
      }

  -- the supply, and how much it can take back
  pub parts_rest : (s t : State S R) → s.internal ≡ [] → t.internal ≡ [] → PartsKept shown s t → SameRest s.stock t.stock
  parts_rest s t e f k =
      record {
        block = k.kept.block;
        drawn = k.stock.drawn;
        buffers = (let e : t.stock.buffer_room ≡ s.stock.buffer_room = omega (arith, k.kept.buffers, k.buffers, ap internal_buffers e, ap internal_buffers f) in e);
      }

-- What the steps of a store cost, from what their calls say, and how the costs of calls add up.
use Rattle.std.proofs.Common.{◌≡◌, ℕ, ◌+◌, ◌-◌, ◌*◌, ◌≤◌, List, [], ◌++◌, length, sum_by, refl, sym, ap, ◌∙◌, subst, arith, length-drop}
use Rattle.std.specs.Prelude.{Result, Ok, Err, OnOk, IsErrOf, IsErrAnd}
use Rattle.ppq_spill.specs.ppq_counts.Account.{Account, Costs, Stops, toll, heft, tolls, hefts, beside}
use Rattle.ppq_spill.proofs.ppq_counts.Accounts.{costs-then, costs-stops, costs-more, stops-more, costs-beside, stops-beside, stops-left}
use Rattle.ppq_spill.proofs.ppq_counts.Levels.{taken-costs, taken-stops, toll-fewer, tolls-sum, hefts-sum, blocks-sum}
use Rattle.ppq_extract.specs.ppq_outside.Shown.{Shown}
use Rattle.ppq_extract.specs.ppq_budget.Sizes.{Numbers}
use Rattle.ppq_extract.specs.ppq_array.declared.store_fault.StoreFault.{StoreFault}
use Rattle.ppq_extract.specs.ppq_array.declared.store_fault.StoreFault.TheVariants.{NoFreeBlock, Device}
use Rattle.ppq_extract.specs.ppq_array.Run.{Run, items_of}
use Rattle.ppq_extract.specs.ppq_array.External.{External, size_of}
use Rattle.ppq_extract.specs.ppq_array.Supply.{Stock}
use Rattle.ppq_extract.specs.ppq_array.Kept.{all_writes, all_reads}
use Rattle.ppq_extract.specs.ppq_array.Holdings.{external_slots, internal_items}
use Rattle.ppq_extract.specs.ppq_fetch.Fetching.{WentOn, MoreReads, blocks_in}
use Rattle.ppq_spill.specs.Storing.{in_buffers, slots_after}
use Rattle.ppq_spill.specs.Leveling.{arrays_after}
use Rattle.ppq_spill.specs.Costing.{PaysUnless, Pays, StorePays, LevelPays, body_account, arrays_account}
use Rattle.ppq_spill.specs.declared.body.PassBody.{PassBody}
use Rattle.ppq_queue.specs.Resting.{slots_of}
use Rattle.ppq_queue.specs.Paying.{stores_cost, runs_account}
use Rattle.ppq_queue.proofs.Amounts.{internal_count}
use Rattle.ppq_queue.proofs.Slots.{no_row_more, slots-no_job}

-- what it says of an answer that is Ok
pub ok_pays : {T : Type 0} {v : T} {c m s k : ℕ} {x y : Account} → Costs c m x y → PaysUnless (Ok v) c m s k x y
ok_pays p = record { pays = p }

pub pays_ok : {T : Type 0} {v : T} {c m s k : ℕ} {x y : Account} → PaysUnless (Ok v) c m s k x y → Costs c m x y
pays_ok p = p.pays

-- it may have cost more
pub pays-more : {T : Type 0} {r : Result T StoreFault} {c m s k d n t l : ℕ} {x y : Account} → c ≤ d → m ≤ n → s ≤ t → k ≤ l → PaysUnless r c m s k x y → PaysUnless r d n t l x y
pays-more {r = Ok v} hc hm hs hk p = record { pays = costs-more hc hm p.pays }
pays-more {r = Err NoFreeBlock} hc hm hs hk p = record { pays = costs-more hs hk p.pays }
pays-more {r = Err (Device number)} hc hm hs hk p = record { pays = stops-more hc hm p.pays }

-- a call after a step
pub pays-then : {T : Type 0} {r : Result T StoreFault} {c m d n t l : ℕ} {x y z : Account} → Costs c m x y → PaysUnless r d n t l y z → PaysUnless r (c + d) (m + n) (c + t) (m + l) x z
pays-then {r = Ok v} one two = record { pays = costs-then one two.pays }
pays-then {r = Err NoFreeBlock} one two = record { pays = costs-then one two.pays }
pays-then {r = Err (Device number)} one two = record { pays = costs-stops one two.pays }

-- the same, with the sums given
pub pays-next : {T : Type 0} {r : Result T StoreFault} {c m d n t l C M : ℕ} {x y z : Account} → c + d ≤ C → m + n ≤ M → c + t ≤ C → m + l ≤ M → Costs c m x y → PaysUnless r d n t l y z → Pays r C M x z
pays-next h1 h2 h3 h4 one two = pays-more h1 h2 h3 h4 (pays-then one two)

-- records in memory that stay
pub pays-beside : (h : ℕ) {T : Type 0} {r : Result T StoreFault} {c m s k : ℕ} {x y : Account} → PaysUnless r c m s k x y → PaysUnless r c m s k (beside h x) (beside h y)
pays-beside h {r = Ok v} p = record { pays = costs-beside h p.pays }
pays-beside h {r = Err NoFreeBlock} p = record { pays = costs-beside h p.pays }
pays-beside h {r = Err (Device number)} p = record { pays = stops-beside h h p.pays }

-- a store of n records that lie in memory beside others, and stay there if it was refused
pub pays-kept :
    (n h h' : ℕ) {T : Type 0} {e : StoreFault} {c m s k : ℕ} {x y : Account} → h ≡ h' → n ≤ h → PaysUnless {T = T} (Err e) (56 * n + c) m s k x y → PaysUnless {T = T} (Err e) c m s k (beside h x) (beside h' y)
pays-kept n h h' {e = NoFreeBlock} {s = s} {k = k} {x = x} {y = y} e few p = record { pays = subst (λ i. Costs s k (beside h x) (beside i y)) e (costs-beside h p.pays) }
pays-kept n h h' {e = Device number} e few p = record { pays = stops-left n h h' few p.pays }

-- an error of another type
error_pays : {T U : Type 0} {e : StoreFault} {c m s k : ℕ} {x y : Account} → PaysUnless {T = U} (Err e) c m s k x y → PaysUnless {T = T} (Err e) c m s k x y
error_pays {e = NoFreeBlock} p = record { pays = p.pays }
error_pays {e = Device number} p = record { pays = p.pays }

-- an error that is handed on
pub pays-given : {T U : Type 0} {r : Result T StoreFault} {e : StoreFault} {c m s k : ℕ} {x y : Account} → IsErrAnd r (λ given. given ≡ e) → PaysUnless {T = U} (Err e) c m s k x y → PaysUnless r c m s k x y
pays-given {r = Ok v} is p = absurd is
pays-given {T = T} {r = Err f} {c = c} {m = m} {s = s} {k = k} {x = x} {y = y} is p = subst (λ (g : StoreFault). PaysUnless {T = T} (Err g) c m s k x y) (sym is) (error_pays p)

-- what holds on each answer
pub pays-by : {T : Type 0} (r : Result T StoreFault) {c m s k : ℕ} {x y : Account} → OnOk r (Costs c m x y) → (IsErrOf r NoFreeBlock → Costs s k x y) → ((number : ℕ) → IsErrOf r (Device number) → Stops c m x y) → PaysUnless r c m s k x y
pays-by (Ok v) ok none device = record { pays = ok }
pays-by (Err NoFreeBlock) ok none device = record { pays = none refl }
pays-by (Err (Device number)) ok none device = record { pays = device number refl }

module _ {S R : Type 0} (shown : S → Shown) (sizes : Numbers) (a b : PassBody S R) (s t : Stock) (block : s.block ≡ sizes.block) (no_row : s.drawn ≡ []) (no_row' : t.drawn ≡ []) where
  -- a store
  pub pays-stored : {T : Type 0} (r : Result T StoreFault) (n : ℕ) → StorePays shown r n a b s t → PaysUnless r (stores_cost sizes n 1) 1 0 0 (runs_account shown sizes a s) (runs_account shown sizes b t)
  pays-stored r n p =
      let before : slots_of shown a s ++ t.drawn ≡ slots_of shown a s = no_row_more (slots_of shown a s) t.drawn no_row' in
      let after : slots_of shown b t ++ s.drawn ≡ slots_of shown b t = no_row_more (slots_of shown b t) s.drawn no_row in
      let one = subst (λ (x : List Shown). PaysUnless r (56 * n + 8 * s.block) 1 0 0 (body_account s.block x a) (body_account s.block (slots_after shown b s t) b)) before p in
      let two = subst (λ (y : List Shown). PaysUnless r (56 * n + 8 * s.block) 1 0 0 (body_account s.block (slots_of shown a s) a) (body_account s.block y b)) after one in
      pays-more (omega arith) (omega arith) (omega arith) (omega arith) (subst (λ k. PaysUnless r (56 * n + 8 * k) 1 0 0 (body_account k (slots_of shown a s) a) (body_account k (slots_of shown b t) b)) block two)

  -- a merge of a level
  pub pays-leveled :
      {T : Type 0} (r : Result T StoreFault) → a.lanes.jobs.items ≡ [] → b.lanes.jobs.items ≡ [] → b.runs.internal.items ≡ a.runs.internal.items → LevelPays shown r a.runs.external.items b.runs.external.items s t
      → Pays r 0 0 (runs_account shown sizes a s) (runs_account shown sizes b t)
  pays-leveled r none none' same p =
      let ea = external_slots shown a.runs.external.items in
      let eb = external_slots shown b.runs.external.items in
      let before : ea ++ s.kept ++ t.drawn ≡ slots_of shown a s = no_row_more (ea ++ s.kept) t.drawn no_row' ∙ sym (slots-no_job shown a s none) in
      let after : eb ++ t.kept ++ s.drawn ≡ slots_of shown b t = no_row_more (eb ++ t.kept) s.drawn no_row ∙ sym (slots-no_job shown b t none') in
      let xs = a.runs.external.items in
      let ys = b.runs.external.items in
      let k = in_buffers a in
      let memory : in_buffers a ≡ in_buffers b = ap (λ runs. length (internal_items runs)) (sym same) in
      let one = subst (λ (x : List Shown). Pays r 0 0 (arrays_account s.block x xs k) (arrays_account s.block (arrays_after shown ys s t) ys k)) before (p k) in
      let two = subst (λ (y : List Shown). Pays r 0 0 (arrays_account s.block (slots_of shown a s) xs k) (arrays_account s.block y ys k)) after one in
      let three = subst (λ j. Pays r 0 0 (arrays_account s.block (slots_of shown a s) xs k) (arrays_account s.block (slots_of shown b t) ys j)) memory two in
      subst (λ j. Pays r 0 0 (body_account j (slots_of shown a s) a) (body_account j (slots_of shown b t) b)) block three

  module _ (none : a.lanes.jobs.items ≡ []) (none' : b.lanes.jobs.items ≡ []) {most : ℕ} (transfers : MoreReads most (external_slots shown a.runs.external.items ++ s.kept) (external_slots shown b.runs.external.items ++ t.kept)) where
    writes-same : all_writes (slots_of shown b t) ≡ all_writes (slots_of shown a s)
    writes-same = omega (arith, transfers.writes, ap all_writes (slots-no_job shown a s none), ap all_writes (slots-no_job shown b t none'))

    reads-few : all_reads (slots_of shown b t) ≤ all_reads (slots_of shown a s) + most
    reads-few = omega (arith, transfers.reads, ap all_reads (slots-no_job shown a s none), ap all_reads (slots-no_job shown b t none'))

    -- a refill
    pub costs-refilled :
        most ≡ blocks_in a.runs.external.items - blocks_in b.runs.external.items → sum_by (λ (run : Run R). length (items_of run)) b.runs.internal.items ≤ sum_by (λ (run : Run R). length (items_of run)) a.runs.internal.items
        → ((f : External S R → ℕ) → ((x y : External S R) → WentOn x y → f y ≤ f x) → sum_by f b.runs.external.items ≤ sum_by f a.runs.external.items)
        → Costs 0 0 (runs_account shown sizes a s) (runs_account shown sizes b t)
    costs-refilled gone memory weights =
        let level : External S R → ℕ = λ x. x.level in
        let blocks : External S R → ℕ = λ x. length x.stored in
        let xs = a.runs.external.items in
        let ys = b.runs.external.items in
        let fewer : in_buffers b ≤ in_buffers a = omega (arith, memory, internal_count a.runs.internal.items, internal_count b.runs.internal.items) in
        let owed : tolls level size_of sizes.block ys ≤ tolls level size_of sizes.block xs =
        omega (arith, weights (λ x. toll sizes.block x.level (size_of x)) (λ x y w. toll-fewer level size_of sizes.block x y w.level w.size), tolls-sum level size_of sizes.block xs, tolls-sum level size_of sizes.block ys)
        in
        let weight : hefts level size_of ys ≤ hefts level size_of xs =
        omega (arith, weights (λ x. heft x.level) (λ x y w. (let e : heft y.level ≡ heft x.level = ap heft w.level in omega (arith, e))), hefts-sum level size_of xs, hefts-sum level size_of ys)
        in
        let loaded : blocks_in ys ≤ blocks_in xs = weights blocks (λ x y w. omega (arith, ap length w.stored, length-drop w.loads x.stored)) in
        taken-costs level size_of blocks sizes.block (all_writes (slots_of shown a s)) (all_writes (slots_of shown b t)) (all_reads (slots_of shown a s)) (all_reads (slots_of shown b t)) writes-same (in_buffers a) (in_buffers b) xs ys fewer owed weight
        (omega (arith, reads-few, gone, loaded, writes-same, blocks-sum blocks xs, blocks-sum blocks ys))

    -- a block could not be read
    pub stops-refilled : most ≤ blocks_in a.runs.external.items → Stops 0 0 (runs_account shown sizes a s) (runs_account shown sizes b t)
    stops-refilled few =
        let level : External S R → ℕ = λ x. x.level in
        let blocks : External S R → ℕ = λ x. length x.stored in
        let xs = a.runs.external.items in
        taken-stops level size_of blocks sizes.block (all_writes (slots_of shown a s)) (all_writes (slots_of shown b t)) (all_reads (slots_of shown a s)) (all_reads (slots_of shown b t)) writes-same (in_buffers a) (in_buffers b) xs b.runs.external.items
        (omega (arith, reads-few, few, writes-same, blocks-sum blocks xs))

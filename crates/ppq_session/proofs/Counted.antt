-- What the numbers of a queue pay for, from the beginning of a session to its end.
use Rattle.std.proofs.Common.{◌≡◌, ℕ, ◌+◌, ◌*◌, ◌<◌, List, [], ◌∷◌, ◌++◌, length, reverse, sum_by, min, sym, ap, ap₂, ◌∙◌, subst, arith, append-nil}
use Rattle.std.specs.Prelude.{None}
use Rattle.std.proofs.lemmas.List.Sums.{sum_by-cons, sum_by-append}
use Rattle.std.proofs.lemmas.List.Concat.{flat_map-cons}
use Rattle.std.proofs.lemmas.Grind.{flat_map-append}
use Rattle.ppq_pass.specs.ppq_counts.Tally.{Tally, tally, last, joined}
use Rattle.ppq_pass.specs.ppq_counts.Account.{Account, account, beside, toll, heft, tolls, hefts, blocks_of, IsCountedBeside}
use Rattle.ppq_pass.proofs.ppq_counts.Levels.{tolls-sum, hefts-sum, blocks-sum}
use Rattle.ppq_pass.proofs.ppq_counts.Passed.{joined-counted}
use Rattle.ppq_pass.specs.ppq_outside.Shown.{Shown}
use Rattle.ppq_pass.specs.ppq_heap.Heaps.{items_in}
use Rattle.ppq_pass.specs.ppq_array.Run.{Run, items_of}
use Rattle.ppq_pass.specs.ppq_array.External.{External, size_of}
use Rattle.ppq_pass.specs.ppq_array.Kept.{all_writes, all_reads}
use Rattle.ppq_pass.specs.ppq_spill.Storing.{in_buffers}
use Rattle.ppq_pass.specs.ppq_spill.Costing.{body_account}
use Rattle.ppq_pass.specs.ppq_spill.declared.body.PassBody.{PassBody}
use Rattle.ppq_pass.specs.Passed.{slots_of as pass_slots}
use Rattle.ppq_pass.specs.PassState.{drawn_of, pass_account, IsPassCounted}
use Rattle.ppq_queue.specs.Resting.{slots_of}
use Rattle.ppq_queue.proofs.Amounts.{internal_count}
use Rattle.ppq_session.specs.Gathering.{Adopted, counts_with, begun_in, drawn_in, gathered_account}
use Rattle.ppq_session.specs.declared.brought.Brought.{Brought}
use Rattle.ppq_session.specs.declared.closed.Closed.{Closed}
use Rattle.ppq_session.proofs.Gathered.{sum_by-joined, items-push}

-- no record beside
pub beside-none : (k : ℕ) → k ≡ 0 → (a : Account) → a ≡ beside k a
beside-none k none a = ap (λ owed. record a { owed = owed }) (omega (arith, none))

module _ {S R : Type 0} where
  -- slots count by their writes and reads alone
  pub same-account : (block : ℕ) (xs ys : List Shown) (body : PassBody S R) → all_writes xs ≡ all_writes ys → all_reads xs ≡ all_reads ys → body_account block xs body ≡ body_account block ys body
  same-account block xs ys body writes reads =
      ap₂ (λ w r. account (λ (a : External S R). a.level) size_of (λ (a : External S R). length a.stored) block w r body.runs.external.items (in_buffers body)) writes reads

  -- the slots that one pass more drew
  pub drawn-push : (shown : S → Shown) (f : Shown → ℕ) (rest : List (Brought S R)) (one : Brought S R) → sum_by f (drawn_in shown (rest ++ one ∷ [])) ≡ sum_by f (drawn_in shown rest) + sum_by f (drawn_of shown one.kept.value)
  drawn-push shown f rest one =
      let g : Brought S R → List Shown = λ x. drawn_of shown x.kept.value in
      omega (arith, ap (sum_by f) (flat_map-append g rest (one ∷ [])), sum_by-append f (drawn_in shown rest) (drawn_in shown (one ∷ [])), ap (sum_by f) (flat_map-cons g one [] ∙ append-nil (g one)))

module _ {S R : Type 0} (block : ℕ) (old from new : PassBody S R) (is : Adopted old from new) where
  abbrev level : External S R → ℕ
  level a = a.level

  abbrev stored : External S R → ℕ
  stored a = length a.stored

  abbrev xs : List (External S R)
  xs = old.runs.external.items

  abbrev ys : List (External S R)
  ys = from.runs.external.items

  -- what the runs owe together, how heavy they are, how many blocks they have stored, and how many records are in buffers
  adopted-tolls : tolls level size_of block new.runs.external.items ≡ tolls level size_of block xs + tolls level size_of block ys
  adopted-tolls =
      omega (
        arith,
        ap (tolls level size_of block) is.external,
        tolls-sum level size_of block (xs ++ reverse ys),
        tolls-sum level size_of block xs,
        tolls-sum level size_of block ys,
        sum_by-joined (λ (a : External S R). toll block a.level (size_of a)) xs ys,
      )

  adopted-hefts : hefts level size_of new.runs.external.items ≡ hefts level size_of xs + hefts level size_of ys
  adopted-hefts =
      omega (
        arith,
        ap (hefts level size_of) is.external,
        hefts-sum level size_of (xs ++ reverse ys),
        hefts-sum level size_of xs,
        hefts-sum level size_of ys,
        sum_by-joined (λ (a : External S R). heft a.level) xs ys,
      )

  adopted-stored : blocks_of stored new.runs.external.items ≡ blocks_of stored xs + blocks_of stored ys
  adopted-stored = omega (arith, ap (blocks_of stored) is.external, blocks-sum stored (xs ++ reverse ys), blocks-sum stored xs, blocks-sum stored ys, sum_by-joined stored xs ys)

  adopted-memory : in_buffers new ≡ in_buffers old + in_buffers from
  adopted-memory =
      let size : Run R → ℕ = λ run. length (items_of run) in
      omega (
        arith,
        internal_count new.runs.internal.items,
        internal_count old.runs.internal.items,
        internal_count from.runs.internal.items,
        ap (sum_by size) is.internal,
        sum_by-joined size old.runs.internal.items from.runs.internal.items,
      )

module _ {S R : Type 0} (shown : S → Shown) (c new : Closed S R) (one : Brought S R) (rest : List (Brought S R)) (sizes : new.sizes ≡ c.sizes) (heaps : new.heaps.items ≡ c.heaps.items ++ one.heap ∷ []) (counts : new.counts ≡ joined c.counts (tally one.accepted one.stores 0))
    (sums : (f : Shown → ℕ) → sum_by f (slots_of shown new.body new.supply) ≡ sum_by f (slots_of shown c.body c.supply) + sum_by f (pass_slots shown one.body one.kept.value)) where
  abbrev block : ℕ
  block = c.sizes.block

  abbrev before : Account
  before = gathered_account shown c (rest ++ one ∷ [])

  abbrev its : Account
  its = pass_account shown c.sizes one.heap one.body one.kept.value

  abbrev after : Account
  after = beside (length (items_in new.heaps.items)) (body_account block (slots_of shown new.body new.supply ++ drawn_in shown rest) new.body)

  -- slots that the pass drew are counted as it has them now
  all-slots :
      (f : Shown → ℕ)
      → sum_by f (slots_of shown new.body new.supply ++ drawn_in shown rest) + sum_by f (drawn_of shown one.kept.value) ≡ sum_by f (slots_of shown c.body c.supply ++ drawn_in shown (rest ++ one ∷ [])) + sum_by f (pass_slots shown one.body one.kept.value)
  all-slots f =
      omega (
        arith,
        sums f,
        sum_by-append f (slots_of shown new.body new.supply) (drawn_in shown rest),
        sum_by-append f (slots_of shown c.body c.supply) (drawn_in shown (rest ++ one ∷ [])),
        drawn-push shown f rest one,
      )

  begun-push : begun_in shown (rest ++ one ∷ []) ≡ one.begun + begun_in shown rest
  begun-push = omega (arith, sum_by-append (λ (x : Brought S R). x.begun) rest (one ∷ []), sum_by-cons (λ (x : Brought S R). x.begun) one [])

  all-items : length (items_in new.heaps.items) ≡ length (items_in c.heaps.items) + length one.heap.items
  all-items = ap (λ l. length (items_in l)) heaps ∙ items-push c.heaps.items one.heap

  -- a pass was put in: what the parts paid for, and what it paid for, is paid for by the numbers of both. Unless a fault is known, its runs were
  -- adopted
  pub gathered-counted :
      (new.failed ≡ None → c.failed ≡ None) → (new.failed ≡ None → one.failed ≡ None) → (new.failed ≡ None → Adopted c.body one.body new.body)
      → IsCountedBeside c.sizes.workers block (begun_in shown (rest ++ one ∷ [])) (c.failed ≡ None) c.counts before
      → IsPassCounted shown c.sizes one.heap one.body one.kept.value one.begun one.accepted one.stores one.failed
      → IsCountedBeside new.sizes.workers new.sizes.block (begun_in shown rest) (new.failed ≡ None) new.counts (gathered_account shown new rest)
  gathered-counted parts_sound pass_sound adopted was its_own =
      let w = all_writes (drawn_of shown one.kept.value) in
      let r = all_reads (drawn_of shown one.kept.value) in
      let writes = all-slots (λ s. s.writes) in
      let reads = all-slots (λ s. s.reads) in
      let here = subst (λ k. IsCountedBeside c.sizes.workers block k (c.failed ≡ None) c.counts before) begun-push was in
      let both : IsCountedBeside c.sizes.workers block (begun_in shown rest) (new.failed ≡ None) (joined c.counts (tally one.accepted one.stores 0)) after =
      joined-counted c.sizes.workers block one.begun (begun_in shown rest) w r c.counts (tally one.accepted one.stores 0) before its after parts_sound pass_sound
      (omega (arith, sum_by-append (λ (s : Shown). s.writes) (slots_of shown c.body c.supply) (drawn_in shown (rest ++ one ∷ [])), drawn-push shown (λ s. s.writes) rest one))
      (omega (arith, ap (λ k. 7 * (block * k)) writes))
      writes
      reads
      (λ none. omega (arith, adopted-tolls block c.body one.body new.body (adopted none), adopted-memory block c.body one.body new.body (adopted none), all-items))
      (λ none. omega (arith, adopted-hefts block c.body one.body new.body (adopted none)))
      (λ none. adopted-stored block c.body one.body new.body (adopted none))
      here
      its_own
      in
      let with_counts = subst (λ t. IsCountedBeside c.sizes.workers block (begun_in shown rest) (new.failed ≡ None) t after) (sym counts) both in
      subst (λ n. IsCountedBeside n.workers n.block (begun_in shown rest) (new.failed ≡ None) new.counts (beside (length (items_in new.heaps.items)) (body_account n.block (slots_of shown new.body new.supply ++ drawn_in shown rest) new.body))) (sym sizes) with_counts

-- numbers with those of passes on top: of all together
joined-twice : (t : Tally) (a b n m : ℕ) → joined (joined t (tally a b 0)) (tally n m 0) ≡ joined t (tally (n + a) (m + b) 0)
joined-twice t a b n m =
    let accepted : min (min (t.accepted + a) last + n) last ≡ min (t.accepted + (n + a)) last = omega arith in
    let stores : min (min (t.stores + b) last + m) last ≡ min (t.stores + (m + b)) last = omega arith in
    let sessions : min (min (t.sessions + 0) last + 0) last ≡ min (t.sessions + 0) last = omega arith in
    ap₂ (λ x y. tally x y (min (min (t.sessions + 0) last + 0) last)) accepted stores ∙ ap (tally (min (t.accepted + (n + a)) last) (min (t.stores + (m + b)) last)) sessions

module _ {S R : Type 0} where
  counts-all :
      (t : Tally) (one : Brought S R) (put : List (Brought S R)) → counts_with t (one ∷ put) ≡ joined t (tally (sum_by (λ (x : Brought S R). x.accepted) (one ∷ put)) (sum_by (λ (x : Brought S R). x.stores) (one ∷ put)) 0)
  counts-all t one [] =
      let accepted : one.accepted ≡ sum_by (λ (x : Brought S R). x.accepted) (one ∷ []) = omega (arith, sum_by-cons (λ (x : Brought S R). x.accepted) one []) in
      let stores : one.stores ≡ sum_by (λ (x : Brought S R). x.stores) (one ∷ []) = omega (arith, sum_by-cons (λ (x : Brought S R). x.stores) one []) in
      ap₂ (λ a s. joined t (tally a s 0)) accepted stores
  counts-all t one (x ∷ xs) =
      let a = sum_by (λ (y : Brought S R). y.accepted) (x ∷ xs) in
      let s = sum_by (λ (y : Brought S R). y.stores) (x ∷ xs) in
      ap (λ u. joined u (tally one.accepted one.stores 0)) (counts-all t x xs)
      ∙ joined-twice t a s one.accepted one.stores
      ∙ ap₂ (λ a s. joined t (tally a s 0)) (sym (sum_by-cons (λ (y : Brought S R). y.accepted) one (x ∷ xs))) (sym (sum_by-cons (λ (y : Brought S R). y.stores) one (x ∷ xs)))

  -- numbers with those of some passes on top
  pub counts-some : (t : Tally) (put : List (Brought S R)) → 0 < length put → counts_with t put ≡ joined t (tally (sum_by (λ (x : Brought S R). x.accepted) put) (sum_by (λ (x : Brought S R). x.stores) put) 0)
  counts-some t [] some = absurd (omega (arith, some))
  counts-some t (one ∷ put) some = counts-all t one put

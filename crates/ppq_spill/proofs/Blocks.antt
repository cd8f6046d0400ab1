-- Blocks that are full but the last, and how many records they have.
use Rattle.std.proofs.Common.{◌≡◌, ℕ, suc, ◌+◌, ◌-◌, ◌*◌, ◌<◌, ◌≤◌, List, [], ◌∷◌, ◌++◌, length, take, All, sym, subst, arith, length-append}
use Rattle.std.proofs.Math.Nat.{suc-mul, add-mul, lt_of_mul-lt-mul_right}
use Rattle.std.proofs.lemmas.Nat.{mul-le}
use Rattle.std.proofs.lemmas.List.Sums.{sum_by-cons, sum_by-append}
use Rattle.std.proofs.lemmas.List.Elements.{All-cons, All-head, All-tail, All-nil, All-take}
use Rattle.ppq_fetch.specs.ppq_array.declared.berth.DeviceBlock.{DeviceBlock}
use Rattle.ppq_fetch.specs.ppq_array.External.{counts, IsPacked}
use Rattle.ppq_spill.specs.Making.{AllFull, AllFit}

-- fewer blocks than so many
pub fewer_than : (n k block : ℕ) → n * block < k * block → n < k
fewer_than n k block h = lt_of_mul-lt-mul_right block h

module _ {S R : Type 0} (block : ℕ) where
  count_of : DeviceBlock S R → ℕ
  count_of b = b.count

  pub counts_cons : (b : DeviceBlock S R) (bs : List (DeviceBlock S R)) → counts (b ∷ bs) ≡ b.count + counts bs
  counts_cons b bs = sum_by-cons (λ (b : DeviceBlock S R). b.count) b bs

  pub counts_append : (bs cs : List (DeviceBlock S R)) → counts (bs ++ cs) ≡ counts bs + counts cs
  counts_append bs cs = sum_by-append (λ (b : DeviceBlock S R). b.count) bs cs

  -- blocks have no more records than fit
  pub counts_fit : (bs : List (DeviceBlock S R)) → AllFit block bs → counts bs ≤ length bs * block
  counts_fit [] a = omega arith
  counts_fit (b ∷ bs) a =
      let P : DeviceBlock S R → Type 0 = λ b. b.count ≤ block in
      omega (arith, counts_cons b bs, suc-mul (length bs) block, All-head P b bs a, counts_fit bs (All-tail P b bs a))

  pub counts_full : (bs : List (DeviceBlock S R)) → AllFull block bs → counts bs ≡ length bs * block
  counts_full [] a = (let e : 0 ≡ 0 * block = omega arith in e)
  counts_full (b ∷ bs) a =
      let P : DeviceBlock S R → Type 0 = λ b. b.count ≡ block in
      let e : counts (b ∷ bs) ≡ suc (length bs) * block = omega (arith, counts_cons b bs, suc-mul (length bs) block, All-head P b bs a, counts_full bs (All-tail P b bs a)) in
      e

  pub full_fit : (bs : List (DeviceBlock S R)) → AllFull block bs → AllFit block bs
  full_fit bs a = λ k d h. (let e = a k d h in omega (arith, e))

  -- as many records as fit are in full blocks
  pub all_full : (bs : List (DeviceBlock S R)) → AllFit block bs → length bs * block ≤ counts bs → AllFull block bs
  all_full [] a h = All-nil (λ (b : DeviceBlock S R). b.count ≡ block)
  all_full (b ∷ bs) a h =
      let P : DeviceBlock S R → Type 0 = λ b. b.count ≤ block in
      let Q : DeviceBlock S R → Type 0 = λ b. b.count ≡ block in
      let here = All-head P b bs a in
      let rest = counts_fit bs (All-tail P b bs a) in
      let one = suc-mul (length bs) block in
      All-cons Q b bs (omega (arith, counts_cons b bs, one, here, rest, h)) (all_full bs (All-tail P b bs a) (omega (arith, counts_cons b bs, one, here, rest, h)))

  -- records that fill whole blocks
  pub full_exact : (bs : List (DeviceBlock S R)) (k : ℕ) → AllFit block bs → counts bs ≡ k * block → length bs * block < counts bs + block → AllFull block bs
  full_exact bs k a size tight =
      let more : (1 + k) * block ≡ block + k * block = suc-mul' k in
      let few : length bs < 1 + k = fewer_than (length bs) (1 + k) block (omega (arith, tight, size, more)) in
      all_full bs a (let e : length bs * block ≤ k * block = mul-le (length bs) block k block (omega (arith, few)) (omega arith) in omega (arith, e, size))
    where
      suc-mul' : (k : ℕ) → (1 + k) * block ≡ block + k * block
      suc-mul' k = omega (arith, add-mul 1 k block)

  packed_cons : (b : DeviceBlock S R) (cs : List (DeviceBlock S R)) → b.count ≡ block → 0 < length cs → IsPacked block cs → IsPacked block (b ∷ cs)
  packed_cons b [] e some p = absurd (omega arith)
  packed_cons b (c ∷ cs) e some p =
      let P : DeviceBlock S R → Type 0 = λ b. b.count ≤ block in
      let Q : DeviceBlock S R → Type 0 = λ b. b.count ≡ block in
      let n : length (b ∷ c ∷ cs) - 1 ≡ suc (length (c ∷ cs) - 1) = omega arith in
      record {
        full = subst (λ k. All Q (take k (b ∷ c ∷ cs))) (sym n) (All-cons Q b (take (length (c ∷ cs) - 1) (c ∷ cs)) e p.full);
        last = All-cons P b (c ∷ cs) (omega (arith, e)) p.last;
      }

  -- full blocks before others
  pub packed_append : (bs cs : List (DeviceBlock S R)) → AllFull block bs → 0 < length cs → IsPacked block cs → IsPacked block (bs ++ cs)
  packed_append [] cs a some p = p
  packed_append (b ∷ bs) cs a some p =
      let Q : DeviceBlock S R → Type 0 = λ b. b.count ≡ block in
      packed_cons b (bs ++ cs) (All-head Q b bs a) (omega (arith, length-append bs cs)) (packed_append bs cs (All-tail Q b bs a) some p)

  -- and before none
  pub packed_full : (bs : List (DeviceBlock S R)) → AllFull block bs → IsPacked block bs
  packed_full bs a =
      let Q : DeviceBlock S R → Type 0 = λ b. b.count ≡ block in
      record { full = all_take (length bs - 1) bs a; last = full_fit bs a }
    where
      all_take : (n : ℕ) (bs : List (DeviceBlock S R)) → AllFull block bs → AllFull block (take n bs)
      all_take n bs a = All-take (λ (b : DeviceBlock S R). b.count ≡ block) n bs a

-- Buffers that were filled one after the other.
use Rattle.std.proofs.Common.{◌≡◌, ℕ, zero, suc, ◌+◌, ◌*◌, ◌<◌, ◌≤◌, List, [], ◌∷◌, ◌++◌, length, map, sum_by, All, refl, ap, ◌∙◌, subst, arith, length-append}
use Rattle.std.proofs.lemmas.List.Sums.{sum_by-cons}
use Rattle.std.proofs.lemmas.List.Elements.{All-cons, All-nil}
use Rattle.std.proofs.Math.Nat.{suc-mul}
use Rattle.std.specs.declared.cmp.Ordering.{Ordering}
use Rattle.ppq_fetch.proofs.ppq_record.Order.{IsSameBag-length}
use Rattle.ppq_fetch.specs.ppq_block.Block.{Block, holding}
use Rattle.ppq_fetch.specs.ppq_array.Run.{Run, buffers_of}
use Rattle.ppq_spill.specs.Writing.{MergedOut, left_in}
use Rattle.ppq_spill.specs.Grouping.{MergedInto}
use Rattle.ppq_spill.proofs.Filling.{at_least_one}
use Rattle.ppq_spill.proofs.Writings.{some_out}

module _ {R : Type 0} (cmp : R → R → Ordering) (block : ℕ) where
  -- one more
  pub MergedInto-snoc :
      (bs : List (Block R)) (b : Block R) (runs : List (Run R)) (rest : List R) (mid : List (Run R)) (over : List R) (runs' : List (Run R)) (rest' : List R)
      → MergedInto cmp block bs runs rest mid over → b ≡ holding block b.items → MergedOut cmp block mid runs' over rest' b.items → MergedInto cmp block (bs ++ b ∷ []) runs rest runs' rest'
  MergedInto-snoc [] b runs rest mid over runs' rest' into is merged =
      (runs', rest', is, subst (λ rs. MergedOut cmp block rs runs' rest rest' b.items) into.0 (subst (λ xs. MergedOut cmp block mid runs' xs rest' b.items) into.1 merged), (refl, refl))
  MergedInto-snoc (a ∷ bs) b runs rest mid over runs' rest' (m, o, here, one, next) is merged =
      (m, o, here, one, MergedInto-snoc bs b m o mid over runs' rest' next is merged)

  -- the runs have the buffers that they had
  pub MergedInto-buffers : (bs : List (Block R)) (runs : List (Run R)) (rest : List R) (runs' : List (Run R)) (rest' : List R) → MergedInto cmp block bs runs rest runs' rest' → map buffers_of runs' ≡ map buffers_of runs
  MergedInto-buffers [] runs rest runs' rest' into = ap (map buffers_of) into.0
  MergedInto-buffers (b ∷ bs) runs rest runs' rest' (mid, over, here, one, next) = MergedInto-buffers bs mid over runs' rest' next ∙ one.buffers

  -- what one buffer took
  merged_length : (runs runs' : List (Run R)) (rest rest' out : List R) → MergedOut cmp block runs runs' rest rest' out → length (left_in runs rest) ≡ length out + length (left_in runs' rest')
  merged_length runs runs' rest rest' out merged = IsSameBag-length (left_in runs rest) (out ++ left_in runs' rest') merged.bag ∙ length-append out (left_in runs' rest')

  -- what they took and what is left is what there was
  pub MergedInto-count :
      (bs : List (Block R)) (runs : List (Run R)) (rest : List R) (runs' : List (Run R)) (rest' : List R) → MergedInto cmp block bs runs rest runs' rest'
      → sum_by (λ (b : Block R). length b.items) bs + length (left_in runs' rest') ≡ length (left_in runs rest)
  MergedInto-count [] runs rest runs' rest' (same, over) = omega (arith, ap (λ rs. length (left_in rs rest')) same, ap (λ xs. length (left_in runs xs)) over)
  MergedInto-count (b ∷ bs) runs rest runs' rest' (mid, o, here, one, next) =
      omega (arith, MergedInto-count bs mid o runs' rest' next, merged_length runs mid rest o b.items one, sum_by-cons (λ (b : Block R). length b.items) b bs)

  -- each is a buffer of a block
  pub MergedInto-holding : (bs : List (Block R)) (runs : List (Run R)) (rest : List R) (runs' : List (Run R)) (rest' : List R) → MergedInto cmp block bs runs rest runs' rest' → All (λ (b : Block R). b ≡ holding block b.items) bs
  MergedInto-holding [] runs rest runs' rest' into = All-nil (λ (b : Block R). b ≡ holding block b.items)
  MergedInto-holding (b ∷ bs) runs rest runs' rest' (mid, over, here, one, next) = All-cons (λ (b : Block R). b ≡ holding block b.items) b bs here (MergedInto-holding bs mid over runs' rest' next)

  -- each has a record, where no slot is too many for what there was
  pub MergedInto-some :
      (bs : List (Block R)) (n : ℕ) (runs : List (Run R)) (rest : List R) (runs' : List (Run R)) (rest' : List R) → 1 ≤ block → length bs ≤ n → n * block < length (left_in runs rest) + block → MergedInto cmp block bs runs rest runs' rest'
      → All (λ (b : Block R). 0 < length b.items) bs
  MergedInto-some [] n runs rest runs' rest' some few least into = All-nil (λ (b : Block R). 0 < length b.items)
  MergedInto-some (b ∷ bs) zero runs rest runs' rest' some few least into = absurd (omega (arith, few))
  MergedInto-some (b ∷ []) (suc n) runs rest runs' rest' some few least (mid, o, here, one, next) =
      All-cons (λ (b : Block R). 0 < length b.items) b [] (some_out n block (length (left_in runs rest)) (length b.items) some least one.count) (All-nil (λ (b : Block R). 0 < length b.items))
  MergedInto-some (b ∷ c ∷ bs) (suc n) runs rest runs' rest' some few least (mid, o, here, one, next) =
      let more : suc n * block ≡ n * block + block = suc-mul n block in
      All-cons (λ (b : Block R). 0 < length b.items) b (c ∷ bs) (some_out n block (length (left_in runs rest)) (length b.items) some least one.count)
      (MergedInto-some (c ∷ bs) n mid o runs' rest' some (omega (arith, few)) (omega (arith, least, more, one.count, merged_length runs mid rest o b.items one, at_least_one n block (omega (arith, few)))) next)

  -- none has more records than fit
  pub MergedInto-fit : (bs : List (Block R)) (runs : List (Run R)) (rest : List R) (runs' : List (Run R)) (rest' : List R) → MergedInto cmp block bs runs rest runs' rest' → All (λ (b : Block R). length b.items ≤ block) bs
  MergedInto-fit [] runs rest runs' rest' into = All-nil (λ (b : Block R). length b.items ≤ block)
  MergedInto-fit (b ∷ bs) runs rest runs' rest' (mid, over, here, one, next) = All-cons (λ (b : Block R). length b.items ≤ block) b bs (omega (arith, one.count)) (MergedInto-fit bs mid over runs' rest' next)

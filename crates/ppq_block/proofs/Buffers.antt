-- The fields of a buffer and what is seen of them, through a push, a clear and a refill.
use Rattle.std.proofs.Common.{◌≡◌, ℕ, ◌+◌, ◌-◌, ◌*◌, ◌<◌, ◌≤◌, Bool, true, false, cond, List, [], ◌∷◌, ◌++◌, length, take, drop, All, replicate, Some, None, refl, sym, ap, ap₂, ◌∙◌, arith, length-append, length-take, length-drop, take-append-drop, add-one}
use Rattle.std.proofs.lemmas.List.{take_at, drop_at, length-take-le, drop-replicate}
use Rattle.std.specs.List.{slice_get}
use Rattle.std.proofs.Math.Seq.{drop-drop, drop-length}
use Rattle.std.proofs.Math.ListN.{length-replicate, replicate-append-replicate}
use Rattle.std.proofs.Math.Nat.{suc-mul, mul-le-mul_right}
use Rattle.ppq_record.specs.Given.{records_from}
use Rattle.ppq_block.specs.Block.{Block, seen, holding, padded, content, left_behind, IsBuffer}
use Rattle.ppq_block.proofs.Blocks.{length-records_from, records_from-suc, records_from-take, slice_get-records_from, flat_map-records_from}

-- the bytes of so many records, and of one more, are within those of a block
pub fits : (w block count : ℕ) → count ≤ block → count * w ≤ block * w
fits w block count h = mul-le-mul_right w h

one_more : (w count : ℕ) → (count + 1) * w ≡ count * w + w
one_more w count = ap (λ k. k * w) (add-one count) ∙ suc-mul count w

pub fits_one : (w block count : ℕ) → count < block → count * w + w ≤ block * w
fits_one w block count h = let k : count + 1 ≤ block = omega arith in omega (arith, fits w block (count + 1) k, one_more w count)

-- a part written behind the first n bytes
module _ (old part : List ℕ) (n w : ℕ) where
  abbrev pub written : List ℕ
  written = take n old ++ (part ++ drop (n + w) old)

  pub length-written : n + w ≤ length old → length part ≡ w → length written ≡ length old
  length-written h e = omega (arith, length-append (take n old) (part ++ drop (n + w) old), length-append part (drop (n + w) old), length-take n old, length-drop (n + w) old)

  take-written : n + w ≤ length old → take n written ≡ take n old
  take-written h = take_at (take n old) (part ++ drop (n + w) old) n (length-take-le n old (omega arith))

  drop-written : n + w ≤ length old → drop n written ≡ part ++ drop (n + w) old
  drop-written h = drop_at (take n old) (part ++ drop (n + w) old) n (length-take-le n old (omega arith))

  drop-written_part : n + w ≤ length old → length part ≡ w → drop (n + w) written ≡ drop w (drop n old)
  drop-written_part h e = sym (drop-drop w n written) ∙ ap (drop w) (drop-written h) ∙ drop_at part (drop (n + w) old) w e ∙ sym (drop-drop w n old)

module _ (w block count : ℕ) (old : List ℕ) where
  pub IsBuffer-push : (part : List ℕ) → IsBuffer w block count true old → count < block → length part ≡ w → IsBuffer w block (count + 1) true (written old part (count * w) w)
  IsBuffer-push part is h e =
      let room : count * w + w ≤ length old = omega (arith, is.whole, fits_one w block count h) in
      let tail : drop (count * w + w) (written old part (count * w) w) ≡ replicate (block * w - (count * w + w)) 0 =
      drop-written_part old part (count * w) w room e ∙ ap (drop w) (is.zeros refl) ∙ drop-replicate w (block * w - count * w) 0 ∙ (let s : block * w - count * w - w ≡ block * w - (count * w + w) = omega arith in ap (λ k. replicate k 0) s) in
      record {
        whole = length-written old part (count * w) w room e ∙ is.whole;
        fits = omega arith;
        none = λ z. absurd (cc);
        zeros = λ z. ap (λ k. drop k (written old part (count * w) w)) (one_more w count) ∙ tail ∙ ap (λ k. replicate (block * w - k) 0) (sym (one_more w count));
      }

  pub IsBuffer-refill : (settled : Bool) (n : ℕ) → IsBuffer w block count settled old → n ≤ block → IsBuffer w block n true (take (n * w) old ++ replicate (length old - n * w) 0)
  IsBuffer-refill settled n is h =
      let room : n * w ≤ length old = omega (arith, is.whole, fits w block n h) in
      record {
        whole = omega (arith, length-append (take (n * w) old) (replicate (length old - n * w) 0), length-take (n * w) old, length-replicate {A = ℕ} (length old - n * w) 0, is.whole);
        fits = h;
        none = λ z. absurd (cc);
        zeros = λ z. drop_at (take (n * w) old) (replicate (length old - n * w) 0) (n * w) (length-take-le (n * w) old room) ∙ ap (λ k. replicate (k - n * w) 0) is.whole;
      }

  -- zeros in place of the used bytes are zeros all over
  all_zeros : (used : ℕ) → used ≤ length old → drop used old ≡ replicate (length old - used) 0 → replicate used 0 ++ drop used old ≡ replicate (length old) 0
  all_zeros used h e = ap (λ x. replicate used 0 ++ x) e ∙ replicate-append-replicate used (length old - used) 0 ∙ (let s : used + (length old - used) ≡ length old = omega arith in ap (λ k. replicate k 0) s)

  -- how many of the bytes may be other than zero
  abbrev used_of : Bool → ℕ
  used_of settled = cond settled (count * w) (length old)

  used-le : (settled : Bool) → IsBuffer w block count settled old → used_of settled ≤ length old
  used-le true is = omega (arith, is.whole, fits w block count is.fits)
  used-le false is = omega arith

  drop-used : (settled : Bool) → IsBuffer w block count settled old → drop (used_of settled) old ≡ replicate (length old - used_of settled) 0
  drop-used true is = is.zeros refl ∙ ap (λ k. replicate (k - count * w) 0) (sym is.whole)
  drop-used false is = drop-length old ∙ (let s : 0 ≡ length old - length old = omega arith in ap (λ k. replicate k 0) s)

  pub IsBuffer-clear : (settled : Bool) (used : ℕ) → used ≡ cond settled (count * w) (length old) → IsBuffer w block count settled old → IsBuffer w block 0 true (replicate used 0 ++ drop used old)
  IsBuffer-clear settled used u is =
      let all : replicate used 0 ++ drop used old ≡ replicate (length old) 0 =
      ap (λ k. replicate k 0 ++ drop k old) u ∙ all_zeros (used_of settled) (used-le settled is) (drop-used settled is) in
      let z : 0 * w ≡ 0 = omega arith in
      record {
        whole = ap length all ∙ length-replicate (length old) 0 ∙ is.whole;
        fits = omega arith;
        none = λ z. absurd (cc);
        zeros = λ s. ap (λ k. drop k (replicate used 0 ++ drop used old)) z ∙ all ∙ (let e : length old ≡ block * w - 0 * w = omega (arith, is.whole) in ap (λ k. replicate k 0) e);
      }

module _ {R : Type 0} (f : List ℕ → R) (w block count : ℕ) (old : List ℕ) where
  records-written : (part : List ℕ) (r : R) → count * w + w ≤ length old → length part ≡ w → f part ≡ r → records_from f w (count + 1) (written old part (count * w) w) ≡ records_from f w count old ++ r ∷ []
  records-written part r room e back =
      let new = written old part (count * w) w in
      let first : records_from f w count new ≡ records_from f w count old =
      sym (records_from-take f w count new) ∙ ap (records_from f w count) (take-written old part (count * w) w room) ∙ records_from-take f w count old in
      let last : f (take w (drop (count * w) new)) ≡ r =
      ap (λ x. f (take w x)) (drop-written old part (count * w) w room) ∙ ap f (take_at part (drop (count * w + w) old) w e) ∙ back in
      ap (λ k. records_from f w k new) (add-one count) ∙ records_from-suc f w count new ∙ ap₂ (λ (xs : List R) (x : R). xs ++ x ∷ []) first last

  pub records-refilled : (n : ℕ) (rest : List ℕ) → n * w ≤ length old → records_from f w n (take (n * w) old ++ rest) ≡ records_from f w n old
  records-refilled n rest room =
      sym (records_from-take f w n (take (n * w) old ++ rest)) ∙ ap (records_from f w n) (take_at (take (n * w) old) rest (n * w) (length-take-le (n * w) old room)) ∙ records_from-take f w n old

  -- of a buffer with these fields a contract sees v
  module _ (v : Block R) where
    pub length-items : (settled : Bool) → seen f w block count settled old ≡ v → (settled ≡ false → count ≡ 0) → length v.items ≡ count
    length-items true e none = sym (ap (λ v. length v.items) e) ∙ length-records_from f w count old
    length-items false e none = sym (ap (λ v. length v.items) e) ∙ sym (none refl)

    pub block-is : (settled : Bool) → seen f w block count settled old ≡ v → v.block ≡ block
    block-is true e = sym (ap (λ v. v.block) e)
    block-is false e = sym (ap (λ v. v.block) e)

    pub settled-is : (settled : Bool) → seen f w block count settled old ≡ v → v.raw ≡ None → settled ≡ true
    settled-is true e h = refl
    settled-is false e h = let k : Some old ≡ v.raw = ap (λ v. v.raw) e in absurd (cc)

    pub room-one : (settled : Bool) → seen f w block count settled old ≡ v → IsBuffer w block count settled old → length v.items < v.block → (count < block) × (count * w + w ≤ length old)
    room-one settled e is h =
        let k : count < block = omega (arith, length-items settled e is.none, block-is settled e) in
        (k, omega (arith, fits_one w block count k, is.whole))

    pub slice_get-items : (settled : Bool) → seen f w block count settled old ≡ v → (i : ℕ) → i < length v.items → slice_get v.items i ≡ Some (f (take w (drop (i * w) old)))
    slice_get-items true e i h =
        let k : i < count = omega (arith, length-items true e (λ z. absurd (cc))) in
        sym (ap (λ v. slice_get v.items i) e) ∙ slice_get-records_from f w count old i k
    slice_get-items false e i h = let k : 0 ≡ length v.items = ap (λ v. length v.items) e in absurd (omega arith)

    pub holding-push : (settled : Bool) → seen f w block count settled old ≡ v → v.raw ≡ None → (part : List ℕ) (r : R) → count * w + w ≤ length old → length part ≡ w → f part ≡ r → seen f w block (count + 1) settled (written old part (count * w) w) ≡ holding v.block (v.items ++ r ∷ [])
    holding-push true e h part r room long back =
        ap₂ (λ (b : ℕ) (xs : List R). holding b xs) (ap (λ v. v.block) e) (records-written part r room long back ∙ ap (λ v. v.items ++ r ∷ []) e)
    holding-push false e h part r room long back = let k : Some old ≡ v.raw = ap (λ v. v.raw) e in absurd (cc)

    pub records-items : (settled : Bool) → seen f w block count settled old ≡ v → v.raw ≡ None → records_from f w (length v.items) old ≡ v.items
    records-items true e h = ap (λ k. records_from f w k old) (length-items true e (λ z. absurd (cc))) ∙ ap (λ v. v.items) e
    records-items false e h = let k : Some old ≡ v.raw = ap (λ v. v.raw) e in absurd (cc)

    module _ (g : R → List ℕ) (back : (b : List ℕ) → length b ≡ w → All (λ x. x < 256) b → g (f b) ≡ b) (below : All (λ x. x < 256) old) where
      padded-records : IsBuffer w block count true old → padded g w block (records_from f w count old) ≡ old
      padded-records is =
          let room : count * w ≤ length old = omega (arith, is.whole, fits w block count is.fits) in
          ap₂ (λ (x y : List ℕ). x ++ y)
          (flat_map-records_from f w g back count old below room)
          (ap (λ k. replicate (block * w - k * w) 0) (length-records_from f w count old) ∙ sym (is.zeros refl))
          ∙ take-append-drop (count * w) old

      -- the bytes that a contract sees are the bytes that are there
      pub content-is : (settled : Bool) → seen f w block count settled old ≡ v → IsBuffer w block count settled old → content g w v ≡ old
      content-is true e is = sym (ap (content g w) e) ∙ padded-records is
      content-is false e is = sym (ap (content g w) e)

      pub padded-is : (settled : Bool) → seen f w block count settled old ≡ v → IsBuffer w block count settled old → v.raw ≡ None → padded g w v.block v.items ≡ old
      padded-is true e is h = sym (ap (λ v. padded g w v.block v.items) e) ∙ padded-records is
      padded-is false e is h = let k : Some old ≡ v.raw = ap (λ v. v.raw) e in absurd (cc)

module _ {R : Type 0} (g : R → List ℕ) (w : ℕ) (b : Block R) (bytes : List ℕ) where
  -- bytes that were read into a buffer are its content
  pub content-left_behind : length bytes ≡ b.block * w → content g w (left_behind g w b bytes) ≡ bytes
  content-left_behind e = take_at bytes (drop (length bytes) (content g w b)) (b.block * w) e

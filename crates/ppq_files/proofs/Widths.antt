-- Records of a width: how many fit into some bytes, and where the bytes of some of them end.
use Rattle.std.proofs.Common.{◌≡◌, ℕ, ◌+◌, ◌-◌, ◌*◌, ◌/◌, ◌<◌, ◌≤◌, ◌^◌, List, ◌++◌, Option, Some, min, length, take, drop, refl, sym, ◌∙◌, subst, arith}
use Rattle.std.proofs.lemmas.List.{take-append-le, take_all}
use Rattle.std.proofs.Math.Nat.{div-mul-le_self, le-div_iff_mul-le, mul-le-mul_right, add-mul}
use Rattle.ppq_outside.specs.Told.{Reply, bytes_or_none}
use Rattle.ppq_files.specs.Pieces.{PieceState, IsNextPiece}
use Rattle.ppq_files.specs.Reading.{IsGivenAt}

-- as many records as fit take no more than the bytes
pub fit : (most bytes width : ℕ) → most ≤ bytes / width → most * width ≤ bytes
fit most bytes width few = omega (arith, div-mul-le_self bytes width, mul-le-mul_right width few)

-- a record fits
pub one-fits : (bytes width : ℕ) → 0 < width → width ≤ bytes → 1 ≤ bytes / width
one-fits bytes width some room = let one : 1 * width ≤ bytes = omega (arith, room) in (le-div_iff_mul-le some).1 one

-- so many bytes are few where they are of at most 2^32 records
pub few-bytes : (said width : ℕ) → said ≤ 4294967296 * width → width ≤ 64 → said ≤ 2 ^ 63
few-bytes said width few narrow = omega (arith, few, narrow)

-- the front of a list in two parts
pub front-part : (n : ℕ) (xs ys : List ℕ) → n ≡ length xs → take n (xs ++ ys) ≡ xs
front-part n xs ys is = take-append-le n xs ys (omega (arith, is)) ∙ take_all n xs (omega (arith, is))

-- the next records of a file, as many as are left and there is room for
module _ (width said from count room : ℕ) (some : 0 < width) (within : from * width ≤ said) (is : count ≡ min (said / width - from) (room / width)) where
  -- not past its end
  next-below : from + count ≤ said / width
  next-below = let below : from ≤ said / width = (le-div_iff_mul-le some).1 within in omega (arith, is, below)

  pub next-within : (from + count) * width ≤ said
  next-within = fit (from + count) said width next-below

  -- into the room
  pub next-fits : count * width ≤ room
  next-fits = fit count room width (omega (arith, is))

  -- where the bytes of so many end
  pub next-end : (bytes : ℕ) → bytes ≡ count * width → from * width + bytes ≤ said
  next-end bytes long = omega (arith, long, next-within, add-mul from count width)

  -- one or more, where some are left
  pub next-some : width ≤ room → from < said / width → 0 < count
  next-some holds left = omega (arith, is, left, one-fits room width some holds)

  -- these are the next ones
  pub next-piece :
      (told : Option (List ℕ → Option (List ℕ))) (replied : Reply → Type 0) (name piece after : List ℕ) (bytes : ℕ) → bytes ≡ count * width → length piece ≡ bytes → width ≤ room → IsGivenAt replied name (from * width) piece
      → ((files : List ℕ → Option (List ℕ)) → told ≡ Some files → piece ≡ take (length piece) (drop (from * width) (bytes_or_none (files name))))
      → IsNextPiece width told replied (record { name = name; said = said; from = from }) (take bytes (piece ++ after)) bytes (record { name = name; said = said; from = from + count })
  next-piece told replied name piece after bytes full long holds given are =
      let old : PieceState = record { name = name; said = said; from = from } in
      let new : PieceState = record { name = name; said = said; from = from + count } in
      let next : IsNextPiece width told replied old piece bytes new = record {
        count = count;
        new_is = refl;
        bytes_are = full;
        long = long;
        within = next-within;
        some = next-some holds;
        given = given;
        are = are;
      } in
      subst (λ (p : List ℕ). IsNextPiece width told replied old p bytes new) (sym (front-part bytes piece after (sym long))) next

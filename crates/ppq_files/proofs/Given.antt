-- The bytes that reads of a library gave, piece by piece.
use Rattle.std.proofs.Common.{◌≡◌, ℕ, ◌+◌, ◌≤◌, List, [], ◌∷◌, ◌++◌, length, take, Some, refl, sym, ap, ap₂, ◌∙◌, subst, arith, length-append, length-take-le, append-nil}
use Rattle.std.specs.Prelude.{Option}
use Rattle.std.specs.List.{concat}
use Rattle.std.proofs.lemmas.List.{take-append-le}
use Rattle.std.proofs.lemmas.List.Folds.{concat-append}
use Rattle.std.proofs.Math.Seq.{take-append-add}
use borrow.Rule.Slice.PartMut.{put_mid, post_of}
use Rattle.ppq_outside.specs.Told.{Reply, OfLength, OfRead, Remembers}
use Rattle.ppq_files.specs.Reading.{AreGiven, IsGivenAt, IsReplied}
use Rattle.ppq_files.specs.Whole.{IsLoadedAs}

-- the beginning of a list with a piece written into it
take-put : (a k n : ℕ) (xs ys : List ℕ) → a ≤ length xs → n ≤ length ys → take (a + n) (put_mid a k xs ys) ≡ take a xs ++ take n ys
take-put a k n xs ys h l =
    ap (λ m. take (m + n) (put_mid a k xs ys)) (sym (length-take-le a xs h)) ∙ take-append-add (take a xs) (ys ++ post_of a k xs) n ∙ ap (λ (t : List ℕ). take a xs ++ t) (take-append-le n ys (post_of a k xs) l)

-- nothing is forgotten
AreGiven-remembered : (before now : Reply → Type 0) (name : List ℕ) (at : ℕ) (pieces : List (List ℕ)) → Remembers before now → AreGiven before name at pieces → AreGiven now name at pieces
AreGiven-remembered before now name at [] kept given = tt
AreGiven-remembered before now name at (piece ∷ pieces) kept ((room, reply), given) = ((room, kept (OfRead name at room piece) reply), AreGiven-remembered before now name (at + length piece) pieces kept given)

-- one piece more, at the end
AreGiven-push : (replied : Reply → Type 0) (name : List ℕ) (at room : ℕ) (pieces : List (List ℕ)) (last : List ℕ) → AreGiven replied name at pieces → replied (OfRead name (at + length (concat pieces)) room last) → AreGiven replied name at (pieces ++ last ∷ [])
AreGiven-push replied name at room [] last given reply = ((room, let P : ℕ → Type 0 = λ n. replied (OfRead name n room last) in subst P (omega arith) reply), tt)
AreGiven-push replied name at room (piece ∷ pieces) last (first, given) reply =
    (first, AreGiven-push replied name (at + length piece) room pieces last given (let P : ℕ → Type 0 = λ n. replied (OfRead name n room last) in subst P (omega (arith, length-append piece (concat pieces))) reply))

-- reads gave nothing yet
pub given_none : (replied : Reply → Type 0) (name : List ℕ) (at : ℕ) (piece : List ℕ) → IsGivenAt replied name at (take 0 piece)
given_none replied name at piece = record { pieces = []; given = tt; all = refl }

-- what reads gave so far, and one piece more
pub given_more : (before now : Reply → Type 0) (name old into : List ℕ) (at got count k : ℕ) → got ≤ length old → count ≤ length into → Remembers before now → now (OfRead name (at + got) (length into) (take count into)) → IsGivenAt before name at (take got old) → IsGivenAt now name at (take (got + count) (put_mid got k old into))
given_more before now name old into at got count k h l kept reply so_far =
    let long : length (concat so_far.pieces) ≡ got = ap (λ (t : List ℕ). length t) so_far.all ∙ length-take-le got old h in
    let P : ℕ → Type 0 = λ n. now (OfRead name (at + n) (length into) (take count into)) in
    record {
      pieces = so_far.pieces ++ take count into ∷ [];
      given = AreGiven-push now name at (length into) so_far.pieces (take count into) (AreGiven-remembered before now name at so_far.pieces kept so_far.given) (subst P (sym long) reply);
      all = concat-append so_far.pieces (take count into ∷ []) ∙ ap₂ (λ (x y : List ℕ). x ++ y) so_far.all (append-nil (take count into)) ∙ sym (take-put got k count old into h l);
    }

-- bytes that were given stay given while nothing is forgotten
pub replied_remembered : (before now : Reply → Type 0) (name bytes : List ℕ) → Remembers before now → IsReplied before name bytes → IsReplied now name bytes
replied_remembered before now name bytes kept is = record {
  said = kept (OfLength name (Some (length bytes))) is.said;
  gave = record { pieces = is.gave.pieces; given = AreGiven-remembered before now name 0 is.gave.pieces kept is.gave.given; all = is.gave.all };
}

-- so does the file as which they were loaded
pub loaded_remembered :
    (told : Option (List ℕ → Option (List ℕ))) (before now : Reply → Type 0) (name : List ℕ) (most : ℕ) (bytes : List ℕ)
    → Remembers before now → IsLoadedAs told before name most bytes → IsLoadedAs told now name most bytes
loaded_remembered told before now name most bytes kept is = record { short = is.short; loaded = is.loaded; given = replied_remembered before now name bytes kept is.given }

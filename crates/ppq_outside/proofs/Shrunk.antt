-- The entries and the files of a library that was shrunk.
use Rattle.std.proofs.Common.{◌≡◌, ℕ, suc, ◌+◌, ◌<◌, List, [], ◌∷◌, ◌++◌, length, take, drop, get_or, set, map, refl, sym, ap, ap₂, ◌∙◌, arith, subst, add-one, drop-cons}
use Rattle.std.proofs.Math.Seq.{take-suc, take-suc-set}
use Rattle.std.proofs.lemmas.List.{drop-set-lt}
use Rattle.std.proofs.lemmas.List.Elements.{AllZip-push}
use Rattle.std.specs.List.{AllZip}
use Rattle.ppq_outside.specs.MemoryLibrary.{File, shrunk_file}
use Rattle.ppq_outside.specs.Entries.{files_of, IsShrunk}
use Rattle.ppq_outside.specs.declared.memory_library.Entry.{Entry}

pub files_of_shrunk : (name : List ℕ) (to : ℕ) (old new : List Entry) → AllZip (IsShrunk name to) old new → files_of new ≡ map (shrunk_file name to) (files_of old)
files_of_shrunk name to [] [] h = refl
files_of_shrunk name to [] (y ∷ ys) h = elim h [ ]
files_of_shrunk name to (x ∷ xs) [] h = elim h [ ]
files_of_shrunk name to (x ∷ xs) (y ∷ ys) h = ap₂ (λ (f : File) (fs : List File). f ∷ fs) h.0 (files_of_shrunk name to xs ys h.1)

-- the item at a place, and those behind it, where two lists have the same items from there on
same_here : {X : Type 0} (xs ys : List X) (i : ℕ) (d : X) → i < length xs → length ys ≡ length xs → drop i ys ≡ drop i xs → (get_or ys i d ≡ get_or xs i d) × (drop (suc i) ys ≡ drop (suc i) xs)
same_here xs ys i d below long left =
    let there : i < length ys = omega arith in
    let both : get_or ys i d ∷ drop (suc i) ys ≡ get_or xs i d ∷ drop (suc i) xs = sym (drop-cons ys i d there) ∙ left ∙ drop-cons xs i d below in
    (cc, cc)

-- one more item was changed as R says
pub done_more : {X : Type 0} (R : X → X → Type 0) (xs ys : List X) (i : ℕ) (d y : X) → i < length xs → length ys ≡ length xs → drop i ys ≡ drop i xs
    → AllZip R (take i xs) (take i ys) → R (get_or ys i d) y → AllZip R (take (i + 1) xs) (take (i + 1) (set ys i y))
done_more R xs ys i d y below long left done changed =
    let there : i < length ys = omega arith in
    let here = same_here xs ys i d below long left in
    let olds : take (i + 1) xs ≡ take i xs ++ get_or xs i d ∷ [] = ap (λ (n : ℕ). take n xs) (add-one i) ∙ take-suc xs i d below in
    let news : take (i + 1) (set ys i y) ≡ take i ys ++ y ∷ [] = ap (λ (n : ℕ). take n (set ys i y)) (add-one i) ∙ take-suc-set ys i y there in
    rw (olds, news) (AllZip-push R (take i xs) (take i ys) (get_or xs i d) y done (subst (λ (x : _). R x y) here.0 changed))

-- and those behind it are as before
pub left_more : {X : Type 0} (xs ys : List X) (i : ℕ) (d y : X) → i < length xs → length ys ≡ length xs → drop i ys ≡ drop i xs → drop (i + 1) (set ys i y) ≡ drop (i + 1) xs
left_more xs ys i d y below long left =
    let after : i < i + 1 = omega arith in
    let here = same_here xs ys i d below long left in
    drop-set-lt (i + 1) ys i y after ∙ ap (λ (n : ℕ). drop n ys) (add-one i) ∙ here.1 ∙ ap (λ (n : ℕ). drop n xs) (sym (add-one i))

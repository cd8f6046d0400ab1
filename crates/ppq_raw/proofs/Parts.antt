-- Transfers in parts: what a write and then one behind it make of a file, and what a read and then one behind it give of it.
use Rattle.std.proofs.Common.{◌≡◌, ℕ, ◌+◌, ◌-◌, ◌≤◌, List, [], ◌∷◌, ◌++◌, length, take, drop, replicate, refl, sym, ap, ap₂, ◌∙◌, subst, arith, append_assoc, length-append, length-take, length-take-le, append-nil, take-add, drop-drop}
use Rattle.std.proofs.lemmas.List.{take-append-le, take_rest, length-replicate}
use Rattle.std.proofs.Math.Seq.{take-append-add, take-append_seam, drop-append-add}
use borrow.Rule.Slice.PartMut.{put_mid, post_of}
use Rattle.ppq_raw.specs.Transfers.{put_at, written_at, IsAt, Keeps, Writes, WritesMore, Gives, GivesMore}

-- the bytes of a file before an offset, with zeros after its end
abbrev before_of : List ℕ → ℕ → List ℕ
before_of file at = take at file ++ replicate (at - length file) 0

length-before_of : (file : List ℕ) (at : ℕ) → length (before_of file at) ≡ at
length-before_of file at = omega (arith, length-append (take at file) (replicate (at - length file) 0), length-take at file, length-replicate {A = ℕ} (at - length file) 0)

-- of a beginning and what follows, the beginning is before the place where it ends
before-append : (first rest : List ℕ) → before_of (first ++ rest) (length first) ≡ first
before-append first rest =
    let none : length first - length (first ++ rest) ≡ 0 = omega (arith, length-append first rest) in
    ap₂ (λ (x : List ℕ) (n : ℕ). x ++ replicate n 0) (take-append_seam first rest) none ∙ append-nil first

-- the file that ends with what was behind the bytes of a first write
put_two : (file a b : List ℕ) (at : ℕ) → put_at (put_at file at a) (at + length a) b ≡ put_at file at (a ++ b)
put_two file a b at =
    let first = before_of file at ++ a in
    let rest = drop (at + length a) file in
    let long : length first ≡ at + length a = omega (arith, length-append (before_of file at) a, length-before_of file at) in
    let head : before_of (first ++ rest) (at + length a) ≡ first = ap (λ n. before_of (first ++ rest) n) (sym long) ∙ before-append first rest in
    let behind : drop (at + length a + length b) (first ++ rest) ≡ drop (at + length a + length b) file =
    ap (λ n. drop (n + length b) (first ++ rest)) (sym long) ∙ drop-append-add first rest (length b) ∙ drop-drop (length b) (at + length a) file in
    let joined : first ++ b ≡ before_of file at ++ (a ++ b) = append_assoc (before_of file at) a b in
    let end : at + length a + length b ≡ at + length (a ++ b) = omega (arith, length-append a b) in
    ap₂ (λ (x y : List ℕ). (x ++ b) ++ y) head behind ∙ ap₂ (λ (x : List ℕ) (n : ℕ). x ++ drop n file) joined end

written_two : (file a b : List ℕ) (at : ℕ) → written_at (written_at file at a) (at + length a) b ≡ written_at file at (a ++ b)
written_two file [] [] at = refl
written_two file [] (y ∷ b) at = let e : at + 0 ≡ at = omega arith in ap (λ n. put_at file n (y ∷ b)) e
written_two file (x ∷ a) [] at = ap (λ (t : List ℕ). written_at file at t) (sym (append-nil (x ∷ a)))
written_two file (x ∷ a) (y ∷ b) at = put_two file (x ∷ a) (y ∷ b) at

-- the first bytes of a list are written, and then a few more of them
written_more : (file bytes : List ℕ) (at done count : ℕ) → done ≤ length bytes → written_at (written_at file at (take done bytes)) (at + done) (take count (drop done bytes)) ≡ written_at file at (take (done + count) bytes)
written_more file bytes at done count h =
    ap (λ n. written_at (written_at file at (take done bytes)) (at + n) (take count (drop done bytes))) (sym (length-take-le done bytes h))
    ∙ written_two file (take done bytes) (take count (drop done bytes)) at
    ∙ ap (λ (t : List ℕ). written_at file at t) (sym (take-add done count bytes))

-- the beginning of a list with a piece written into it
take-put : (a k n : ℕ) (xs ys : List ℕ) → a ≤ length xs → n ≤ length ys → take (a + n) (put_mid a k xs ys) ≡ take a xs ++ take n ys
take-put a k n xs ys h l =
    ap (λ m. take (m + n) (put_mid a k xs ys)) (sym (length-take-le a xs h)) ∙ take-append-add (take a xs) (ys ++ post_of a k xs) n ∙ ap (λ (t : List ℕ). take a xs ++ t) (take-append-le n ys (post_of a k xs) l)

-- the first bytes that were read are those of a file, and a few more are
pub given_more :
    (file old into : List ℕ) (at got count k : ℕ) → got ≤ length old → count ≤ length into
    → IsAt file at (take got old) → IsAt file (at + got) (take count into) → IsAt file at (take (got + count) (put_mid got k old into))
given_more file old into at got count k h l first next =
    let put : take (got + count) (put_mid got k old into) ≡ take got old ++ take count into = take-put got k count old into h l in
    let long : length (take got old) ≡ got = length-take-le got old h in
    let more : length (take count into) ≡ count = length-take-le count into l in
    let one : take got old ≡ take got (drop at file) = first ∙ ap (λ n. take n (drop at file)) long in
    let two : take count into ≡ take count (drop got (drop at file)) = next ∙ ap (λ n. take n (drop (at + got) file)) more ∙ ap (take count) (sym (drop-drop got at file)) in
    let all : take got old ++ take count into ≡ take (got + count) (drop at file) = ap₂ (λ (x y : List ℕ). x ++ y) one two ∙ sym (take-add got count (drop at file)) in
    let size : length (take got old ++ take count into) ≡ got + count = omega (arith, length-append (take got old) (take count into), long, more) in
    let P : List ℕ → Type 0 = λ t. IsAt file at t in
    subst P (sym put) (all ∙ ap (λ n. take n (drop at file)) (sym size))

-- a write of the bytes that are left
pub writes_more :
    (before now : List ℕ → Type 0) (bytes : List ℕ) (at done count : ℕ) → done ≤ length bytes
    → Writes before now (at + done) (take count (take (length bytes - done) (drop done bytes))) → WritesMore before now at bytes done count
writes_more before now bytes at done count h writes =
    λ file held.
    let first = written_at file at (take done bytes) in
    let same : written_at first (at + done) (take count (take (length bytes - done) (drop done bytes))) ≡ written_at file at (take (done + count) bytes) =
    ap (λ (t : List ℕ). written_at first (at + done) (take count t)) (take_rest bytes done) ∙ written_more file bytes at done count h in
    subst now same (writes first held)

-- a loop goes on
pub writes_on : (start before now : List ℕ → Type 0) (at : ℕ) (bytes : List ℕ) (done count : ℕ) → Writes start before at (take done bytes) → WritesMore before now at bytes done count → Writes start now at (take (done + count) bytes)
writes_on start before now at bytes done count first more = λ file held. more file (first file held)

pub keeps_two : (start before now : List ℕ → Type 0) → Keeps start before → Keeps before now → Keeps start now
keeps_two start before now first more = λ file held. more file (first file held)

pub gives_on : (start before : List ℕ → Type 0) (at : ℕ) (old new : List ℕ) (got count : ℕ) → Keeps start before → Gives start at (take got old) → GivesMore before at old new got count → Gives start at (take (got + count) new)
gives_on start before at old new got count kept first more = λ file held. more file (kept file held) (first file held)
